-- What is true of the fields of a `Landing`.
use Rattle.std.specs.Prelude.{◌≡◌, ℕ, ◌+◌, ◌^◌, ◌<◌, ◌≤◌, Bool, true, false, List, length, get_or, Option, None, is_none, vec_len}
use Rattle.rdm_land.specs.Spans.{AreApart, have}
use Rattle.rdm_land.specs.declared.spans.Span.{Span}
use Rattle.rdm_land.specs.declared.landing.Landing.TheInside.{Inside}

-- what is lent is not missing, and its places below the capacity are out, and no others
pub record Agrees (missing : List Bool) (cells : List (Option ℕ)) (lent : List Span) : Type 0 where
  pub apart : AreApart 0 (length missing) (length cells) lent
  pub taken : (k : ℕ) → have k lent ≡ true → get_or missing k false ≡ false
  pub out : (k : ℕ) → k < length cells → is_none (get_or cells k None) ≡ have k lent

pub record IsLanding (l : Inside) : Type 0 where
  pub fits : l.length < 2 ^ 64
  pub length_is : l.length ≡ length l.gaps.places
  pub agrees : Agrees l.gaps.places l.home.cells l.lent.items
  pub counted : l.home.out ≡ vec_len l.lent
  pub spare : vec_len l.lent + l.room ≤ l.gaps.spare
