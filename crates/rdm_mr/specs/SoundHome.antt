-- What is true of the fields of a `Home`.
use Rattle.std.specs.Prelude.{◌≡◌, ◌+◌, ◌^◌, ◌<◌, ◌≤◌, [], vec_len, vec_capacity}
use Rattle.rdm_mr.specs.Ordered.{AreApart, AreOf}
use Rattle.rdm_mr.specs.declared.home.Home.TheInside.{Inside}

-- the parts at home tile the range that begins at the anchor, but for what is out
pub record IsHome (h : Inside) : Type 0 where
  pub anchor : h.anchor.bytes ≡ []
  pub small : h.anchor.start + h.size < 2 ^ 63
  pub apart : AreApart h.anchor.start (h.anchor.start + h.size) h.parts.items
  pub of_block : AreOf h.anchor.block h.anchor.whole h.parts.items
  pub room : vec_len h.parts + h.out ≤ vec_capacity h.parts
