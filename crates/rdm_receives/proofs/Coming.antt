-- Which places have come.
use Rattle.std.proofs.Common.{◌≡◌, ℕ, ◌+◌, ◌-◌, ◌<◌, ◌≤◌, ◌⊎◌, inl, inr, Bool, true, false, not, ◌&&◌, ◌||◌, List, [], length, get_or, Option, Some, None, refl, sym, ap, subst, ◌∙◌, arith}
use Rattle.std.specs.Prelude.{nat_lt, is_some, option_map, slice_get, if◌then◌else◌}
use Rattle.std.proofs.lemmas.Bool.{lt-ltb, le-ltb}
use Rattle.std.proofs.lemmas.List.{get_or_past, get_or_default}
use Rattle.std.proofs.lemmas.Option.{slice_get-get_or}
use Rattle.rdm_num.specs.Pieces.{Piece, byte_in}
use Rattle.rdm_model.proofs.Rows.{byte_in_some, byte_in_before, byte_in_after}
use Rattle.rdm_gaps.specs.Places.{AreMissing, with_range}
use Rattle.rdm_gaps.proofs.Covered.{all_at}
use Rattle.rdm_land.specs.declared.spans.Span.{Span}
use Rattle.rdm_land.specs.Spans.{have}
use Rattle.rdm_land.specs.Landed.{Landed}
use Rattle.rdm_land.specs.Arrivals.{has_come}
use Rattle.rdm_land.proofs.SetRanges.{length-set, set_in, set_out}
use Rattle.rdm_mr.proofs.Overlays.{by_lt, by_range}
use Rattle.rdm_rx.specs.Receiving.{ReceivingView}
use Rattle.rdm_life.specs.Kept.{Matched}
use Rattle.rdm_receives.specs.Shows.{ShowMatch, ShowsMessage, byte_came}

-- the record's message changes as what landed does
pub show_more : (l n : Landed) (f : Matched → Matched) (o : Option ReceivingView) (m : Option Matched)
    → ((r : ReceivingView) (x : Matched) → ShowsMessage l r x → ShowsMessage n r (f x)) → ShowMatch l o m → ShowMatch n o (option_map f m)
show_more l n f None None h s = tt
show_more l n f None (Some x) h s = absurd s
show_more l n f (Some r) None h s = absurd s
show_more l n f (Some r) (Some x) h s = h r x s

-- it stays where the same places have come
pub show_same : (l n : Landed) → ((k : ℕ) → has_come l k ≡ has_come n k) → (o : Option ReceivingView) (m : Option Matched) → ShowMatch l o m → ShowMatch n o m
show_same l n same None None s = tt
show_same l n same None (Some x) s = absurd s
show_same l n same (Some r) None s = absurd s
show_same l n same (Some r) (Some x) s = record { source = s.source; number = s.number; head = s.head; granted = s.granted; came = λ k. s.came k ∙ same k }

-- ---- bytes of a message that came before

-- a place that is missing or past the end has no byte
pub no_byte : (missing : List Bool) (bytes : List ℕ) (k : ℕ) → get_or missing k true ≡ true → byte_came missing bytes k ≡ None
no_byte missing bytes k e = ap (λ b. if b then None else slice_get bytes k) e

-- any other has one
pub a_byte : (missing : List Bool) (bytes : List ℕ) (k : ℕ) → length bytes ≡ length missing → get_or missing k true ≡ false → (k < length missing) × (byte_came missing bytes k ≡ Some (get_or bytes k 0))
a_byte missing bytes k long e =
    let lt : k < length missing = by_lt k (length missing) (λ lt. lt) (λ le. absurd (let past = get_or_past missing k true le in cc)) in
    (lt, ap (λ b. if b then None else slice_get bytes k) e ∙ slice_get-get_or bytes k 0 (omega arith))

-- by the test of a place
pub by_test : {X : Type 0} (missing : List Bool) (k : ℕ) → (get_or missing k true ≡ true → X) → (get_or missing k true ≡ false → X) → X
by_test {X = X} missing k f g = elim (get_or missing k true) as (λ b. get_or missing k true ≡ b → X) [ true ↦ f | false ↦ g ] refl

-- both tests of a place
both_tests : (a b : Bool) → a ≡ true → b ≡ false → (a && not (false || b)) ≡ true
both_tests a b p q = cc

-- the places with a byte are those that have come
pub came_before : (missing : List Bool) (bytes : List ℕ) (k : ℕ) → length bytes ≡ length missing
    → is_some (byte_came missing bytes k) ≡ (nat_lt k (length missing) && not (false || get_or missing k false))
came_before missing bytes k long =
    by_test missing k
    (λ e. ap is_some (no_byte missing bytes k e) ∙ sym (none e))
    (λ e.
    let b = a_byte missing bytes k long e in
    ap is_some b.1 ∙ sym (ap (λ t. t && not (false || get_or missing k false)) (lt-ltb k (length missing) b.0) ∙ ap (λ t. not t) (get_or_default missing k false true b.0 ∙ e)))
  where
    none : get_or missing k true ≡ true → (nat_lt k (length missing) && not (false || get_or missing k false)) ≡ false
    none e =
        by_lt k (length missing)
        (λ lt. ap (λ t. t && not (false || get_or missing k false)) (lt-ltb k (length missing) lt) ∙ ap (λ t. not t) (get_or_default missing k false true lt ∙ e))
        (λ le. ap (λ t. t && not (false || get_or missing k false)) (le-ltb k (length missing) le))

-- ---- a piece that comes

or_none : (b : Bool) → (b || false) ≡ b
or_none true = refl
or_none false = refl

or_some : (b : Bool) → (b || true) ≡ true
or_some true = refl
or_some false = refl

module _ (missing : List Bool) (lent : List Span) (taken : (k : ℕ) → have k lent ≡ true → get_or missing k false ≡ false) (at : ℕ) (bytes : List ℕ) (m : AreMissing at (length bytes) missing) where
  abbrev piece : Piece
  piece = record { offset = at; bytes = bytes }

  size : length (with_range false at (length bytes) missing) ≡ length missing
  size = length-set false at (length bytes) missing m.0

  clear : (k : ℕ) → at ≤ k → k < at + length bytes → have k lent ≡ false
  clear k p q = elim (have k lent) as (λ b. have k lent ≡ b → b ≡ false) [
    | true ↦ λ e. (let a = taken k e in let b = all_at true false at (length bytes) k missing m p q in cc)
    | false ↦ λ e. refl
  ] refl

  -- the places that came are those that came before and those of the piece
  pub come_more : (k : ℕ) (before : Bool) → before ≡ (nat_lt k (length missing) && not (have k lent || get_or missing k false))
      → (before || is_some (byte_in (record { offset = at; bytes = bytes }) k)) ≡ (nat_lt k (length (with_range false at (length bytes) missing)) && not (have k lent || get_or (with_range false at (length bytes) missing) k false))
  come_more k before e =
      by_range at (length bytes) k
      (λ p q.
      ap (λ b. before || b) (byte_in_some piece k p q) ∙ or_some before
      ∙ sym (ap (λ n. nat_lt k n && not (have k lent || get_or (with_range false at (length bytes) missing) k false)) size
      ∙ ap (λ b. b && not (have k lent || get_or (with_range false at (length bytes) missing) k false)) (lt-ltb k (length missing) (omega (arith, m.0)))
      ∙ ap (λ b. not (b || get_or (with_range false at (length bytes) missing) k false)) (clear k p q)
      ∙ ap (λ b. not b) (set_in false at (length bytes) missing m.0 k p q)))
      (λ o.
      ap (λ b. before || b) (outside o) ∙ or_none before ∙ e
      ∙ sym (ap (λ n. nat_lt k n && not (have k lent || get_or (with_range false at (length bytes) missing) k false)) size
      ∙ ap (λ b. nat_lt k (length missing) && not (have k lent || b)) (set_out false at (length bytes) missing m.0 k o)))
    where
      outside : (k < at) ⊎ (at + length bytes ≤ k) → is_some (byte_in (record { offset = at; bytes = bytes }) k) ≡ false
      outside (inl p) = ap is_some (byte_in_before piece k p)
      outside (inr p) = ap is_some (byte_in_after piece k p)
