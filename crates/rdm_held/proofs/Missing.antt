-- Which ranges of a message are awaited.
use Rattle.std.proofs.Common.{◌≡◌, refl, sym, ap, ◌∙◌, ℕ, zero, suc, ◌+◌, ◌<◌, ◌≤◌, Bool, true, false, not, List, [], ◌∷◌, Option, Some, None, length, take, drop, replicate, arith, leb-true, le-leb}
use Rattle.std.specs.Prelude.{◌↔◌, cond, nat_le, slice_get, unwrap_or, is_some}
use Rattle.std.specs.Option.{IsSomeAnd}
use Rattle.std.proofs.lemmas.List.{length-drop}
use Rattle.std.proofs.lemmas.Bool.{and_parts}
use Rattle.rdm_lists.specs.Lists.{each_below}
use Rattle.rdm_lists.proofs.Below.{each_below_at, each_below_from}
use Rattle.rdm_lists.proofs.Places.{slice_get_some}
use Rattle.rdm_gaps.specs.Places.{AreMissing}
use Rattle.rdm_window.specs.Message.{Message, Awaits}
use Rattle.rdm_window.specs.Early.{Held, message_at}
use Rattle.rdm_num.specs.declared.numbers.Life.{Life}
use Rattle.rdm_num.specs.declared.numbers.MsgNo.{MsgNo}
use Rattle.rdm_life.specs.Kept.{Kept, EarlyMessage}
use Rattle.rdm_life.specs.Facts.{came_or_outside}
use Rattle.rdm_held.specs.Held.{IsEarly, AreEarly, IsHeldIn}
use Rattle.rdm_held.specs.Laws.{size_of}
use Rattle.rdm_held.proofs.Came.{get_dropped, missing_at}

-- the first elements, each of which is there and holds
all_first : (len : ℕ) (xs : List Bool) → len ≤ length xs → ((k : ℕ) → k < len → slice_get xs k ≡ Some true) → take len xs ≡ replicate len true
all_first zero xs h each = refl
all_first (suc len) [] h each = absurd (omega arith)
all_first (suc len) (x ∷ xs) h each =
    let first : x ≡ true = ap (λ o. unwrap_or o true) (each 0 (omega arith)) in
    let rest = all_first len xs (omega arith) (λ k less. each (suc k) (omega arith)) in
    λ i. first i ∷ rest i

-- a range of which each place is missing
missing_by_each : (at len : ℕ) (places : List Bool) → at + len ≤ length places → ((k : ℕ) → k < len → slice_get places (at + k) ≡ Some true) → AreMissing at len places
missing_by_each at len places h each =
    (h, all_first len (drop at places) (let d = length-drop at places in omega (arith, d)) (λ k less. get_dropped at places k (at + k) refl ∙ each k less))

-- a place that is there and has a byte, of which none came, is missing
was_missing : (o : Option Bool) (b : Option ℕ) → is_some o ≡ true → is_some b ≡ true → is_some (cond (unwrap_or o true) None b) ≡ false → o ≡ Some true
was_missing None b there some none = let e : false ≡ true = there in cc
was_missing (Some true) b there some none = refl
was_missing (Some false) b there some none = let e : true ≡ false = sym some ∙ none in cc

-- a negation that holds
not_held : (b : Bool) → not b ≡ true → b ≡ false
not_held true h = let e : false ≡ true = h in cc
not_held false h = refl

-- one that does not
not_false : (b : Bool) → not b ≡ false → b ≡ true
not_false true h = refl
not_false false h = let e : true ≡ false = h in cc

-- a message that is the record's
module _ (m : Message) (e : EarlyMessage) (is : IsEarly m e) (at len bound : ℕ) (within : (at + len ≤ bound) ↔ (at + len ≤ length m.bytes)) where
  -- nothing came at a place that is missing
  none_at : (place : ℕ) → slice_get m.gaps.places place ≡ Some true → is_some (e.came place) ≡ false
  none_at place h = ap is_some (is.came place ∙ ap (λ o. cond (unwrap_or o true) None (slice_get m.bytes place)) h)

  -- where it awaits a range, none of the range's bytes came
  none_came_by : Awaits at len m → came_or_outside (λ place. is_some (e.came place)) bound at len ≡ false
  unfolding came_or_outside
  none_came_by a =
      let inside : at + len ≤ length m.bytes = let h = a.0 in rw is.whole h in
      rw (le-leb (at + len) bound (within.1 inside), each_below_from (λ k. not (is_some (e.came (at + k)))) len (λ k less. ap not (none_at (at + k) (missing_at at len k m.gaps.places a less)))) refl

  -- and the other way round
  awaits_by : came_or_outside (λ place. is_some (e.came place)) bound at len ≡ false → Awaits at len m
  unfolding came_or_outside
  awaits_by h =
      let both = and_parts (nat_le (at + len) bound) (each_below (λ k. not (is_some (e.came (at + k)))) len) (not_false _ h) in
      let inside : at + len ≤ length m.bytes = within.0 (leb-true (at + len) bound both.0) in
      missing_by_each at len m.gaps.places (rw (sym is.whole) inside) (λ k less.
      was_missing
      (slice_get m.gaps.places (at + k))
      (slice_get m.bytes (at + k))
      (slice_get_some m.gaps.places (at + k) (let w = is.whole in omega (arith, w)))
      (slice_get_some m.bytes (at + k) (omega arith))
      (ap is_some (sym (is.came (at + k))) ∙ not_held _ (each_below_at (λ j. not (is_some (e.came (at + j)))) len k both.1 less)))

-- a message awaits a range exactly where the record has it and none of the range's bytes came
pub awaits_as_kept : (o : Option Message) (q : Option EarlyMessage) (at len bound : ℕ) → AreEarly o q → (at + len ≤ bound) ↔ (at + len ≤ size_of o)
    → IsSomeAnd o (Awaits at len) ↔ IsSomeAnd q (λ e. came_or_outside (λ place. is_some (e.came place)) bound at len ≡ false)
awaits_as_kept None None at len bound is within = (λ h. h, λ h. h)
awaits_as_kept None (Some e) at len bound is within = elim is [ ]
awaits_as_kept (Some m) None at len bound is within = elim is [ ]
awaits_as_kept (Some m) (Some e) at len bound is within = (none_came_by m e is at len bound within, awaits_by m e is at len bound within)

-- the same of all that is held
pub awaits_in : (h : Held) (v : Kept) (source : Life) (number : MsgNo) (at len bound : ℕ) → IsHeldIn h v → (at + len ≤ bound) ↔ (at + len ≤ size_of (message_at h source number))
    → IsSomeAnd (message_at h source number) (Awaits at len) ↔ IsSomeAnd (v.early source number.0) (λ e. came_or_outside (λ place. is_some (e.came place)) bound at len ≡ false)
awaits_in h v source number at len bound held within = awaits_as_kept (message_at h source number) (v.early source number.0) at len bound (held.messages source number) within
