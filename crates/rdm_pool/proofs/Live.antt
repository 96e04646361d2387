-- What a put, a take and a clean-up do to the places.
use Rattle.std.proofs.Common.{◌≡◌, ℕ, Bool, true, false, zero, suc, ◌+◌, ◌<◌, ◌≤◌, List, [], ◌∷◌, ◌++◌, length, Option, Some, None, is_some, cond, filter, refl, sym, ap, ◌∙◌, arith}
use Rattle.std.specs.List.{slice_set}
use Rattle.rdm_pool.specs.Numbered.{without}
use Rattle.rdm_pool.specs.declared.places.Place.{Place}
use Rattle.rdm_pool.specs.Places.{Rises, AreBelow, IsAt, with_entry, live}
use Rattle.rdm_pool.proofs.Entries.{no_entry, without-here, without-later}
use Rattle.rdm_pool.proofs.Search.{least_of, none_below}

-- numbers below a bound are below a greater one
pub below-more : (small great : ℕ) (places : List Place) → small ≤ great → AreBelow small places → AreBelow great places
below-more small great [] more below = tt
below-more small great (place ∷ rest) more below = (omega (arith, below.0), below-more small great rest more below.1)

-- so is one more at the end
pub below-last : (bound : ℕ) (places : List Place) (place : Place) → place.number < bound → AreBelow bound places → AreBelow bound (places ++ place ∷ [])
below-last bound [] place is below = (is, tt)
below-last bound (first ∷ rest) place is below = (below.0, below-last bound rest place is below.1)

-- a greater number may stand last
pub rises-last : (least : ℕ) (places : List Place) (place : Place) → least ≤ place.number → AreBelow place.number places → Rises least places → Rises least (places ++ place ∷ [])
rises-last least [] place is below rises = (is, tt)
rises-last least (first ∷ rest) place is below rises = (rises.0, rises-last (first.number + 1) rest place (omega (arith, below.0)) below.1 rises.1)

-- a place at the end is live after the others
pub live-last : (places : List Place) (number key : ℕ) → live (places ++ record { number = number; key = Some key; is_marked = false } ∷ []) ≡ live places ++ (number, key) ∷ []
unfolding live
live-last [] number key = refl
live-last (place ∷ rest) number key = ap (with_entry place.number place.key) (live-last rest number key) ∙ entry-append place.number place.key (live rest) ((number, key) ∷ [])
  where
    entry-append : (number : ℕ) (o : Option ℕ) (xs ys : List (ℕ × ℕ)) → with_entry number o (xs ++ ys) ≡ with_entry number o xs ++ ys
    entry-append number None xs ys = refl
    entry-append number (Some key) xs ys = refl

-- rising numbers rise from a lower one
rises-lower : (low least : ℕ) (places : List Place) → low ≤ least → Rises least places → Rises low places
rises-lower low least [] le rises = tt
rises-lower low least (place ∷ rest) le rises = (omega (arith, rises.0), rises.1)

-- numbers rise also where a place goes
pub rises-gone : (least : ℕ) (places : List Place) (number i : ℕ) (gone : Place) → IsAt places number i → gone.number ≡ number → Rises least places → Rises least (slice_set places i gone)
rises-gone least [] number i gone is same rises = absurd is
rises-gone least (place ∷ rest) number zero gone is same rises = rw (same, ← is) rises
rises-gone least (place ∷ rest) number (suc i) gone is same rises = (rises.0, rises-gone (place.number + 1) rest number i gone is same rises.1)

-- and stay below their bound
pub below-gone : (bound : ℕ) (places : List Place) (number i : ℕ) (gone : Place) → IsAt places number i → gone.number ≡ number → AreBelow bound places → AreBelow bound (slice_set places i gone)
below-gone bound [] number i gone is same below = absurd is
below-gone bound (place ∷ rest) number zero gone is same below = rw (same, ← is) below
below-gone bound (place ∷ rest) number (suc i) gone is same below = (below.0, below-gone bound rest number i gone is same below.1)

-- its number is the one that is no more live
pub live-gone : (least : ℕ) (places : List Place) (number i : ℕ) (gone : Place) → IsAt places number i → gone.key ≡ None → Rises least places → live (slice_set places i gone) ≡ without (live places) number
unfolding live
live-gone least [] number i gone is none rises = absurd is
live-gone least (place ∷ rest) number zero gone is none rises =
    ap (λ o. with_entry gone.number o (live rest)) none
    ∙ rw (← is) (sym (without-here place.number place.key (live rest) (none_below (place.number + 1) rest place.number rises.1 (omega arith))))
live-gone least (place ∷ rest) number (suc i) gone is none rises =
    let later = least_of (place.number + 1) rest number i rises.1 is in
    ap (with_entry place.number place.key) (live-gone (place.number + 1) rest number i gone is none rises.1)
    ∙ sym (without-later place.number place.key (live rest) number (λ same. omega arith))

-- a place is not gone
abbrev pub has_key : Place → Bool
has_key place = is_some place.key

-- some of the places rise
pub rises-filter : (least : ℕ) (places : List Place) → Rises least places → Rises least (filter has_key places)
rises-filter least [] rises = tt
rises-filter least (place ∷ rest) rises =
    let later = rises-filter (place.number + 1) rest rises.1 in
    elim (has_key place) as (λ b. Rises least (cond b (place ∷ filter has_key rest) (filter has_key rest))) [
      | true ↦ (rises.0, later)
      | false ↦ rises-lower least (place.number + 1) (filter has_key rest) (omega (arith, rises.0)) later
    ]

-- and stay below their bound
pub below-filter : (bound : ℕ) (places : List Place) → AreBelow bound places → AreBelow bound (filter has_key places)
below-filter bound [] below = tt
below-filter bound (place ∷ rest) below =
    let later = below-filter bound rest below.1 in
    elim (has_key place) as (λ b. AreBelow bound (cond b (place ∷ filter has_key rest) (filter has_key rest))) [
      | true ↦ (below.0, later)
      | false ↦ later
    ]

-- without the places that are gone the same numbers are live
pub live-filter : (places : List Place) → live (filter has_key places) ≡ live places
unfolding live
live-filter [] = refl
live-filter (place ∷ rest) =
    elim (has_key place) as (λ b. has_key place ≡ b → live (cond b (place ∷ filter has_key rest) (filter has_key rest)) ≡ with_entry place.number place.key (live rest)) [
      | true ↦ λ _. ap (with_entry place.number place.key) (live-filter rest)
      | false ↦ λ gone. live-filter rest ∙ sym (no_entry place.number place.key (live rest) gone)
    ] refl

-- and there is a place for each
pub length-filter : (places : List Place) → length (filter has_key places) ≡ length (live places)
unfolding live
length-filter [] = refl
length-filter (place ∷ rest) =
    elim (has_key place) as (λ b. has_key place ≡ b → length (cond b (place ∷ filter has_key rest) (filter has_key rest)) ≡ length (with_entry place.number place.key (live rest))) [
      | true ↦ λ held. ap suc (length-filter rest) ∙ one_more place.number place.key (live rest) held
      | false ↦ λ gone. length-filter rest ∙ ap length (sym (no_entry place.number place.key (live rest) gone))
    ] refl
  where
    one_more : (number : ℕ) (o : Option ℕ) (rest : List (ℕ × ℕ)) → is_some o ≡ true → suc (length rest) ≡ length (with_entry number o rest)
    one_more number None rest held = absurd (cc)
    one_more number (Some key) rest held = refl
