-- The first number from a given one on: by the ends of places, and among values.
use Rattle.std.proofs.Common.{◌≡◌, ℕ, zero, suc, ◌+◌, ◌-◌, ◌<◌, ◌≤◌, List, [], ◌∷◌, ◌++◌, length, take, get_or, set, replicate, Option, Some, None, IsSome, refl, sym, inl, inr, arith}
use Rattle.std.specs.List.{slice_set}
use Rattle.std.proofs.lemmas.Bool.{cases_lt}
use Rattle.std.proofs.lemmas.Bool.Decides.{nat_tests}
use Rattle.std.proofs.lemmas.List.{take_more, length-take-le}
use Rattle.rdm_num.specs.declared.numbers.OpId.{OpId}
use Rattle.slab.specs.Slab.{Slab, get}
use Rattle.rdm_pool.specs.Ends.{first_above}
use Rattle.rdm_pool.specs.Numbered.{RisesWithin, value_at, first_from}
use Rattle.rdm_pool.specs.declared.places.Place.{Place}
use Rattle.rdm_pool.specs.Places.{AreBelow, IsAt, AreHeld, with_entry, AreZero, HaveEnds, end_of, live, listed}
use Rattle.rdm_pool.proofs.SlabKeys.{some_of, listed-held}

-- ends that are all 0
pub zeros : (count : ℕ) → AreZero (replicate count 0)
zeros zero = tt
zeros (suc count) = (refl, zeros count)

-- there are as many ends as places at least
pub ends_within : (places : List Place) (ends : List ℕ) → HaveEnds places ends → length places ≤ length ends
ends_within [] ends have = omega arith
ends_within (place ∷ rest) [] have = absurd have
ends_within (place ∷ rest) (end ∷ ends) have = omega (arith, ends_within rest ends have.1)

-- one more place at the end
pub ends-last : (places : List Place) (ends : List ℕ) (place : Place) (at : ℕ) → at ≡ length places → at < length ends → HaveEnds places ends → HaveEnds (places ++ place ∷ []) (set ends at (end_of place.number place.key))
ends-last [] [] place at is within have = absurd (omega (arith, within))
ends-last [] (end ∷ ends) place at is within have = rw is (refl, have.1)
ends-last (first ∷ rest) [] place at is within have = absurd have
ends-last (first ∷ rest) (end ∷ ends) place at is within have = rw is (have.0, ends-last rest ends place (length rest) refl (omega (arith, is, within)) have.1)

-- another place with its end
pub ends-set : (places : List Place) (ends : List ℕ) (number at new_end : ℕ) (new : Place) → IsAt places number at → new_end ≡ end_of new.number new.key → HaveEnds places ends → HaveEnds (slice_set places at new) (set ends at new_end)
ends-set [] ends number at new_end new is ended have = absurd is
ends-set (place ∷ rest) [] number at new_end new is ended have = absurd have
ends-set (place ∷ rest) (end ∷ ends) number zero new_end new is ended have = (ended, have.1)
ends-set (place ∷ rest) (end ∷ ends) number (suc at) new_end new is ended have = (have.0, ends-set rest ends number at new_end new is ended have.1)

-- one more place of a list
pub ends-more : (places : List Place) (ends : List ℕ) (at : ℕ) (d : Place) → at < length places → length places ≤ length ends → HaveEnds (take at places) ends → HaveEnds (take (at + 1) places) (set ends at (end_of (get_or places at d).number (get_or places at d).key))
ends-more places ends at d within room have = rw (take_more places at d within) (ends-last (take at places) ends (get_or places at d) at (sym (length-take-le at places (omega arith))) (omega arith) have)

-- the number of a place is below a bound of all
pub below_at : (bound : ℕ) (places : List Place) (at : ℕ) (d : Place) → AreBelow bound places → at < length places → (get_or places at d).number < bound
below_at bound [] at d below within = absurd (omega (arith, within))
below_at bound (place ∷ rest) zero d below within = below.0
below_at bound (place ∷ rest) (suc at) d below within = below_at bound rest at d below.1 (omega (arith, within))

-- the end of a number, if there is one
abbrev pub end_after : Option OpId → Option ℕ
end_after None = None
end_after (Some id) = Some (id.0 + 1)

-- the number that has an end
pub number_before : (o : Option OpId) (end : ℕ) → Some end ≡ end_after o → o ≡ Some (record { 0 = end - 1 })
number_before None end is = absurd (cc)
number_before (Some id) end is = grind (arith, is)

-- and where there is no end
pub no_number : (o : Option OpId) → None ≡ end_after o → o ≡ None
no_number None is = refl
no_number (Some id) is = absurd (cc)

-- among ends of 0 none is above a number
none_of_zeros : (ends : List ℕ) (from : ℕ) → AreZero ends → first_above ends from ≡ None
unfolding first_above
none_of_zeros [] from are = refl
none_of_zeros (end ∷ ends) from are = grind (arith, nat_tests, are.0, none_of_zeros ends from are.1)

-- by the first place
first_of : (number : ℕ) (o : Option ℕ) (rest : List (ℕ × ℕ)) (end : ℕ) (ends : List ℕ) (from : ℕ) → end ≡ end_of number o → first_above ends from ≡ end_after (first_from rest from) → first_above (end ∷ ends) from ≡ end_after (first_from (with_entry number o rest) from)
unfolding first_above first_from
first_of number None rest end ends from is later = grind (arith, nat_tests, is, later)
first_of number (Some key) rest end ends from is later = elim (cases_lt number from) [
  | inl before ↦ grind (arith, nat_tests, is, before, later)
  | inr past ↦ grind (arith, nat_tests, is, past)
]

-- the first end above a number is that of the first number from it on
pub first_end : (places : List Place) (ends : List ℕ) (from : ℕ) → HaveEnds places ends → first_above ends from ≡ end_after (first_from (live places) from)
unfolding first_above first_from live
first_end [] ends from have = none_of_zeros ends from have
first_end (place ∷ rest) [] from have = absurd have
first_end (place ∷ rest) (end ∷ ends) from have = first_of place.number place.key (live rest) end ends from have.0 (first_end rest ends from have.1)

module _ {T : Type 0} where
  -- what the slab lists has the same numbers
  pub first_listed : (values : Slab T) (pairs : List (ℕ × ℕ)) (from : ℕ) → AreHeld values pairs → first_from (listed values pairs) from ≡ first_from pairs from
  unfolding first_from listed
  first_listed values [] from held = refl
  first_listed values (pair ∷ rest) from held =
      let some = some_of (get values pair.1) held.0 in
      rw (listed-held values pair rest some.0 some.1) (grind (arith, nat_tests, first_listed values rest from held.2))

  -- below the least number nothing has a value
  none_below : (least bound : ℕ) (list : List (ℕ × T)) (number : ℕ) → RisesWithin least list bound → number < least → value_at list number ≡ None
  unfolding value_at
  none_below least bound [] number rises below = refl
  none_below least bound (entry ∷ rest) number rises below = grind (arith, nat_tests, rises.0, none_below (entry.0 + 1) bound rest number rises.2 (omega (arith, rises.0, below)))

  -- the first number from a given one on is the least that has a value
  pub first_is : (least bound : ℕ) (list : List (ℕ × T)) (from : ℕ) (id : OpId) → RisesWithin least list bound → first_from list from ≡ Some id → IsSome (value_at list id.0) × (from ≤ id.0) × ((number : ℕ) → from ≤ number → number < id.0 → value_at list number ≡ None)
  unfolding first_from value_at
  first_is least bound [] from id rises is = absurd (cc)
  first_is least bound (entry ∷ rest) from id rises is = elim (cases_lt entry.0 from) [
    | inl before ↦
        let later = first_is (entry.0 + 1) bound rest from id rises.2 (grind (arith, nat_tests, before, is)) in
        (grind (arith, nat_tests, before, later.0, later.1), later.1, λ number after less. grind (arith, nat_tests, before, after, later.2 number after less))
    | inr past ↦
        let same : entry.0 ≡ id.0 = grind (arith, nat_tests, past, is) in
        (grind (arith, nat_tests, same), omega (arith, past, same), λ number after less. grind (arith, nat_tests, same, less, none_below (entry.0 + 1) bound rest number rises.2 (omega (arith, same, less))))
  ]

  -- where there is no first number, none from the given one on has a value
  pub none_is : (list : List (ℕ × T)) (from : ℕ) → first_from list from ≡ None → (number : ℕ) → from ≤ number → value_at list number ≡ None
  unfolding first_from value_at
  none_is [] from is number after = refl
  none_is (entry ∷ rest) from is number after = elim (cases_lt entry.0 from) [
    | inl before ↦ grind (arith, nat_tests, before, after, none_is rest from (grind (arith, nat_tests, before, is)) number after)
    | inr past ↦ absurd (grind (arith, nat_tests, past, is))
  ]
