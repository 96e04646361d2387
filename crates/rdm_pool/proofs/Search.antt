-- Where a number's place is, among places of rising numbers.
use Rattle.std.proofs.Common.{◌≡◌, ◌≢◌, ℕ, false, zero, suc, ◌+◌, ◌<◌, ◌≤◌, List, [], ◌∷◌, length, get_or, None, Result, Ok, Err, IfSome, IfNone, refl, sym, ◌∙◌, inl, inr, arith}
use Rattle.std.specs.Result.{result_ok}
use Rattle.std.proofs.lemmas.Bool.{cases_lt}
use Rattle.std.specs.List.Sorted.{IsSearchInRange, IsBinarySearchResult, IsNonDecreasingBy}
use Rattle.std.specs.Ordering.{nat_cmp, ordering_index}
use Rattle.std.proofs.lemmas.Cmp.{ranked}
use Rattle.std.proofs.lemmas.List.Sorted.{IsNonDecreasingBy-from_default}
use Rattle.std.proofs.lemmas.Bool.Decides.{nat_tests}
use Rattle.rdm_pool.specs.Numbered.{value_at}
use Rattle.rdm_pool.specs.declared.places.Place.{Place}
use Rattle.rdm_pool.specs.Places.{Rises, IsAt, IsNowhere, live}
use Rattle.rdm_pool.proofs.Entries.{value-here, value-later}

-- stands where there is no place
abbrev pub no_place : Place
no_place = record { number = 0; key = None; is_marked = false }

-- the number of the place at an index
abbrev number_at : List Place → ℕ → ℕ
number_at places i = (get_or places i no_place).number

-- each number is at least the least one
pub least_below : (least : ℕ) (places : List Place) → Rises least places → (i : ℕ) → i < length places → least ≤ number_at places i
least_below least [] rises i within = absurd (omega (arith, within))
least_below least (place ∷ rest) rises zero within = rises.0
least_below least (place ∷ rest) rises (suc i) within = omega (arith, rises.0, least_below (place.number + 1) rest rises.1 i (omega (arith, within)))

-- numbers at rising indexes rise
pub numbers_rise : (least : ℕ) (places : List Place) → Rises least places → (i j : ℕ) → i ≤ j → j < length places → number_at places i ≤ number_at places j
numbers_rise least [] rises i j le within = absurd (omega (arith, within))
numbers_rise least (place ∷ rest) rises zero zero le within = omega arith
numbers_rise least (place ∷ rest) rises zero (suc j) le within = omega (arith, least_below (place.number + 1) rest rises.1 j (omega (arith, within)))
numbers_rise least (place ∷ rest) rises (suc i) zero le within = absurd (omega (arith, le))
numbers_rise least (place ∷ rest) rises (suc i) (suc j) le within = numbers_rise (place.number + 1) rest rises.1 i j (omega (arith, le)) (omega (arith, within))

-- a number that each index misses is nowhere
pub nowhere : (places : List Place) (number : ℕ) → ((i : ℕ) → i < length places → number_at places i ≢ number) → IsNowhere places number
nowhere [] number misses = tt
nowhere (place ∷ rest) number misses = (misses 0 (omega arith), nowhere rest number (λ i within. misses (suc i) (omega (arith, within))))

-- a number stands at its index
pub stands_at : (places : List Place) (number i : ℕ) → i < length places → number_at places i ≡ number → IsAt places number i
stands_at [] number i within is = absurd (omega (arith, within))
stands_at (place ∷ rest) number zero within is = is
stands_at (place ∷ rest) number (suc i) within is = stands_at rest number i (omega (arith, within)) is

-- an index where a number stands is below the length
pub index_within : (places : List Place) (number i : ℕ) → IsAt places number i → i < length places
index_within [] number i is = absurd is
index_within (place ∷ rest) number zero is = omega arith
index_within (place ∷ rest) number (suc i) is = omega (arith, index_within rest number i is)

module _ (places : List Place) (rises : Rises 0 places) (number : ℕ) where
  -- the comparisons with the number rise along the places, as a binary search asks
  comparisons_rise : IsNonDecreasingBy (λ place. ordering_index (nat_cmp place.number number)) places
  comparisons_rise = IsNonDecreasingBy-from_default (λ place. ordering_index (nat_cmp place.number number)) places no_place (λ i j le within. grind (arith, nat_tests, numbers_rise 0 places rises i j le within))

  -- a binary search ends at the number's place, or finds that there is none
  pub searched : (r : Result ℕ ℕ) → IsSearchInRange r (length places) → IsBinarySearchResult (λ place. nat_cmp place.number number) places r → record { within : IfSome (result_ok r) (λ i. i < length places); found : IfSome (result_ok r) (IsAt places number); absent : IfNone (result_ok r) (IsNowhere places number) }
  searched (Ok at) within equal = record { within = within; found = stands_at places number at within (ranked _ number _ (sym (equal no_place))); absent = tt }
  searched (Err at) within parted = record {
    within = tt;
    found = tt;
    absent = nowhere places number (λ i below is. elim (cases_lt i at) [
      | inl before ↦ omega (arith, is, ranked _ number _ (sym ((parted comparisons_rise).0 i no_place (omega arith) before)))
      | inr after ↦ omega (arith, is, ranked _ number _ (sym ((parted comparisons_rise).1 i no_place after below)))
    ]);
  }

-- the place at a number's index has the number
pub number_here : (places : List Place) (number i : ℕ) (d : Place) → IsAt places number i → (get_or places i d).number ≡ number
number_here [] number i d is = absurd is
number_here (place ∷ rest) number zero d is = is
number_here (place ∷ rest) number (suc i) d is = number_here rest number i d is

-- a number is at least the least one
pub least_of : (least : ℕ) (places : List Place) (number i : ℕ) → Rises least places → IsAt places number i → least ≤ number
least_of least [] number i rises is = absurd is
least_of least (place ∷ rest) number zero rises is = omega (arith, rises.0, is)
least_of least (place ∷ rest) number (suc i) rises is = omega (arith, rises.0, least_of (place.number + 1) rest number i rises.1 is)

-- below the least number nothing is live
pub none_below : (least : ℕ) (places : List Place) (number : ℕ) → Rises least places → number < least → value_at (live places) number ≡ None
unfolding value_at live
none_below least [] number rises below = refl
none_below least (place ∷ rest) number rises below = value-later place.number place.key (live rest) number (λ same. omega (arith, rises.0)) ∙ none_below (place.number + 1) rest number rises.1 (omega (arith, rises.0))

-- the key at the place of a number
pub key_at : (least : ℕ) (places : List Place) (number i : ℕ) (d : Place) → Rises least places → IsAt places number i → (get_or places i d).key ≡ value_at (live places) number
unfolding live
key_at least [] number i d rises is = absurd is
key_at least (place ∷ rest) number zero d rises is = rw (← is) (sym (value-here place.number place.key (live rest) (none_below (place.number + 1) rest place.number rises.1 (omega arith))))
key_at least (place ∷ rest) number (suc i) d rises is =
    let later = least_of (place.number + 1) rest number i rises.1 is in
    key_at (place.number + 1) rest number i d rises.1 is ∙ sym (value-later place.number place.key (live rest) number (λ same. omega arith))

-- a number that is nowhere has no key
pub no_key : (places : List Place) (number : ℕ) → IsNowhere places number → value_at (live places) number ≡ None
unfolding value_at live
no_key [] number absent = refl
no_key (place ∷ rest) number absent = value-later place.number place.key (live rest) number absent.0 ∙ no_key rest number absent.1
