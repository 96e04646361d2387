-- Rising numbers, and which of the numbers of some entries are among them.
use Rattle.std.proofs.Common.{◌≡◌, ℕ, ◌+◌, ◌<◌, ◌≤◌, true, false, List, [], ◌∷◌, Option, Some, None, is_some, IsSome, refl, sym, ◌∙◌, inl, inr, arith}
use Rattle.std.proofs.lemmas.Bool.{cases_eq}
use Rattle.std.proofs.lemmas.Bool.Decides.{nat_tests}
use Rattle.rdm_num.specs.declared.numbers.OpId.{OpId}
use Rattle.slab.specs.Slab.{Slab}
use Rattle.rdm_pool.specs.Marks.{has_number, with_number, without_number, first_number}
use Rattle.rdm_pool.specs.Numbered.{RisesWithin, HaveValues, value_at, first_from}
use Rattle.rdm_pool.specs.declared.places.Place.{Place}
use Rattle.rdm_pool.specs.Places.{Rises, AreHeld, with_entry, numbers_of, live, listed}
use Rattle.rdm_pool.proofs.Entries.{value-later}
use Rattle.rdm_pool.proofs.SlabKeys.{some_of, found_at, key_held}
use Rattle.rdm_pool.proofs.Following.{first_is, none_is}

-- numbers rise, from a least one on
abbrev pub NumbersRise : ℕ → List ℕ → Type 0
NumbersRise least [] = Unit {0}
NumbersRise least (first ∷ rest) = (least ≤ first) × NumbersRise (first + 1) rest

-- from a lower one on as well
numbers_lower : (low least : ℕ) (numbers : List ℕ) → low ≤ least → NumbersRise least numbers → NumbersRise low numbers
numbers_lower low least [] le rises = tt
numbers_lower low least (first ∷ rest) le rises = (omega (arith, rises.0), rises.1)

-- a number below all comes before them
pub with-low : (least : ℕ) (numbers : List ℕ) (number : ℕ) → NumbersRise least numbers → number < least → with_number numbers number ≡ number ∷ numbers
unfolding with_number
with-low least [] number rises low = refl
with-low least (first ∷ rest) number rises low = grind (arith, nat_tests, rises.0, low)

-- where a number is not there, nothing goes with it
pub without-none : (numbers : List ℕ) (number : ℕ) → has_number numbers number ≡ false → without_number numbers number ≡ numbers
unfolding has_number without_number
without-none [] number none = refl
without-none (first ∷ rest) number none = elim (cases_eq first number) [
  | inl here ↦ absurd (grind (arith, nat_tests, here))
  | inr away ↦ grind (arith, nat_tests, away, without-none rest number)
]

-- a number below all is not there
has-low : (least : ℕ) (numbers : List ℕ) (number : ℕ) → NumbersRise least numbers → number < least → has_number numbers number ≡ false
unfolding has_number
has-low least [] number rises low = refl
has-low least (first ∷ rest) number rises low = grind (arith, nat_tests, rises.0, low, has-low (first + 1) rest number rises.1 (omega (arith, rises.0, low)))

-- nothing goes with a number below all
pub without-low : (least : ℕ) (numbers : List ℕ) (number : ℕ) → NumbersRise least numbers → number < least → without_number numbers number ≡ numbers
without-low least numbers number rises low = without-none numbers number (has-low least numbers number rises low)

-- the numbers of live places rise
pub numbers_rise : (least : ℕ) (places : List Place) → Rises least places → NumbersRise least (numbers_of (live places))
unfolding live
numbers_rise least [] rises = tt
numbers_rise least (place ∷ rest) rises = entry_rises place.number place.key (live rest) rises.0 (numbers_rise (place.number + 1) rest rises.1)
  where
    entry_rises : (number : ℕ) (o : Option ℕ) (entries : List (ℕ × ℕ)) → least ≤ number → NumbersRise (number + 1) (numbers_of entries) → NumbersRise least (numbers_of (with_entry number o entries))
    entry_rises number None entries le rises = numbers_lower least (number + 1) (numbers_of entries) (omega arith) rises
    entry_rises number (Some key) entries le rises = (le, rises)

module _ {A : Type 0} where
  -- a number is among those of entries where it has something
  pub has-numbers_of : (entries : List (ℕ × A)) (number : ℕ) → has_number (numbers_of entries) number ≡ is_some (value_at entries number)
  unfolding has_number value_at
  has-numbers_of [] number = refl
  has-numbers_of (entry ∷ rest) number = elim (cases_eq entry.0 number) [
    | inl here ↦ grind (arith, nat_tests, here)
    | inr away ↦ grind (arith, nat_tests, away, has-numbers_of rest number)
  ]

  -- the first number from a given one on is that of the entries
  pub first-numbers_of : (entries : List (ℕ × A)) (from : ℕ) → first_number (numbers_of entries) from ≡ first_from entries from
  unfolding first_number first_from
  first-numbers_of [] from = refl
  first-numbers_of (entry ∷ rest) from = grind (arith, nat_tests, first-numbers_of rest from)

  -- it is the least
  pub first_of_numbers : (least bound : ℕ) (entries : List (ℕ × A)) (from : ℕ) (id : OpId) → RisesWithin least entries bound → first_number (numbers_of entries) from ≡ Some id → (has_number (numbers_of entries) id.0 ≡ true) × (from ≤ id.0) × ((number : ℕ) → from ≤ number → number < id.0 → has_number (numbers_of entries) number ≡ false)
  first_of_numbers least bound entries from id rises is =
      let first = first_is least bound entries from id rises (sym (first-numbers_of entries from) ∙ is) in
      (has-numbers_of entries id.0 ∙ first.0, first.1, λ number after less. rw (has-numbers_of entries number, first.2 number after less) refl)

  -- and where there is none, no number from the given one on is there
  pub none_of_numbers : (entries : List (ℕ × A)) (from : ℕ) → first_number (numbers_of entries) from ≡ None → (number : ℕ) → from ≤ number → has_number (numbers_of entries) number ≡ false
  none_of_numbers entries from is number after = rw (has-numbers_of entries number, none_is entries from (sym (first-numbers_of entries from) ∙ is) number after) refl

  -- numbers that have values rise from a lower one on as well
  pub have-lower : (low least : ℕ) (list : List (ℕ × A)) (numbers : List ℕ) → low ≤ least → HaveValues least list numbers → HaveValues low list numbers
  have-lower low least list [] le have = tt
  have-lower low least list (first ∷ rest) le have = (omega (arith, have.0), have.1, have.2)

  -- and have them behind a lower entry
  pub have-more : (least number : ℕ) (o : Option A) (list : List (ℕ × A)) (numbers : List ℕ) → number < least → HaveValues least list numbers → HaveValues least (with_entry number o list) numbers
  have-more least number o list [] less have = tt
  have-more least number o list (first ∷ rest) less have = (
    have.0,
    rw (value-later number o list first (λ same. omega (arith, have.0, less, same))) have.1,
    have-more (first + 1) number o list rest (omega (arith, have.0, less)) have.2,
  )

  -- one of them has its value
  pub have-has : (least : ℕ) (list : List (ℕ × A)) (numbers : List ℕ) (number : ℕ) → HaveValues least list numbers → has_number numbers number ≡ true → IsSome (value_at list number)
  unfolding has_number
  have-has least list [] number have has = absurd (cc)
  have-has least list (first ∷ rest) number have has = elim (cases_eq first number) [
    | inl here ↦ rw (← here) have.1
    | inr away ↦ have-has (first + 1) list rest number have.2 (grind (arith, nat_tests, away, has))
  ]

module _ {T : Type 0} where
  -- numbers that have keys have what the slab lists under these
  pub have-listed : (values : Slab T) (pairs : List (ℕ × ℕ)) (least : ℕ) (numbers : List ℕ) → AreHeld values pairs → HaveValues least pairs numbers → HaveValues least (listed values pairs) numbers
  have-listed values pairs least [] held have = tt
  have-listed values pairs least (first ∷ rest) held have =
      let some = some_of (value_at pairs first) have.1 in
      (have.0, rw (found_at values pairs first held, some.1) (key_held values pairs first some.0 (sym some.1) held), have-listed values pairs (first + 1) rest held have.2)
