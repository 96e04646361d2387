-- Numbers with what they have: an entry before others, and what is under a number.
use Rattle.std.proofs.Common.{◌≡◌, ◌≢◌, ℕ, ◌+◌, false, List, [], ◌∷◌, length, Option, Some, None, is_some, inl, inr, refl, arith}
use Rattle.std.proofs.lemmas.Bool.{cases_eq}
use Rattle.std.proofs.lemmas.Bool.Decides.{nat_tests}
use Rattle.rdm_pool.specs.Numbered.{value_at, without}
use Rattle.rdm_pool.specs.Places.{with_entry}

module _ {A : Type 0} where
  -- without an item there is no entry
  pub no_entry : (number : ℕ) (o : Option A) (rest : List (ℕ × A)) → is_some o ≡ false → with_entry number o rest ≡ rest
  no_entry number None rest none = refl
  no_entry number (Some item) rest none = absurd (cc)

  -- what the first entry has
  pub value-here : (number : ℕ) (o : Option A) (rest : List (ℕ × A)) → value_at rest number ≡ None → value_at (with_entry number o rest) number ≡ o
  unfolding value_at
  value-here number None rest later = later
  value-here number (Some item) rest later = grind (arith, nat_tests)

  -- what a later entry has
  pub value-later : (first : ℕ) (o : Option A) (rest : List (ℕ × A)) (number : ℕ) → first ≢ number → value_at (with_entry first o rest) number ≡ value_at rest number
  unfolding value_at
  value-later first None rest number other = refl
  value-later first (Some item) rest number other = grind (arith, nat_tests, other)

  -- without the number of the first of some entries
  pub without_first : (entry : ℕ × A) (rest : List (ℕ × A)) (number : ℕ) → entry.0 ≡ number → without (entry ∷ rest) number ≡ rest
  unfolding without
  without_first entry rest number here = grind (arith, nat_tests, here)

  -- without another number
  pub without_after : (entry : ℕ × A) (rest : List (ℕ × A)) (number : ℕ) → entry.0 ≢ number → without (entry ∷ rest) number ≡ entry ∷ without rest number
  unfolding without
  without_after entry rest number away = grind (arith, nat_tests, away)

  -- a number that has nothing takes nothing away
  pub without-absent : (entries : List (ℕ × A)) (number : ℕ) → value_at entries number ≡ None → without entries number ≡ entries
  unfolding value_at without
  without-absent [] number none = refl
  without-absent (entry ∷ rest) number none = elim (cases_eq entry.0 number) [
    | inl here ↦ absurd (grind (arith, nat_tests, here))
    | inr away ↦ grind (arith, nat_tests, away, without-absent rest number)
  ]

  -- without the first entry
  pub without-here : (number : ℕ) (o : Option A) (rest : List (ℕ × A)) → value_at rest number ≡ None → without (with_entry number o rest) number ≡ rest
  unfolding without
  without-here number None rest later = without-absent rest number later
  without-here number (Some item) rest later = grind (arith, nat_tests)

  -- without a later entry
  pub without-later : (first : ℕ) (o : Option A) (rest : List (ℕ × A)) (number : ℕ) → first ≢ number → without (with_entry first o rest) number ≡ with_entry first o (without rest number)
  unfolding without
  without-later first None rest number other = refl
  without-later first (Some item) rest number other = grind (arith, nat_tests, other)

  -- one entry less
  pub length-without : (entries : List (ℕ × A)) (number : ℕ) (item : A) → value_at entries number ≡ Some item → length (without entries number) + 1 ≡ length entries
  unfolding value_at without
  length-without [] number item is = absurd (cc)
  length-without (entry ∷ rest) number item is = elim (cases_eq entry.0 number) [
    | inl here ↦ grind (arith, nat_tests, here)
    | inr away ↦ grind (arith, nat_tests, away, length-without rest number item)
  ]
