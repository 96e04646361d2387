-- The first place of a list that passes a test.
use Rattle.std.proofs.Common.{◌≡◌, ℕ, suc, ◌+◌, ◌<◌, Bool, true, false, List, [], ◌∷◌, Option, Some, None, length, get_or, refl, arith, ap, sym, ◌∙◌, subst}
use Rattle.std.proofs.lemmas.Option.{slice_get-get_or}
use Rattle.std.specs.Prelude.{find, slice_get, remove}
use Rattle.std.specs.List.{position_from}
use Rattle.rdm_lists.specs.Lists.{without_first}

-- the element at the place is the first one that passes
pub record IsFirst {A : Type 0} (p : A → Bool) (xs : List A) (at : ℕ) : Type 0 where
  pub within : at < length xs
  pub found : find p xs ≡ slice_get xs at
  pub without : without_first p xs ≡ remove xs at

-- a first element that passes stands at place 0
first_here : {A : Type 0} (p : A → Bool) (x : A) (xs : List A) → p x ≡ true → IsFirst p (x ∷ xs) 0
unfolding without_first
first_here p x xs is = record { within = omega arith; found = rw is refl; without = rw is refl }

-- behind an element that does not pass, places are one more
first_behind : {A : Type 0} (p : A → Bool) (x : A) (xs : List A) (k : ℕ) → p x ≡ false → IsFirst p xs k → IsFirst p (x ∷ xs) (suc k)
unfolding without_first
first_behind p x xs k is h =
    record { within = let w = h.within in omega arith; found = rw is h.found; without = rw is (ap (λ ys. x ∷ ys) h.without) }

-- a search that counts from a number on gives that number and the first place together
first_from : {A : Type 0} (p : A → Bool) (start : ℕ) (xs : List A) (at : ℕ) → position_from p start xs ≡ Some at
    → (k : ℕ) × (at ≡ start + k) × IsFirst p xs k
first_from p start [] at h = absurd (cc)
first_from p start (x ∷ xs) at h =
    elim (p x) as (λ b. p x ≡ b → (k : ℕ) × (at ≡ start + k) × IsFirst p (x ∷ xs) k) [
      | true ↦ λ is. let e : Some start ≡ Some at = rw is at h in let f : start ≡ at = cc in (0, omega arith, first_here p x xs is)
      | false ↦ λ is.
          let e : position_from p (start + 1) xs ≡ Some at = rw is at h in
          let m = first_from p (start + 1) xs at e in
          let f = m.1 in
          (suc m.0, omega arith, first_behind p x xs m.0 is m.2)
    ] refl

-- where a search that counts from a number on finds none, no element passes
none_from : {A : Type 0} (p : A → Bool) (start : ℕ) (xs : List A) → position_from p start xs ≡ None → find p xs ≡ None
none_from p start [] h = refl
none_from p start (x ∷ xs) h =
    elim (p x) as (λ b. p x ≡ b → find p (x ∷ xs) ≡ None) [
      | true ↦ λ is. let e : Some start ≡ None = rw is at h in absurd (cc)
      | false ↦ λ is. let e : position_from p (start + 1) xs ≡ None = rw is at h in rw is (none_from p (start + 1) xs e)
    ] refl

-- where no element passes, the list without the first one that does is the list
pub none_without : {A : Type 0} (p : A → Bool) (xs : List A) → find p xs ≡ None → without_first p xs ≡ xs
unfolding without_first
none_without p [] h = refl
none_without p (x ∷ xs) h =
    elim (p x) as (λ b. p x ≡ b → without_first p (x ∷ xs) ≡ x ∷ xs) [
      | true ↦ λ is. let e : Some x ≡ None = rw is at h in absurd (cc)
      | false ↦ λ is. let e : find p xs ≡ None = rw is at h in rw is (ap (λ ys. x ∷ ys) (none_without p xs e))
    ] refl

-- the place that a search finds is the first one
first_place : {A : Type 0} (p : A → Bool) (xs : List A) (at : ℕ) → position_from p 0 xs ≡ Some at → IsFirst p xs at
first_place p xs at h = let m = first_from p 0 xs at h in let e = m.1 in let f : m.0 ≡ at = omega arith in subst (λ (k : ℕ). IsFirst p xs k) f m.2

-- a search of the same list that found a place
pub searched : {A : Type 0} (p : A → Bool) (xs ys : List A) (r : Option ℕ) (at : ℕ) → ys ≡ xs → r ≡ position_from p 0 ys → r ≡ Some at → IsFirst p xs at
searched p xs ys r at same is found = first_place p xs at (ap (λ zs. position_from p 0 zs) (sym same) ∙ sym is ∙ found)

-- a search of the same list that found none
pub searched_in_vain : {A : Type 0} (p : A → Bool) (xs ys : List A) (r : Option ℕ) → ys ≡ xs → r ≡ position_from p 0 ys → r ≡ None → find p xs ≡ None
searched_in_vain p xs ys r same is none = none_from p 0 xs (ap (λ zs. position_from p 0 zs) (sym same) ∙ sym is ∙ none)

-- what stands at the first place is the first element that passes
pub found_at : {A : Type 0} (p : A → Bool) (xs : List A) (at : ℕ) (x : A) → IsFirst p xs at → x ≡ get_or xs at x → Some x ≡ find p xs
found_at p xs at x first is = ap Some is ∙ sym (slice_get-get_or xs at x first.within) ∙ sym first.found
