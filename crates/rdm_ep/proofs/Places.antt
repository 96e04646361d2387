-- The first place of a list that passes a test.
use Rattle.std.proofs.Common.{◌≡◌, ℕ, suc, ◌+◌, Bool, true, false, List, [], ◌∷◌, Option, Some, None, refl, arith, sym, ap, subst}
use Rattle.std.specs.Prelude.{find}
use Rattle.std.specs.List.{position_from}
use Rattle.rdm_lists.specs.Lists.{without_first}
use Rattle.rdm_ep.specs.Places.{IsPlaced, IsPlace}

-- a first element that passes stands at place 0
placed_here : {A : Type 0} (p : A → Bool) (x : A) (xs : List A) → p x ≡ true → IsPlaced p (x ∷ xs) 0
unfolding without_first
placed_here p x xs is = record { within = omega arith; found = rw is refl; without = rw is refl }

-- behind an element that does not pass, places are one more
placed_behind : {A : Type 0} (p : A → Bool) (x : A) (xs : List A) (k : ℕ) → p x ≡ false → IsPlaced p xs k → IsPlaced p (x ∷ xs) (suc k)
unfolding without_first
placed_behind p x xs k is h =
    record { within = let w = h.within in omega arith; found = rw is h.found; without = rw is (ap (λ ys. x ∷ ys) h.without) }

-- where the search from a number on finds one, it counts from there to the first element that passes
pub placed_from : {A : Type 0} (p : A → Bool) (start : ℕ) (xs : List A) (at : ℕ) → position_from p start xs ≡ Some at
    → (k : ℕ) × (at ≡ start + k) × IsPlaced p xs k
placed_from p start [] at h = absurd (cc)
placed_from p start (x ∷ xs) at h =
    elim (p x) as (λ b. p x ≡ b → (k : ℕ) × (at ≡ start + k) × IsPlaced p (x ∷ xs) k) [
      | true ↦ λ is. let e : Some start ≡ Some at = rw is at h in let f : start ≡ at = cc in (0, omega arith, placed_here p x xs is)
      | false ↦ λ is.
          let e : position_from p (start + 1) xs ≡ Some at = rw is at h in
          let m = placed_from p (start + 1) xs at e in
          let f = m.1 in
          (suc m.0, omega arith, placed_behind p x xs m.0 is m.2)
    ] refl

-- where the search finds none, no element passes
pub none_from : {A : Type 0} (p : A → Bool) (start : ℕ) (xs : List A) → position_from p start xs ≡ None → find p xs ≡ None
none_from p start [] h = refl
none_from p start (x ∷ xs) h =
    elim (p x) as (λ b. p x ≡ b → find p (x ∷ xs) ≡ None) [
      | true ↦ λ is. let e : Some start ≡ None = rw is at h in absurd (cc)
      | false ↦ λ is. let e : position_from p (start + 1) xs ≡ None = rw is at h in rw is (none_from p (start + 1) xs e)
    ] refl

-- the place that the search finds
pub placed : {A : Type 0} (p : A → Bool) (xs : List A) (at : ℕ) → position_from p 0 xs ≡ Some at → IsPlaced p xs at
placed p xs at h = let m = placed_from p 0 xs at h in let e = m.1 in let f : m.0 ≡ at = omega arith in subst (λ (k : ℕ). IsPlaced p xs k) f m.2

-- the place that a search finds
pub place_of_search : {A : Type 0} (p : A → Bool) (xs : List A) (r : Option ℕ) → r ≡ position_from p 0 xs → IsPlace p xs r
place_of_search p xs None e = none_from p 0 xs (sym e)
place_of_search p xs (Some at) e = placed p xs at (sym e)
