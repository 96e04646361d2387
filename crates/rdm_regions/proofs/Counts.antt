-- Counts in numbers that do not fall.
use Rattle.std.proofs.Common.{◌≡◌, refl, ℕ, zero, suc, ◌+◌, ◌<◌, ◌≤◌, Bool, true, false, cond, ltb, eqb, List, [], ◌∷◌, length, get_or, arith, ltb-true, ltb-false}
use Rattle.std.specs.List.{AllWithin, count_by, remove}
use Rattle.std.specs.List.Sorted.{IsNonDecreasing}
use Rattle.std.proofs.lemmas.List.Sums.{sum_by-cons}
use Rattle.std.proofs.lemmas.List.Edits.{length-remove, get_or-remove_below, get_or-remove_above}
use borrow.Author.Tests.{eqb-true}

one_if : (b : Bool) → b ≡ true → ◌≡◌ {A = ℕ} (cond b 1 0) 1
one_if true e = refl
one_if false e = cc

none_if : (b : Bool) → b ≡ false → ◌≡◌ {A = ℕ} (cond b 1 0) 0
none_if true e = cc
none_if false e = refl

-- one more element of a count
counted : (p : ℕ → Bool) (x : ℕ) (xs : List ℕ) → count_by p (x ∷ xs) ≡ cond (p x) 1 0 + count_by p xs
counted p x xs = sum_by-cons (λ y. cond (p y) 1 0) x xs

-- where the first i pass and the others do not, i pass
pub count_at_point : (p : ℕ → Bool) (xs : List ℕ) (i : ℕ) → i ≤ length xs → AllWithin (λ y. p y ≡ true) xs 0 i → AllWithin (λ y. p y ≡ false) xs i (length xs) → i ≡ count_by p xs
count_at_point p [] i le before after = omega arith
count_at_point p (x ∷ xs) zero le before after =
    let rest : zero ≡ count_by p xs = count_at_point p xs zero (omega arith) (λ k d lo hi. absurd (omega arith)) (λ k d lo hi. after (suc k) d (omega arith) (omega arith)) in
    omega (arith, counted p x xs, none_if (p x) (after zero x (omega arith) (omega arith)))
count_at_point p (x ∷ xs) (suc i) le before after =
    let rest : i ≡ count_by p xs = count_at_point p xs i (omega arith) (λ k d lo hi. before (suc k) d (omega arith) (omega arith)) (λ k d lo hi. after (suc k) d (omega arith) (omega arith)) in
    omega (arith, counted p x xs, one_if (p x) (before zero x (omega arith) (omega arith)))

-- what is counted is there
pub counted_is_there : (p : ℕ → Bool) (xs : List ℕ) → 0 < count_by p xs → (i : ℕ) × (i < length xs) × (p (get_or xs i 0) ≡ true)
counted_is_there p [] h = absurd (omega arith)
counted_is_there p (x ∷ xs) h =
    let sum = counted p x xs in
    elim (p x) as (λ b. p x ≡ b → (i : ℕ) × (i < length (x ∷ xs)) × (p (get_or (x ∷ xs) i 0) ≡ true)) [
      | true ↦ λ e. (0, omega arith, e)
      | false ↦ λ e.
          let more : 0 < count_by p xs = omega (arith, none_if (p x) e) in
          let rest = counted_is_there p xs more in
          (suc rest.0, omega (arith, rest.1), rest.2)
    ] refl

-- a number that is counted stands where a search finds it
pub not_missed : (n i : ℕ) (xs : List ℕ) → 0 < count_by (eqb n) xs → ((k : ℕ) → k < i → get_or xs k 0 < n) → ((k : ℕ) → i ≤ k → k < length xs → n < get_or xs k 0) → ⊥
not_missed n i xs h before after =
    let at = counted_is_there (eqb n) xs h in
    let same : n ≡ get_or xs at.0 0 = eqb-true n (get_or xs at.0 0) at.2 in
    elim (ltb at.0 i) as (λ b. ltb at.0 i ≡ b → ⊥) [
      | true ↦ λ e. let low = before at.0 (ltb-true at.0 i e) in omega (arith, low, same)
      | false ↦ λ e. let high = after at.0 (ltb-false at.0 i e) at.1 in omega (arith, high, same)
    ] refl

-- without one of them the numbers still do not fall
pub rising_without : (xs : List ℕ) (i : ℕ) → i < length xs → IsNonDecreasing xs → IsNonDecreasing (remove xs i)
rising_without xs i lt rise a b d le below =
    let size = length-remove xs i lt in
    elim (ltb a i) as (λ v. ltb a i ≡ v → get_or (remove xs i) a d ≤ get_or (remove xs i) b d) [
      | true ↦ λ e.
          let low = get_or-remove_below xs i d a (ltb-true a i e) lt in
          elim (ltb b i) as (λ w. ltb b i ≡ w → get_or (remove xs i) a d ≤ get_or (remove xs i) b d) [
            | true ↦ λ f. let high = get_or-remove_below xs i d b (ltb-true b i f) lt in let h = rise a b d le (omega arith) in omega arith
            | false ↦ λ f. let high = get_or-remove_above xs i d b (ltb-false b i f) lt in let h = rise a (b + 1) d (omega arith) (omega arith) in omega arith
          ] refl
      | false ↦ λ e.
          let over = ltb-false a i e in
          let low = get_or-remove_above xs i d a over lt in
          let high = get_or-remove_above xs i d b (omega arith) lt in
          let h = rise (a + 1) (b + 1) d (omega arith) (omega arith) in
          omega arith
    ] refl
