-- Sums over distinct elements, and over ports.
use Rattle.std.proofs.Common.{◌≡◌, ℕ, zero, suc, ◌+◌, ◌<◌, ◌≤◌, Bool, true, false, cond, List, [], ◌∷◌, length, take, get_or, Some, refl, arith, inl, inr, sym, ap, subst}
use Rattle.std.specs.Prelude.{slice_get}
use Rattle.std.proofs.lemmas.Bool.{cases_eq}
use Rattle.rdm_lists.specs.Lists.{Member}
use Rattle.rdm_lists.proofs.Sums.{total, take_out}

-- no element stands twice
abbrev pub AreDistinct : {A : Type 0} → List A → Type 0
AreDistinct [] = Unit {0}
AreDistinct (x ∷ xs) = (Member x xs → ⊥) × AreDistinct xs

-- where none passes, the sum is nothing
none_passes : {A : Type 0} (t : A → Bool) (a : ℕ) (xs : List A) → ((x : A) → Member x xs → t x ≡ true → ⊥) → total (λ x. cond (t x) a 0) xs ≡ 0
unfolding total
none_passes t a [] h = refl
none_passes t a (x ∷ xs) h =
    (elim (t x) as (λ b. t x ≡ b → cond b a 0 + total (λ x. cond (t x) a 0) xs ≡ 0) [
      | true ↦ λ is. absurd (h x (inl refl) is)
      | false ↦ λ is. let r = none_passes t a xs (λ y m. h y (inr m)) in omega arith
    ]) refl

-- of distinct elements one at most passes
pub one_passes : {A : Type 0} (t : A → Bool) (a : ℕ) (xs : List A) → AreDistinct xs → ((x y : A) → t x ≡ true → t y ≡ true → x ≡ y) → total (λ x. cond (t x) a 0) xs ≤ a
unfolding total
one_passes t a [] d one = omega arith
one_passes {A} t a (x ∷ xs) d one =
    (elim (t x) as (λ b. t x ≡ b → cond b a 0 + total (λ x. cond (t x) a 0) xs ≤ a) [
      | true ↦ λ is. let n = none_passes t a xs (λ y m h. d.0 (subst (λ (z : A). Member z xs) (one y x h is) m)) in omega arith
      | false ↦ λ is. let r = one_passes t a xs d.1 one in omega arith
    ]) refl

-- distinct elements that are all in a list are no more than its elements
pub distinct_fit : {A : Type 0} (xs ys : List A) → AreDistinct xs → ((x : A) → Member x xs → Member x ys) → length xs ≤ length ys
distinct_fit [] ys d h = omega arith
distinct_fit {A} (x ∷ xs) ys d h =
    let w = take_out (λ y. 0) x ys (h x (inl refl)) in
    let r = distinct_fit xs w.rest d.1 (λ y m. elim (w.others y (h y (inr m))) [ inl same ↦ absurd (d.0 (subst (λ (z : A). Member z xs) same m)) | inr k ↦ k ]) in
    let l = w.len in
    omega arith

-- a lesser count has a lesser sum
all_le : {A : Type 0} (f g : A → ℕ) (xs : List A) → ((y : A) → f y ≤ g y) → total f xs ≤ total g xs
unfolding total
all_le f g [] h = omega arith
all_le f g (x ∷ xs) h = let a = h x in let b = all_le f g xs h in omega arith

-- where one count grows at an element and none falls, the sum grows
pub total_grows : {A : Type 0} (f g : A → ℕ) (a : ℕ) (x : A) (xs : List A) → Member x xs → ((y : A) → f y ≤ g y) → f x + a ≤ g x → total f xs + a ≤ total g xs
unfolding total
total_grows f g a x [] m h e = elim m [ ]
total_grows {A} f g a x (y ∷ xs) (inl is) h e =
    let r = all_le f g xs h in
    let e' : f y + a ≤ g y = subst (λ (z : A). f z + a ≤ g z) (sym is) e in
    omega arith
total_grows f g a x (y ∷ xs) (inr m) h e = let r = total_grows f g a x xs m h e in let b = h y in omega arith

-- the sum over the numbers below a bound
unfoldable pub total_to : (ℕ → ℕ) → ℕ → ℕ
total_to f zero = 0
total_to f (suc n) = total_to f n + f n

-- and so below a bound
pub total_to_le : (f g : ℕ → ℕ) (n : ℕ) → ((k : ℕ) → f k ≤ g k) → total_to f n ≤ total_to g n
unfolding total_to
total_to_le f g zero h = omega arith
total_to_le f g (suc n) h = let a = total_to_le f g n h in let b = h n in omega arith

-- a count that is nothing sums to nothing
pub total_to_zero : (f : ℕ → ℕ) (n : ℕ) → ((k : ℕ) → f k ≡ 0) → total_to f n ≡ 0
unfolding total_to
total_to_zero f zero h = refl
total_to_zero f (suc n) h = let a = total_to_zero f n h in let b = h n in omega arith

-- counts that differ only past the bound have one sum
same_to : (f g : ℕ → ℕ) (k n : ℕ) → n ≤ k → ((j : ℕ) → (j ≡ k → ⊥) → f j ≡ g j) → total_to f n ≡ total_to g n
unfolding total_to
same_to f g k zero le h = refl
same_to f g k (suc n) le h = let a = same_to f g k n (omega arith) h in let b = h n (λ e. absurd (omega arith)) in omega arith

-- a sum that is more at one number is so much more
pub total_to_at : (f g : ℕ → ℕ) (a k n : ℕ) → k < n → f k ≡ a + g k → ((j : ℕ) → (j ≡ k → ⊥) → f j ≡ g j) → total_to f n ≡ a + total_to g n
unfolding total_to
total_to_at f g a k zero lt e h = absurd (omega arith)
total_to_at f g a k (suc n) lt e h =
    elim (cases_eq n k) [
      | inl same ↦
          let r = same_to f g k n (omega arith) h in
          let e' : f n ≡ a + g n = subst (λ j. f j ≡ a + g j) (sym same) e in
          omega arith
      | inr other ↦
          let r = total_to_at f g a k n (omega arith) e h in
          let b = h n other in
          omega arith
    ]

-- the first elements, and one more
pub total_take : {A : Type 0} (f : A → ℕ) (xs : List A) (k : ℕ) (x : A) → slice_get xs k ≡ Some x → total f (take (suc k) xs) ≡ total f (take k xs) + f x
unfolding total
total_take f [] k x h = cc
total_take f (y ∷ xs) zero x h = let e : y ≡ x = cc in let e' = ap f e in omega arith
total_take f (y ∷ xs) (suc k) x h = let r = total_take f xs k x h in omega arith

-- the first elements weigh no more than all
pub total_front : {A : Type 0} (f : A → ℕ) (xs : List A) (k : ℕ) → total f (take k xs) ≤ total f xs
unfolding total
total_front f xs zero = omega arith
total_front f [] (suc k) = omega arith
total_front f (x ∷ xs) (suc k) = let r = total_front f xs k in omega arith

-- one more place
place_step : {A : Type 0} (g : A → ℕ) (xs : List A) (d : A) (n : ℕ) → g d ≡ 0 → total g (take n xs) + g (get_or xs n d) ≤ total g (take (suc n) xs)
unfolding total
place_step g [] d zero h = omega arith
place_step g [] d (suc n) h = omega arith
place_step g (x ∷ xs) d zero h = omega arith
place_step g (x ∷ xs) d (suc n) h = let r = place_step g xs d n h in omega arith

-- the sum over the places of a list
pub total_places : {A : Type 0} (g : A → ℕ) (xs : List A) (d : A) (n : ℕ) → g d ≡ 0 → total_to (λ p. g (get_or xs p d)) n ≤ total g (take n xs)
unfolding total_to total
total_places g xs d zero h = omega arith
total_places g xs d (suc n) h = let r = total_places g xs d n h in let s = place_step g xs d n h in omega arith
