-- Sums of a count over a list.
use Rattle.std.proofs.Common.{[], List, ℕ, ◌+◌, ◌∷◌, arith, ◌≡◌, ◌++◌, inl, inr, refl, ◌≤◌, length, sym, ap, map, suc, ◌⊎◌, ◌∙◌}
use Rattle.rdm_lists.specs.Lists.{Member}
use Rattle.std.specs.Prelude.{fold, sum_by}

-- the sum of a count over a list
unfoldable pub total : {A : Type 0} → (A → ℕ) → List A → ℕ
total f [] = 0
total f (x ∷ xs) = f x + total f xs

-- the sum over lists in a row
pub total-append : {A : Type 0} (f : A → ℕ) (xs ys : List A) → total f (xs ++ ys) ≡ total f xs + total f ys
unfolding total
total-append f [] ys = omega arith
total-append f (x ∷ xs) ys = let r = total-append f xs ys in omega arith

-- a count that is less on each element has a lesser sum
pub total_le : {A : Type 0} (f g : A → ℕ) (xs : List A) → ((x : A) → Member x xs → f x ≤ g x) → total f xs ≤ total g xs
unfolding total
total_le f g [] h = omega arith
total_le f g (x ∷ xs) h = let a = h x (inl refl) in let b = total_le f g xs (λ y m. h y (inr m)) in omega arith

-- counts that agree have one sum
pub total_same : {A : Type 0} (f g : A → ℕ) (xs : List A) → ((x : A) → Member x xs → f x ≡ g x) → total f xs ≡ total g xs
unfolding total
total_same f g [] h = refl
total_same f g (x ∷ xs) h = let a = h x (inl refl) in let b = total_same f g xs (λ y m. h y (inr m)) in omega arith

-- the sum of sums
pub total_plus : {A : Type 0} (f g : A → ℕ) (xs : List A) → total (λ x. f x + g x) xs ≡ total f xs + total g xs
unfolding total
total_plus f g [] = refl
total_plus f g (x ∷ xs) = let r = total_plus f g xs in omega arith

-- the sum of ones
pub total_ones : {A : Type 0} (xs : List A) → total (λ x. 1) xs ≡ length xs
unfolding total
total_ones [] = refl
total_ones (x ∷ xs) = let r = total_ones xs in omega arith

-- nothing sums to nothing
pub total_zero : {A : Type 0} (xs : List A) → total (λ x. 0) xs ≡ 0
unfolding total
total_zero [] = refl
total_zero (x ∷ xs) = let r = total_zero xs in omega arith

-- sums of sums in either order
pub total_swap : {A B : Type 0} (f : A → B → ℕ) (xs : List A) (ys : List B) → total (λ x. total (λ y. f x y) ys) xs ≡ total (λ y. total (λ x. f x y) xs) ys
unfolding total
total_swap f [] ys = sym (total_zero ys)
total_swap f (x ∷ xs) ys =
    let r = total_swap f xs ys in
    let p = total_plus (λ y. f x y) (λ y. total (λ z. f z y) xs) ys in
    omega arith

-- the sum over a map
pub total-map : {A B : Type 0} (f : B → ℕ) (g : A → B) (xs : List A) → total f (map g xs) ≡ total (λ x. f (g x)) xs
unfolding total
total-map f g [] = refl
total-map f g (x ∷ xs) = ap (λ n. f (g x) + n) (total-map f g xs)

pub fold_total : {A : Type 0} (f : A → ℕ) (n : ℕ) (xs : List A) → fold (λ a x. a + f x) n xs ≡ n + total f xs
unfolding total
fold_total f n [] = omega arith
fold_total f n (x ∷ xs) = let r = fold_total f (n + f x) xs in omega arith

-- std's sum is this one
pub sum_total : {A : Type 0} (f : A → ℕ) (xs : List A) → sum_by f xs ≡ total f xs
sum_total f xs = let r = fold_total f 0 xs in omega arith

-- an element counts in the sum
pub total_member : {A : Type 0} (f : A → ℕ) (x : A) (xs : List A) → Member x xs → f x ≤ total f xs
unfolding total
total_member f x [] m = elim m [ ]
total_member f x (y ∷ xs) (inl is) = let e = ap f is in omega arith
total_member f x (y ∷ xs) (inr m) = let r = total_member f x xs m in omega arith

-- a list without one of its elements
pub record Without {A : Type 0} (f : A → ℕ) (x : A) (xs : List A) : Type 0 where
  pub rest : List A
  pub sum : total f xs ≡ f x + total f rest
  pub len : length xs ≡ suc (length rest)
  pub others : (y : A) → Member y xs → (y ≡ x) ⊎ Member y rest

pub total_step : {A : Type 0} (f : A → ℕ) (y x : A) (xs rest : List A) → total f xs ≡ f x + total f rest → total f (y ∷ xs) ≡ f x + total f (y ∷ rest)
unfolding total
total_step f y x xs rest h = omega arith

-- an element taken out of a list
pub take_out : {A : Type 0} (f : A → ℕ) (x : A) (xs : List A) → Member x xs → Without f x xs
unfolding total
take_out f x [] m = elim m [ ]
take_out {A} f x (y ∷ xs) (inl is) =
    let e = ap f is in
    record { rest = xs; sum = omega arith; len = refl; others = λ z n. elim n [ inl a ↦ inl (sym a ∙ is) | inr a ↦ inr a ] }
take_out {A} f x (y ∷ xs) (inr m) =
    let w = take_out f x xs m in
    let s = w.sum in
    let l = w.len in
    record {
      rest = y ∷ w.rest;
      sum = total_step f y x xs w.rest w.sum;
      len = ap suc w.len;
      others = λ z n. elim n [ inl a ↦ inr (inl a) | inr a ↦ elim (w.others z a) [ inl b ↦ inl b | inr b ↦ inr (inr b) ] ];
    }
