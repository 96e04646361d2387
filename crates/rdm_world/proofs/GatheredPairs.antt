-- What holds of each element of a list, and of each with those after it.
use Rattle.std.proofs.Common.{ℕ, suc, ◌<◌, ◌≤◌, Bool, true, false, cond, List, [], ◌∷◌, ◌++◌, reverse, length, get_or, filter, arith, sym, subst}
use mathlib.Core.List.{reverse-cons}

-- P holds of each element
abbrev pub Each : {A : Type 0} → (A → Type 0) → List A → Type 0
Each P [] = Unit {0}
Each P (x ∷ xs) = P x × Each P xs

-- R holds of each element with each that stands after it
abbrev pub Pairs : {A : Type 0} → (A → A → Type 0) → List A → Type 0
Pairs R [] = Unit {0}
Pairs R (x ∷ xs) = Each (R x) xs × Pairs R xs

-- what follows from what holds of each holds of each
pub each_weaker : {A : Type 0} (P Q : A → Type 0) (xs : List A) → ((x : A) → P x → Q x) → Each P xs → Each Q xs
each_weaker P Q [] f h = tt
each_weaker P Q (x ∷ xs) f h = (f x h.0, each_weaker P Q xs f h.1)

-- it holds of each of two lists in a row
pub each_append : {A : Type 0} (P : A → Type 0) (xs ys : List A) → Each P xs → Each P ys → Each P (xs ++ ys)
each_append P [] ys h k = k
each_append P (x ∷ xs) ys h k = (h.0, each_append P xs ys h.1 k)

-- it holds of each in the other order
pub each_reverse : {A : Type 0} (P : A → Type 0) (xs : List A) → Each P xs → Each P (reverse xs)
each_reverse P [] h = tt
each_reverse P (x ∷ xs) h = subst (Each P) (sym (reverse-cons x xs)) (each_append P (reverse xs) (x ∷ []) (each_reverse P xs h.1) (h.0, tt))

-- two things that hold of each hold of it together
pub each_both : {A : Type 0} (P Q S : A → Type 0) (xs : List A) → ((x : A) → P x → Q x → S x) → Each P xs → Each Q xs → Each S xs
each_both P Q S [] f h k = tt
each_both P Q S (x ∷ xs) f h k = (f x h.0 k.0, each_both P Q S xs f h.1 k.1)

-- pairs of two lists in a row
pub pairs_append : {A : Type 0} (R : A → A → Type 0) (xs ys : List A) → Pairs R xs → Pairs R ys → Each (λ x. Each (R x) ys) xs → Pairs R (xs ++ ys)
pairs_append R [] ys a b c = b
pairs_append R (x ∷ xs) ys a b c = (each_append (R x) xs ys a.0 c.0, pairs_append R xs ys a.1 b c.1)

-- pairs in the other order
pub pairs_reverse : {A : Type 0} (R : A → A → Type 0) (xs : List A) → Pairs (λ x y. R y x) xs → Pairs R (reverse xs)
pairs_reverse R [] h = tt
pairs_reverse {A} R (x ∷ xs) h =
    let P : A → Type 0 = λ y. R y x in
    let Q : A → Type 0 = λ y. Each (R y) (x ∷ []) in
    subst (Pairs R) (sym (reverse-cons x xs)) (pairs_append R (reverse xs) (x ∷ []) (pairs_reverse R xs h.1) (tt, tt) (each_weaker P Q (reverse xs) (λ y r. (r, tt)) (each_reverse P xs h.0)))

-- what follows from what holds of pairs holds of them
pub pairs_weaker : {A : Type 0} (R S : A → A → Type 0) (xs : List A) → ((x y : A) → R x y → S x y) → Pairs R xs → Pairs S xs
pairs_weaker R S [] f h = tt
pairs_weaker R S (x ∷ xs) f h = (each_weaker (R x) (S x) xs (f x) h.0, pairs_weaker R S xs f h.1)

-- what holds of an element, if it is kept, and of the others
each_if : {A : Type 0} (P : A → Type 0) (x : A) (xs : List A) (b : Bool) → P x → Each P xs → Each P (cond b (x ∷ xs) xs)
each_if P x xs true p h = (p, h)
each_if P x xs false p h = h

-- it holds of each that is kept
pub each_filter : {A : Type 0} (P : A → Type 0) (t : A → Bool) (xs : List A) → Each P xs → Each P (filter t xs)
each_filter P t [] h = tt
each_filter P t (x ∷ xs) h = each_if P x (filter t xs) (t x) h.0 (each_filter P t xs h.1)

-- pairs with an element, if it is kept
pairs_if : {A : Type 0} (R : A → A → Type 0) (x : A) (xs : List A) (b : Bool) → Each (R x) xs → Pairs R xs → Pairs R (cond b (x ∷ xs) xs)
pairs_if R x xs true p h = (p, h)
pairs_if R x xs false p h = h

-- pairs of those that are kept
pub pairs_filter : {A : Type 0} (R : A → A → Type 0) (t : A → Bool) (xs : List A) → Pairs R xs → Pairs R (filter t xs)
pairs_filter R t [] h = tt
pairs_filter R t (x ∷ xs) h = pairs_if R x (filter t xs) (t x) (each_filter (R x) t xs h.0) (pairs_filter R t xs h.1)

-- pairs without an element that may be kept
pairs_rest : {A : Type 0} (R : A → A → Type 0) (x : A) (xs : List A) (b : Bool) → Pairs R (cond b (x ∷ xs) xs) → Pairs R xs
pairs_rest R x xs true h = h.1
pairs_rest R x xs false h = h

-- pairs of those that are kept, without the first element
pub pairs_kept_rest : {A : Type 0} (R : A → A → Type 0) (t : A → Bool) (x : A) (xs : List A) → Pairs R (filter t (x ∷ xs)) → Pairs R (filter t xs)
pairs_kept_rest R t x xs h = pairs_rest R x (filter t xs) (t x) h

-- each element, from its place
pub each_at : {A : Type 0} (P : A → Type 0) (xs : List A) (d : A) → ((k : ℕ) → k < length xs → P (get_or xs k d)) → Each P xs
each_at P [] d h = tt
each_at P (x ∷ xs) d h = (h 0 (omega arith), each_at P xs d (λ k lt. h (suc k) (omega arith)))

-- pairs of numbers that do not fall, from their places
pub pairs_at : {A : Type 0} (n : A → ℕ) (xs : List A) → ((i j : ℕ) (d : A) → i ≤ j → j < length xs → n (get_or xs i d) ≤ n (get_or xs j d)) → Pairs (λ x y. n x ≤ n y) xs
pairs_at n [] h = tt
pairs_at n (x ∷ xs) h =
    (each_at (λ y. n x ≤ n y) xs x (λ k lt. h 0 (suc k) x (omega arith) (omega arith)), pairs_at n xs (λ i j d le lt. h (suc i) (suc j) d (omega arith) (omega arith)))
