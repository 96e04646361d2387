-- What a filter keeps, and how much.
use Rattle.std.proofs.Common.{[], Bool, List, inl, inr, refl, true, ◌≡◌, ◌∷◌, false, ap, cond, map, arith, length, ◌≤◌, ◌+◌, ◌++◌, Some, suc}
use Rattle.rdm_lists.specs.Lists.{Member, without_first}
use Rattle.std.specs.Prelude.{filter, ◌&&◌, ◌||◌, find}
use Rattle.std.specs.List.{list_any}
use Rattle.std.proofs.lemmas.List.Elements.{filter-append}
use Rattle.std.proofs.lemmas.List.{length-append}

-- a filter that all elements pass
pub filter_all : {A : Type 0} (t : A → Bool) (xs : List A) → ((x : A) → Member x xs → t x ≡ true) → filter t xs ≡ xs
filter_all t [] h = refl
filter_all t (x ∷ xs) h = let a = h x (inl refl) in let b = filter_all t xs (λ y m. h y (inr m)) in rw (a, b) refl

-- a filter that no element passes
pub filter_nothing : {A : Type 0} (t : A → Bool) (xs : List A) → ((x : A) → Member x xs → t x ≡ false) → filter t xs ≡ []
filter_nothing t [] h = refl
filter_nothing t (x ∷ xs) h = let a = h x (inl refl) in let b = filter_nothing t xs (λ y m. h y (inr m)) in rw (a, b) refl

-- a filter after a filter is one by both tests
pub filter_both : {A : Type 0} (p q : A → Bool) (xs : List A) → filter (λ x. p x && q x) xs ≡ filter q (filter p xs)
filter_both p q [] = refl
filter_both p q (x ∷ xs) =
    elim (p x) as (λ b. cond (b && q x) (x ∷ filter (λ y. p y && q y) xs) (filter (λ y. p y && q y) xs) ≡ filter q (cond b (x ∷ filter p xs) (filter p xs))) [
      | true ↦ ap (λ ys. cond (q x) (x ∷ ys) ys) (filter_both p q xs)
      | false ↦ filter_both p q xs
    ]

-- none of a mapped list passes, or some does
pub list_any-map : {A B : Type 0} (f : A → B) (t : B → Bool) (xs : List A) → list_any t (map f xs) ≡ list_any (λ x. t (f x)) xs
list_any-map f t [] = refl
list_any-map f t (x ∷ xs) = ap (λ b. t (f x) || b) (list_any-map f t xs)

-- no element passes
pub list_any_none : {A : Type 0} (t : A → Bool) (xs : List A) → ((x : A) → Member x xs → t x ≡ false) → list_any t xs ≡ false
list_any_none t [] h = refl
list_any_none t (x ∷ xs) h = let a = h x (inl refl) in let b = list_any_none t xs (λ y m. h y (inr m)) in rw (a, b) refl

-- a filter has no more elements than its list
pub filter_length : {A : Type 0} (p : A → Bool) (xs : List A) → length (filter p xs) ≤ length xs
filter_length p [] = omega arith
filter_length {A} p (x ∷ xs) =
    let e = filter_length p xs in
    elim (p x) as (λ b. length (cond b (x ∷ filter p xs) (filter p xs)) ≤ length (x ∷ xs)) [ true ↦ omega arith | false ↦ omega arith ]

-- a filter of a longer list
pub filter_more : {A : Type 0} (p : A → Bool) (xs ys : List A) → length (filter p xs) ≤ length (filter p (xs ++ ys))
filter_more p xs ys = let e = ap length (filter-append p xs ys) in let l = length-append (filter p xs) (filter p ys) in omega arith

-- a list without its first element that passes is no longer
pub without_length : {A : Type 0} (t : A → Bool) (xs : List A) → length (without_first t xs) ≤ length xs
unfolding without_first
without_length t [] = omega arith
without_length {A} t (x ∷ xs) =
    let e = without_length t xs in
    elim (t x) as (λ b. length (cond b xs (x ∷ without_first t xs)) ≤ length (x ∷ xs)) [ true ↦ omega arith | false ↦ omega arith ]

-- what is found and taken away is one
pub without_found : {A : Type 0} (t : A → Bool) (xs : List A) (y : A) → find t xs ≡ Some y → suc (length (without_first t xs)) ≤ length xs
unfolding without_first
without_found t [] y h = cc
without_found {A} t (x ∷ xs) y h =
    (elim (t x) as (λ b. cond b (Some x) (find t xs) ≡ Some y → suc (length (cond b xs (x ∷ without_first t xs))) ≤ length (x ∷ xs)) [
      | true ↦ λ e. omega arith
      | false ↦ λ e. (let r = without_found t xs y e in omega arith)
    ]) h
