-- Options and lists: what comes last, what is found, and what a map finds.
use Rattle.std.proofs.Common.{◌≡◌, Bool, true, false, cond, List, [], ◌∷◌, ◌++◌, map, Option, Some, None, refl, ap}
use Rattle.std.specs.Prelude.{not, ◌&&◌, ◌||◌, find, is_some, option_map}
use Rattle.std.specs.Bool.{then_some}
use Rattle.std.specs.List.{list_any}
use Rattle.rdm_lists.specs.Lists.{or_else, without_first}

-- what is found in a list with one more element
pub find-push : {A : Type 0} (t : A → Bool) (xs : List A) (x : A) → find t (xs ++ x ∷ []) ≡ or_else (find t xs) (then_some (t x) x)
unfolding or_else
find-push t [] x = elim (t x) as (λ b. cond b (Some x) None ≡ then_some b x) [ true ↦ refl | false ↦ refl ]
find-push t (y ∷ xs) x =
    elim (t y) as (λ b. cond b (Some y) (find t (xs ++ x ∷ [])) ≡ or_else (cond b (Some y) (find t xs)) (then_some (t x) x)) [
      | true ↦ refl
      | false ↦ find-push t xs x
    ]

-- whether any passes in a list with one more element
pub list_any-push : {A : Type 0} (t : A → Bool) (xs : List A) (x : A) → list_any t (xs ++ x ∷ []) ≡ (list_any t xs || t x)
list_any-push t [] x = elim (t x) as (λ b. (b || false) ≡ b) [ true ↦ refl | false ↦ refl ]
list_any-push t (y ∷ xs) x =
    elim (t y) as (λ b. (b || list_any t (xs ++ x ∷ [])) ≡ ((b || list_any t xs) || t x)) [ true ↦ refl | false ↦ list_any-push t xs x ]

-- what is found in a mapped list
pub find-map : {A B : Type 0} (f : A → B) (t : B → Bool) (xs : List A) → find t (map f xs) ≡ option_map f (find (λ x. t (f x)) xs)
find-map f t [] = refl
find-map f t (x ∷ xs) =
    elim (t (f x)) as (λ b. cond b (Some (f x)) (find t (map f xs)) ≡ option_map f (cond b (Some x) (find (λ y. t (f y)) xs))) [
      | true ↦ refl
      | false ↦ find-map f t xs
    ]

-- whether there is one, in an option that is mapped
pub is_some-map : {A B : Type 0} (f : A → B) (o : Option A) → is_some (option_map f o) ≡ is_some o
is_some-map f None = refl
is_some-map f (Some x) = refl

-- a mapped list without the first element that passes
pub without-map : {A B : Type 0} (f : A → B) (t : B → Bool) (xs : List A) → without_first t (map f xs) ≡ map f (without_first (λ x. t (f x)) xs)
unfolding without_first
without-map f t [] = refl
without-map f t (x ∷ xs) =
    elim (t (f x)) as (λ b. cond b (map f xs) (f x ∷ without_first t (map f xs)) ≡ map f (cond b xs (x ∷ without_first (λ y. t (f y)) xs))) [
      | true ↦ refl
      | false ↦ ap (λ ys. f x ∷ ys) (without-map f t xs)
    ]

-- neither of two tests holds
pub not_or : (a b : Bool) → not (a || b) ≡ (not a && not b)
not_or true b = refl
not_or false b = refl
