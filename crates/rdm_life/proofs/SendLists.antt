-- Lists that are kept of others, as their elements are changed, left out, or replaced.
use Rattle.std.proofs.Common.{◌≡◌, Bool, true, false, cond, List, [], ◌∷◌, ◌++◌, map, Some, refl, inl, inr, sym, ◌∙◌, ap}
use Rattle.std.specs.Prelude.{◌||◌, filter, find, flat_map, option_map}
use Rattle.std.specs.List.{list_any}
use Rattle.rdm_lists.specs.Lists.{Member}
use Rattle.rdm_life.specs.Kept.{change_where}

-- nothing either way
pub none_either : (r c : Bool) → cond r false (cond c false false) ≡ false
none_either true c = refl
none_either false true = refl
none_either false false = refl

-- what passes of two lists
pub any-append : {A : Type 0} (t : A → Bool) (xs ys : List A) → list_any t (xs ++ ys) ≡ (list_any t xs || list_any t ys)
any-append t [] ys = refl
any-append t (x ∷ xs) ys = rw (any-append t xs ys) (any_assoc (t x) (list_any t xs) (list_any t ys))
  where
    any_assoc : (a b c : Bool) → (a || (b || c)) ≡ ((a || b) || c)
    any_assoc true b c = refl
    any_assoc false b c = refl

-- the elements that pass are what is kept of those that do
pub filter_kept : {A B : Type 0} (test : B → Bool) (kept now : A → B) (q : A → Bool) (xs : List A) → ((x : A) → Member x xs → test (kept x) ≡ q x)
    → ((x : A) → Member x xs → q x ≡ true → now x ≡ kept x) → filter test (map kept xs) ≡ map now (filter q xs)
filter_kept test kept now q [] same keeps = refl
filter_kept test kept now q (x ∷ xs) same keeps =
    let rest = filter_kept test kept now q xs (λ y m. same y (inr m)) (λ y m. keeps y (inr m)) in
    rw (same x (inl refl))
    ((elim (q x) as (λ b. q x ≡ b → cond b (kept x ∷ filter test (map kept xs)) (filter test (map kept xs)) ≡ map now (cond b (x ∷ filter q xs) (filter q xs))) [
      | true ↦ λ e. ap (λ y. y ∷ filter test (map kept xs)) (sym (keeps x (inl refl) e)) ∙ ap (λ ys. now x ∷ ys) rest
      | false ↦ λ e. rest
    ]) refl)

-- where each becomes itself or nothing
pub flat_kept : {A B : Type 0} (f : B → List B) (kept now : A → B) (q : A → Bool) (xs : List A) → ((x : A) → Member x xs → f (kept x) ≡ cond (q x) (now x ∷ []) [])
    → flat_map f (map kept xs) ≡ map now (filter q xs)
flat_kept f kept now q [] h = refl
flat_kept f kept now q (x ∷ xs) h =
    let rest = flat_kept f kept now q xs (λ y m. h y (inr m)) in
    rw (h x (inl refl))
    (elim (q x) as (λ b. cond b (now x ∷ []) [] ++ flat_map f (map kept xs) ≡ map now (cond b (x ∷ filter q xs) (filter q xs))) [
      | true ↦ ap (λ ys. now x ∷ ys) rest
      | false ↦ rest
    ])

-- where those that pass are changed
pub change_kept : {A B : Type 0} (test : B → Bool) (change : B → B) (kept now : A → B) (xs : List A)
    → ((x : A) → Member x xs → cond (test (kept x)) (change (kept x)) (kept x) ≡ now x) → change_where test change (map kept xs) ≡ map now xs
unfolding change_where
change_kept test change kept now [] h = refl
change_kept test change kept now (x ∷ xs) h =
    let rest = change_kept test change kept now xs (λ y m. h y (inr m)) in
    ap (λ y. y ∷ change_where test change (map kept xs)) (h x (inl refl)) ∙ ap (λ ys. now x ∷ ys) rest

-- what is found of what is kept
pub find-map : {A B : Type 0} (f : A → B) (t : B → Bool) (xs : List A) → find t (map f xs) ≡ option_map f (find (λ x. t (f x)) xs)
find-map f t [] = refl
find-map f t (x ∷ xs) =
    elim (t (f x)) as (λ b. cond b (Some (f x)) (find t (map f xs)) ≡ option_map f (cond b (Some x) (find (λ y. t (f y)) xs))) [
      | true ↦ refl
      | false ↦ find-map f t xs
    ]
