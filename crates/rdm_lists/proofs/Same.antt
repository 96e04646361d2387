-- Lists by two functions that agree.
use Rattle.std.proofs.Common.{[], List, inl, inr, map, refl, ◌≡◌, ◌∷◌, Bool, ◌-◌}
use Rattle.rdm_lists.specs.Lists.{Member, without_first}
use Rattle.std.specs.Prelude.{flat_map, filter, find}
use Rattle.std.specs.List.{list_any}

-- a map by two functions that agree on the list
pub map_same : {A B : Type 0} (f g : A → B) (xs : List A) → ((x : A) → Member x xs → f x ≡ g x) → map f xs ≡ map g xs
map_same f g [] h = refl
map_same f g (x ∷ xs) h = rw (h x (inl refl), map_same f g xs (λ y k. h y (inr k)))

-- a flat map by two functions that agree on the list
pub flat_map_same : {A B : Type 0} (f g : A → List B) (xs : List A) → ((x : A) → Member x xs → f x ≡ g x) → flat_map f xs ≡ flat_map g xs
flat_map_same f g [] h = refl
flat_map_same f g (x ∷ xs) h = rw (h x (inl refl), flat_map_same f g xs (λ y k. h y (inr k)))

-- a filter by two tests that agree
pub filter_same : {A : Type 0} (p q : A → Bool) (xs : List A) → ((x : A) → p x ≡ q x) → filter p xs ≡ filter q xs
filter_same p q [] h = refl
filter_same p q (x ∷ xs) h = rw (h x, filter_same p q xs h)

-- a search by two tests that agree
pub find_same : {A : Type 0} (p q : A → Bool) (xs : List A) → ((x : A) → p x ≡ q x) → find p xs ≡ find q xs
find_same p q [] h = refl
find_same p q (x ∷ xs) h = rw (h x, find_same p q xs h)

-- a search for any by two tests that agree
pub list_any_same : {A : Type 0} (p q : A → Bool) (xs : List A) → ((x : A) → p x ≡ q x) → list_any p xs ≡ list_any q xs
list_any_same p q [] h = refl
list_any_same p q (x ∷ xs) h = rw (h x, list_any_same p q xs h)

-- a filter by two tests that agree on the list
pub filter_where : {A : Type 0} (p q : A → Bool) (xs : List A) → ((x : A) → Member x xs → p x ≡ q x) → filter p xs ≡ filter q xs
filter_where p q [] h = refl
filter_where p q (x ∷ xs) h = let a = h x (inl refl) in let b = filter_where p q xs (λ y m. h y (inr m)) in rw (a, b) refl

-- a search by two tests that agree on the list
pub find_where : {A : Type 0} (p q : A → Bool) (xs : List A) → ((x : A) → Member x xs → p x ≡ q x) → find p xs ≡ find q xs
find_where p q [] h = refl
find_where p q (x ∷ xs) h = let a = h x (inl refl) in let b = find_where p q xs (λ y m. h y (inr m)) in rw (a, b) refl

-- the list without the first element that passes, by two tests that agree on the list
pub without_where : {A : Type 0} (p q : A → Bool) (xs : List A) → ((x : A) → Member x xs → p x ≡ q x) → without_first p xs ≡ without_first q xs
unfolding without_first
without_where p q [] h = refl
without_where p q (x ∷ xs) h = let a = h x (inl refl) in let b = without_where p q xs (λ y m. h y (inr m)) in rw (a, b) refl

-- a flat map that gives nothing
pub flat_map_none : {A B : Type 0} (f : A → List B) (xs : List A) → ((x : A) → Member x xs → f x ≡ []) → flat_map f xs ≡ []
flat_map_none f [] h = refl
flat_map_none f (x ∷ xs) h = let a = h x (inl refl) in let b = flat_map_none f xs (λ y m. h y (inr m)) in rw (a, b) refl
