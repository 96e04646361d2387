-- Elements of lists.
use Rattle.std.proofs.Common.{[], List, inl, inr, ◌∷◌, ◌++◌, ◌⊎◌, Bool, ap, cond, false, refl, sym, true, ◌≡◌, ◌∙◌, map, subst, ◌-◌, Some, None, Option, option_to_list, suc, take, zero, ℕ}
use Rattle.rdm_lists.specs.Lists.{Member, without_first}
use Rattle.std.specs.Prelude.{filter, flat_map, find, is_some}
use Rattle.std.specs.List.{list_any}
use Rattle.std.proofs.lemmas.Bool.{or_cases, or_left, or_right}
use Rattle.rdm_lists.proofs.Bools.{or_false}

-- an element of the first list is one of both in a row
pub member-append_left : {A : Type 0} (x : A) (xs ys : List A) → Member x xs → Member x (xs ++ ys)
member-append_left x [] ys h = elim h [ ]
member-append_left x (z ∷ xs) ys (inl a) = inl a
member-append_left x (z ∷ xs) ys (inr a) = inr (member-append_left x xs ys a)

-- an element of the second list is one of both in a row
pub member-append_right : {A : Type 0} (x : A) (xs ys : List A) → Member x ys → Member x (xs ++ ys)
member-append_right x [] ys h = h
member-append_right x (z ∷ xs) ys h = inr (member-append_right x xs ys h)

-- an element of two lists in a row is one of the first or of the second
pub member-append_cases : {A : Type 0} (x : A) (xs ys : List A) → Member x (xs ++ ys) → Member x xs ⊎ Member x ys
member-append_cases x [] ys h = inr h
member-append_cases x (z ∷ xs) ys (inl a) = inl (inl a)
member-append_cases x (z ∷ xs) ys (inr a) = elim (member-append_cases x xs ys a) [ inl b ↦ inl (inr b) | inr b ↦ inr b ]

-- an element of a filter is one of the list, and passes
pub member-filter : {A : Type 0} (p : A → Bool) (x : A) (xs : List A) → Member x (filter p xs) → Member x xs × (p x ≡ true)
member-filter p x [] h = elim h [ ]
member-filter {A} p x (y ∷ xs) h =
    (elim (p y) as (λ b. p y ≡ b → Member x (cond b (y ∷ filter p xs) (filter p xs)) → Member x (y ∷ xs) × (p x ≡ true)) [
      | true ↦ λ is k. elim k [ inl a ↦ (inl a, ap p (sym a) ∙ is) | inr a ↦ let r = member-filter p x xs a in (inr r.0, r.1) ]
      | false ↦ λ is k. let r = member-filter p x xs k in (inr r.0, r.1)
    ]) refl h

-- an element that passes is one of the filter
pub filter-member : {A : Type 0} (p : A → Bool) (x : A) (xs : List A) → Member x xs → p x ≡ true → Member x (filter p xs)
filter-member p x [] h e = elim h [ ]
filter-member {A} p x (y ∷ xs) h e =
    (elim (p y) as (λ b. p y ≡ b → Member x (cond b (y ∷ filter p xs) (filter p xs))) [
      | true ↦ λ is. elim h [ inl a ↦ inl a | inr a ↦ inr (filter-member p x xs a e) ]
      | false ↦ λ is. elim h [ inl a ↦ (let f = ap p a in cc) | inr a ↦ filter-member p x xs a e ]
    ]) refl

-- an element of a changed list comes from one of the list
pub member-map : {A B : Type 0} (f : A → B) (y : B) (xs : List A) → Member y (map f xs) → (x : A) × Member x xs × (f x ≡ y)
member-map f y [] h = elim h [ ]
member-map f y (x ∷ xs) (inl a) = (x, inl refl, a)
member-map f y (x ∷ xs) (inr a) = let r = member-map f y xs a in (r.0, inr r.1, r.2)

-- an element of the list makes one of the changed list
pub map-member : {A B : Type 0} (f : A → B) (x : A) (xs : List A) → Member x xs → Member (f x) (map f xs)
map-member f x [] h = elim h [ ]
map-member f x (y ∷ xs) (inl a) = inl (ap f a)
map-member f x (y ∷ xs) (inr a) = inr (map-member f x xs a)

-- an element of a flat map comes from one of the list
pub member-flat_map : {A B : Type 0} (f : A → List B) (y : B) (xs : List A) → Member y (flat_map f xs) → (x : A) × Member x xs × Member y (f x)
member-flat_map f y [] h = elim h [ ]
member-flat_map f y (x ∷ xs) h =
    elim (member-append_cases y (f x) (flat_map f xs) h) [
      | inl a ↦ (x, inl refl, a)
      | inr a ↦ let r = member-flat_map f y xs a in (r.0, inr r.1, r.2)
    ]

-- an element of one of lists in a row is one of all
pub flat_map-member : {A B : Type 0} (f : A → List B) (x : A) (xs : List A) (y : B) → Member x xs → Member y (f x) → Member y (flat_map f xs)
flat_map-member f x [] y h k = elim h [ ]
flat_map-member {A} {B} f x (z ∷ xs) y (inl is) k = member-append_left y (f z) (flat_map f xs) (subst (λ (w : A). Member y (f w)) (sym is) k)
flat_map-member f x (z ∷ xs) y (inr h) k = member-append_right y (f z) (flat_map f xs) (flat_map-member f x xs y h k)

-- where some element passes, there is one that does
pub list_any_member : {A : Type 0} (p : A → Bool) (xs : List A) → list_any p xs ≡ true → (x : A) × Member x xs × (p x ≡ true)
list_any_member p [] h = cc
list_any_member p (x ∷ xs) h =
    elim (or_cases (p x) (list_any p xs) h) [
      | inl a ↦ (x, inl refl, a)
      | inr a ↦ let r = list_any_member p xs a in (r.0, inr r.1, r.2)
    ]

-- an element that passes shows that some do
pub member_list_any : {A : Type 0} (p : A → Bool) (x : A) (xs : List A) → Member x xs → p x ≡ true → list_any p xs ≡ true
member_list_any p x [] h e = elim h [ ]
member_list_any p x (y ∷ xs) (inl a) e = or_left (p y) (list_any p xs) (ap p a ∙ e)
member_list_any p x (y ∷ xs) (inr a) e = or_right (p y) (list_any p xs) (member_list_any p x xs a e)

-- what is found is an element, and passes
pub find_member : {A : Type 0} (t : A → Bool) (x : A) (xs : List A) → find t xs ≡ Some x → Member x xs × (t x ≡ true)
find_member t x [] h = cc
find_member {A} t x (y ∷ xs) h =
    (elim (t y) as (λ b. t y ≡ b → cond b (Some y) (find t xs) ≡ Some x → Member x (y ∷ xs) × (t x ≡ true)) [
      | true ↦ λ is k. let e : y ≡ x = cc in (inl e, ap t (sym e) ∙ is)
      | false ↦ λ is k. let r = find_member t x xs k in (inr r.0, r.1)
    ]) refl h

-- where an element passes, one is found
pub member_find : {A : Type 0} (t : A → Bool) (x : A) (xs : List A) → Member x xs → t x ≡ true → is_some (find t xs) ≡ true
member_find t x [] h e = elim h [ ]
member_find {A} t x (y ∷ xs) h e =
    (elim (t y) as (λ b. t y ≡ b → is_some (cond b (Some y) (find t xs)) ≡ true) [
      | true ↦ λ is. refl
      | false ↦ λ is. elim h [ inl a ↦ (let f = ap t a in cc) | inr a ↦ member_find t x xs a e ]
    ]) refl

-- an element that is left was there
pub without_member : {A : Type 0} (t : A → Bool) (x : A) (xs : List A) → Member x (without_first t xs) → Member x xs
unfolding without_first
without_member t x [] h = elim h [ ]
without_member t x (y ∷ xs) h =
    (elim (t y) as (λ b. Member x (cond b xs (y ∷ without_first t xs)) → Member x (y ∷ xs)) [
      | true ↦ λ k. inr k
      | false ↦ λ k. elim k [ inl a ↦ inl a | inr a ↦ inr (without_member t x xs a) ]
    ]) h

-- an element of an option's list is the option's value
pub option_member : {A : Type 0} (o : Option A) (x : A) → Member x (option_to_list o) → o ≡ Some x
option_member None x m = elim m [ ]
option_member (Some y) x (inl is) = ap Some is
option_member (Some y) x (inr m) = elim m [ ]

-- what is in the first part of a list is in the list
pub member_take : {A : Type 0} (n : ℕ) (xs : List A) (x : A) → Member x (take n xs) → Member x xs
member_take zero xs x m = elim m [ ]
member_take (suc n) [] x m = elim m [ ]
member_take (suc n) (y ∷ ys) x (inl is) = inl is
member_take (suc n) (y ∷ ys) x (inr m) = inr (member_take n ys x m)

-- no element of a list passes a test that none passes
pub list_any_false : {A : Type 0} (p : A → Bool) (xs : List A) → list_any p xs ≡ false → (x : A) → Member x xs → p x ≡ false
list_any_false p [] h x m = elim m [ ]
list_any_false p (y ∷ ys) h x (inl is) = subst (λ z. p z ≡ false) is (or_false (p y) (list_any p ys) h).0
list_any_false p (y ∷ ys) h x (inr m) = list_any_false p ys (or_false (p y) (list_any p ys) h).1 x m
