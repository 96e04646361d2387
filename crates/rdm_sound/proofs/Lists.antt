-- Lists that are changed and sifted in one pass or in two.
use Rattle.std.proofs.Common.{◌≡◌, Bool, true, false, cond, List, [], ◌∷◌, Option, Some, None, refl, ◌⊎◌, inl, inr, sym, ◌∙◌, ap}
use Rattle.std.specs.Prelude.{filter, find}
use Rattle.rdm_lists.specs.Lists.{Member}
use Rattle.rdm_lists.proofs.Members.{find_member, member_find}
use Rattle.rdm_lists.proofs.Options.{some_of}
use Rattle.rdm_life.specs.Kept.{change_where}

-- those that are left are changed, where one sieve is two
pub change_left : {A : Type 0} (f : A → A) (t s p q o : A → Bool) (xs : List A)
    → ((x : A) → Member x xs → ((o x ≡ false) × (p x ≡ false)) ⊎ ((o x ≡ true) × (p x ≡ q x) × (t x ≡ s x)))
    → change_where t f (filter p xs) ≡ change_where s f (filter q (filter o xs))
unfolding change_where
change_left f t s p q o [] h = refl
change_left {A} f t s p q o (x ∷ xs) h =
    let rest = change_left f t s p q o xs (λ y m. h y (inr m)) in
    elim (h x (inl refl)) [
      | inl e ↦ rw (e.0, e.1) rest
      | inr e ↦ rw (e.0, e.1) (elim (q x) as (λ b. change_where t f (cond b (x ∷ filter p xs) (filter p xs)) ≡ change_where s f (cond b (x ∷ filter q (filter o xs)) (filter q (filter o xs)))) [
        | true ↦ ap (λ b. cond b (f x) x ∷ change_where t f (filter p xs)) e.2 ∙ ap (λ ys. cond (s x) (f x) x ∷ ys) rest
        | false ↦ rest
      ])
    ]

-- and where one was changed before
pub change_again : {A : Type 0} (f : A → A) (t s p q o : A → Bool) (xs : List A)
    → ((x : A) → Member x xs → ((o x ≡ true) × (p x ≡ true) × (t x ≡ true) × (q (f x) ≡ true) × (s (f x) ≡ false)) ⊎ ((o x ≡ false) × (p x ≡ q x) × (t x ≡ s x)))
    → change_where t f (filter p xs) ≡ change_where s f (filter q (change_where o f xs))
unfolding change_where
change_again f t s p q o [] h = refl
change_again {A} f t s p q o (x ∷ xs) h =
    let rest = change_again f t s p q o xs (λ y m. h y (inr m)) in
    elim (h x (inl refl)) [
      | inl e ↦ rw (e.0, e.1) (rw (e.2, e.3) (rw e.4 (ap (λ ys. f x ∷ ys) rest)))
      | inr e ↦ rw (e.0, e.1) (elim (q x) as (λ b. change_where t f (cond b (x ∷ filter p xs) (filter p xs)) ≡ change_where s f (cond b (x ∷ filter q (change_where o f xs)) (filter q (change_where o f xs)))) [
        | true ↦ ap (λ b. cond b (f x) x ∷ change_where t f (filter p xs)) e.2 ∙ ap (λ ys. cond (s x) (f x) x ∷ ys) rest
        | false ↦ rest
      ])
    ]

-- those that pass, where those that are changed don't
pub filter_changed : {A : Type 0} (f : A → A) (a b o : A → Bool) (xs : List A)
    → ((x : A) → Member x xs → ((o x ≡ true) × (a x ≡ false) × (b (f x) ≡ false)) ⊎ ((o x ≡ false) × (a x ≡ b x)))
    → filter a xs ≡ filter b (change_where o f xs)
unfolding change_where
filter_changed f a b o [] h = refl
filter_changed {A} f a b o (x ∷ xs) h =
    let rest = filter_changed f a b o xs (λ y m. h y (inr m)) in
    elim (h x (inl refl)) [
      | inl e ↦ rw (e.0, e.1) (rw e.2 rest)
      | inr e ↦ rw (e.0, e.1) (elim (b x) as (λ c. cond c (x ∷ filter a xs) (filter a xs) ≡ cond c (x ∷ filter b (change_where o f xs)) (filter b (change_where o f xs))) [
        | true ↦ ap (λ ys. x ∷ ys) rest
        | false ↦ rest
      ])
    ]

-- what is found, where one sieve is two but for what does not pass
pub find_left : {A : Type 0} (t a b o : A → Bool) (xs : List A)
    → ((x : A) → Member x xs → (t x ≡ false) ⊎ ((o x ≡ true) × (a x ≡ b x)))
    → find t (filter a xs) ≡ find t (filter b (filter o xs))
find_left t a b o [] h = refl
find_left {A} t a b o (x ∷ xs) h =
    let rest = find_left t a b o xs (λ y m. h y (inr m)) in
    elim (h x (inl refl)) [
      | inl e ↦ (let one : (c : Bool) (ys : List A) → find t (cond c (x ∷ ys) ys) ≡ find t ys = λ c ys. elim c as (λ d. find t (cond d (x ∷ ys) ys) ≡ find t ys) [ true ↦ rw e refl | false ↦ refl ] in
          one (a x) (filter a xs) ∙ rest
          ∙ sym (elim (o x) as (λ c. find t (filter b (cond c (x ∷ filter o xs) (filter o xs))) ≡ find t (filter b (filter o xs))) [ true ↦ one (b x) (filter b (filter o xs)) | false ↦ refl ]))
      | inr e ↦ rw (e.0, e.1) (elim (b x) as (λ c. find t (cond c (x ∷ filter a xs) (filter a xs)) ≡ find t (cond c (x ∷ filter b (filter o xs)) (filter b (filter o xs)))) [
        | true ↦ ap (λ (y : Option A). cond (t x) (Some x) y) rest
        | false ↦ rest
      ])
    ]

-- what is found among those that are left, where all that pass are
pub find_kept : {A : Type 0} (t o : A → Bool) (xs : List A) → ((x : A) → Member x xs → (t x ≡ false) ⊎ (o x ≡ true)) → find t (filter o xs) ≡ find t xs
find_kept t o [] h = refl
find_kept {A} t o (x ∷ xs) h =
    let rest = find_kept t o xs (λ y m. h y (inr m)) in
    elim (h x (inl refl)) [
      | inl e ↦ elim (o x) as (λ b. find t (cond b (x ∷ filter o xs) (filter o xs)) ≡ cond (t x) (Some x) (find t xs)) [
        | true ↦ ap (λ (y : Option A). cond (t x) (Some x) y) rest
        | false ↦ rest ∙ ap (λ b. cond b (Some x) (find t xs)) (sym e)
      ]
      | inr e ↦ rw e (ap (λ (y : Option A). cond (t x) (Some x) y) rest)
    ]

-- what is found, where those that are changed pass neither before nor after
pub find_unchanged : {A : Type 0} (f : A → A) (t o : A → Bool) (xs : List A) → ((x : A) → Member x xs → ((t x ≡ false) × (t (f x) ≡ false)) ⊎ (o x ≡ false))
    → find t (change_where o f xs) ≡ find t xs
unfolding change_where
find_unchanged f t o [] h = refl
find_unchanged {A} f t o (x ∷ xs) h =
    let rest = find_unchanged f t o xs (λ y m. h y (inr m)) in
    elim (h x (inl refl)) [
      | inl e ↦ elim (o x) as (λ b. cond (t (cond b (f x) x)) (Some (cond b (f x) x)) (find t (change_where o f xs)) ≡ cond (t x) (Some x) (find t xs)) [
        | true ↦ rw (e.0, e.1) rest
        | false ↦ ap (λ (y : Option A). cond (t x) (Some x) y) rest
      ]
      | inr e ↦ rw e (ap (λ (y : Option A). cond (t x) (Some x) y) rest)
    ]

-- what is found, where one element at most passes
pub find_only : {A : Type 0} (t : A → Bool) (x : A) (xs : List A) → Member x xs → t x ≡ true → ((y : A) → Member y xs → t y ≡ true → y ≡ x) → find t xs ≡ Some x
find_only t x xs m e only =
    let s = some_of (find t xs) (member_find t x xs m e) in
    let f = find_member t s.0 xs s.1 in
    s.1 ∙ ap Some (only s.0 f.0 f.1)

-- nothing is found where none passes
pub find_nothing : {A : Type 0} (t : A → Bool) (xs : List A) → ((y : A) → Member y xs → t y ≡ false) → find t xs ≡ None
find_nothing t [] h = refl
find_nothing t (x ∷ xs) h = let e = h x (inl refl) in let rest = find_nothing t xs (λ y m. h y (inr m)) in rw (e, rest) refl

-- where none passes, none is changed
pub change_none : {A : Type 0} (t : A → Bool) (f : A → A) (xs : List A) → ((y : A) → Member y xs → t y ≡ false) → change_where t f xs ≡ xs
unfolding change_where
change_none t f [] h = refl
change_none t f (x ∷ xs) h = let e = h x (inl refl) in let rest = change_none t f xs (λ y m. h y (inr m)) in rw (e, rest) refl
