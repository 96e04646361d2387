-- Lists that are others with elements left out.
use Rattle.std.proofs.Common.{◌≡◌, Bool, true, false, cond, List, [], ◌∷◌, map, refl, ◌⊎◌, inl, inr, sym, ◌∙◌, ap, subst}
use Rattle.std.specs.Prelude.{filter}
use Rattle.rdm_lists.specs.Lists.{Member, without_first}
use Rattle.rdm_life.specs.Kept.{change_where}
use Rattle.rdm_sound.specs.Premises.{AreOnce}

-- the first list is the second with some elements left out
abbrev pub IsThinned : {A : Type 0} → List A → List A → Type 0
IsThinned [] ys = Unit {0}
IsThinned (x ∷ xs) [] = ⊥
IsThinned (x ∷ xs) (y ∷ ys) = ((x ≡ y) × IsThinned xs ys) ⊎ IsThinned (x ∷ xs) ys

-- none is left out
pub thinned_self : {A : Type 0} (xs : List A) → IsThinned xs xs
thinned_self [] = tt
thinned_self (x ∷ xs) = inl (refl, thinned_self xs)

pub thinned_same : {A : Type 0} (xs ys : List A) → xs ≡ ys → IsThinned xs ys
thinned_same {A} xs ys e = subst (λ (zs : List A). IsThinned xs zs) e (thinned_self xs)

-- one more is left out
pub thinned_more : {A : Type 0} (xs ys : List A) (y : A) → IsThinned xs ys → IsThinned xs (y ∷ ys)
thinned_more [] ys y h = tt
thinned_more (x ∷ xs) ys y h = inr h

pub thinned_rest : {A : Type 0} (x : A) (xs ys : List A) → IsThinned (x ∷ xs) ys → IsThinned xs ys
thinned_rest x xs [] h = elim h [ ]
thinned_rest x xs (y ∷ ys) (inl h) = thinned_more xs ys y h.1
thinned_rest x xs (y ∷ ys) (inr h) = thinned_more xs ys y (thinned_rest x xs ys h)

-- some are left out, and then others
pub thinned_again : {A : Type 0} (xs ys zs : List A) → IsThinned xs ys → IsThinned ys zs → IsThinned xs zs
thinned_again [] ys zs h k = tt
thinned_again (x ∷ xs) [] zs h k = elim h [ ]
thinned_again (x ∷ xs) (y ∷ ys) [] h k = elim k [ ]
thinned_again (x ∷ xs) (y ∷ ys) (z ∷ zs) (inl h) (inl k) = inl (h.0 ∙ k.0, thinned_again xs ys zs h.1 k.1)
thinned_again (x ∷ xs) (y ∷ ys) (z ∷ zs) (inr h) (inl k) = inr (thinned_again (x ∷ xs) ys zs h k.1)
thinned_again (x ∷ xs) (y ∷ ys) (z ∷ zs) h (inr k) = inr (thinned_again (x ∷ xs) (y ∷ ys) zs h k)

-- what is left was there
pub thinned_member : {A : Type 0} (x : A) (xs ys : List A) → IsThinned xs ys → Member x xs → Member x ys
thinned_member x [] ys h m = elim m [ ]
thinned_member x (y ∷ xs) [] h m = elim h [ ]
thinned_member x (y ∷ xs) (z ∷ ys) (inl h) (inl m) = inl (sym h.0 ∙ m)
thinned_member x (y ∷ xs) (z ∷ ys) (inl h) (inr m) = inr (thinned_member x xs ys h.1 m)
thinned_member x (y ∷ xs) (z ∷ ys) (inr h) m = inr (thinned_member x (y ∷ xs) ys h m)

-- and stands once where it did
pub thinned_once : {A : Type 0} (xs ys : List A) → IsThinned xs ys → AreOnce ys → AreOnce xs
thinned_once [] ys h once = tt
thinned_once (x ∷ xs) [] h once = elim h [ ]
thinned_once {A} (x ∷ xs) (y ∷ ys) (inl h) once =
    ((λ m. once.0 (subst (λ (z : A). Member z ys) h.0 (thinned_member x xs ys h.1 m))), thinned_once xs ys h.1 once.1)
thinned_once (x ∷ xs) (y ∷ ys) (inr h) once = thinned_once (x ∷ xs) ys h once.1

-- a map leaves out what belongs to them
pub thinned_map : {A B : Type 0} (f : A → B) (xs ys : List A) → IsThinned xs ys → IsThinned (map f xs) (map f ys)
thinned_map f [] ys h = tt
thinned_map f (x ∷ xs) [] h = elim h [ ]
thinned_map f (x ∷ xs) (y ∷ ys) (inl h) = inl (ap f h.0, thinned_map f xs ys h.1)
thinned_map f (x ∷ xs) (y ∷ ys) (inr h) = inr (thinned_map f (x ∷ xs) ys h)

-- those that don't pass are left out
pub thinned_filter : {A : Type 0} (t : A → Bool) (xs : List A) → IsThinned (filter t xs) xs
thinned_filter t [] = tt
thinned_filter t (x ∷ xs) =
    let rest = thinned_filter t xs in
    elim (t x) as (λ b. IsThinned (cond b (x ∷ filter t xs) (filter t xs)) (x ∷ xs)) [ true ↦ inl (refl, rest) | false ↦ thinned_more (filter t xs) xs x rest ]

-- the first that passes is left out
pub thinned_without : {A : Type 0} (t : A → Bool) (xs : List A) → IsThinned (without_first t xs) xs
unfolding without_first
thinned_without t [] = tt
thinned_without t (x ∷ xs) =
    elim (t x) as (λ b. IsThinned (cond b xs (x ∷ without_first t xs)) (x ∷ xs)) [ true ↦ thinned_more xs xs x (thinned_self xs) | false ↦ inl (refl, thinned_without t xs) ]

-- a change that a map doesn't see
pub change_unseen : {A B : Type 0} (g : A → B) (t : A → Bool) (f : A → A) (xs : List A) → ((x : A) → g (f x) ≡ g x) → map g (change_where t f xs) ≡ map g xs
unfolding change_where
change_unseen g t f [] same = refl
change_unseen g t f (x ∷ xs) same =
    let rest = change_unseen g t f xs same in
    elim (t x) as (λ b. g (cond b (f x) x) ∷ map g (change_where t f xs) ≡ g x ∷ map g xs) [
      | true ↦ ap (λ y. y ∷ map g (change_where t f xs)) (same x) ∙ ap (λ ys. g x ∷ ys) rest
      | false ↦ ap (λ ys. g x ∷ ys) rest
    ]
