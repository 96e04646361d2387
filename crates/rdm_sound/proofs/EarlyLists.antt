-- Lists of which one element is taken out, or those that pass.
use Rattle.std.proofs.Common.{◌≡◌, suc, ◌+◌, Bool, true, false, cond, not, List, [], ◌∷◌, length, refl, arith, inl, inr, sym, ◌∙◌, ap, subst}
use Rattle.std.specs.Prelude.{◌&&◌, filter}
use Rattle.std.proofs.lemmas.Bool.{false_from_ne_true}
use Rattle.rdm_lists.specs.Lists.{Member}
use Rattle.rdm_lists.proofs.Filters.{filter_all, filter_both}
use Rattle.rdm_lists.proofs.Same.{filter_same}
use Rattle.rdm_law.proofs.Bound.Pigeons.{AreDistinct}
use Rattle.rdm_sound.specs.Premises.{AreOnce}

-- how many pass, and how many don't
pub length_split : {A : Type 0} (t : A → Bool) (xs : List A) → length (filter t xs) + length (filter (λ x. not (t x)) xs) ≡ length xs
length_split t [] = omega arith
length_split t (x ∷ xs) =
    let rest = length_split t xs in
    elim (t x) as (λ b. length (cond b (x ∷ filter t xs) (filter t xs)) + length (cond (not b) (x ∷ filter (λ x. not (t x)) xs) (filter (λ x. not (t x)) xs)) ≡ suc (length xs)) [
      | true ↦ omega arith
      | false ↦ omega arith
    ]

-- one element is left out
pub length_without : {A : Type 0} (t : A → Bool) (x : A) (xs : List A) → AreOnce xs → Member x xs → t x ≡ true → ((y : A) → t y ≡ true → x ≡ y)
    → suc (length (filter (λ y. not (t y)) xs)) ≡ length xs
length_without t x [] once m is one = elim m [ ]
length_without {A} t x (y ∷ ys) once (inl m) is one =
    let at : t y ≡ true = subst (λ (z : A). t z ≡ true) (sym m) is in
    let rest = filter_all (λ z. not (t z)) ys (λ z k. ap not (false_from_ne_true (t z) (λ e. once.0 (subst (λ (a : A). Member a ys) (sym (one z e) ∙ sym m) k)))) in
    ap (λ b. suc (length (cond (not b) (y ∷ filter (λ z. not (t z)) ys) (filter (λ z. not (t z)) ys)))) at ∙ ap (λ zs. suc (length zs)) rest
length_without {A} t x (y ∷ ys) once (inr m) is one =
    let off : t y ≡ false = false_from_ne_true (t y) (λ e. once.0 (subst (λ (a : A). Member a ys) (one y e) m)) in
    ap (λ b. suc (length (cond (not b) (y ∷ filter (λ z. not (t z)) ys) (filter (λ z. not (t z)) ys)))) off
    ∙ ap suc (length_without t x ys once.1 m is one)

-- two sieves in either order
and_turn : (a b : Bool) → (a && b) ≡ (b && a)
and_turn true true = refl
and_turn true false = refl
and_turn false true = refl
and_turn false false = refl

pub filters_turn : {A : Type 0} (p q : A → Bool) (xs : List A) → filter p (filter q xs) ≡ filter q (filter p xs)
filters_turn p q xs = sym (filter_both q p xs) ∙ filter_same (λ x. q x && p x) (λ x. p x && q x) xs (λ x. and_turn (q x) (p x)) ∙ filter_both p q xs

-- elements that stand once are distinct
pub once_distinct : {A : Type 0} (xs : List A) → AreOnce xs → AreDistinct xs
once_distinct [] once = tt
once_distinct (x ∷ xs) once = (once.0, once_distinct xs once.1)
