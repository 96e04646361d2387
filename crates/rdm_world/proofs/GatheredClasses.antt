-- Lists in the order of a number, by the classes of elements of the same number.
use Rattle.std.proofs.Common.{◌≡◌, ℕ, ◌<◌, ◌≤◌, Bool, true, false, ltb, tests, le-ltb, lt-ltb, List, [], ◌∷◌, filter, nat_cmp, is_lt, refl, arith, sym, ap, ◌∙◌, subst, inl, inr}
use Rattle.std.proofs.lemmas.Bool.{cases_eq, cases_Bool, cases_lt}
use Rattle.std.specs.List.Sorted.{ties}
use Rattle.rdm_world.proofs.GatheredPairs.{Each, Pairs, pairs_kept_rest}

-- the order of two numbers tells whether the first is below
nat_cmp-ltb : (m n : ℕ) → is_lt (nat_cmp m n) ≡ ltb m n
nat_cmp-ltb m n = grind (arith, tests)

-- two elements have the same number, as a stable sort by the number asks it
abbrev pub tie : {A : Type 0} → (A → ℕ) → A → A → Bool
tie n = ties (λ x y. is_lt (nat_cmp (n x) (n y)))

-- elements of the same number tie
pub tie_same : {A : Type 0} (n : A → ℕ) (x y : A) → n x ≡ n y → tie n x y ≡ true
tie_same n x y h =
    rw (nat_cmp-ltb (n x) (n y), nat_cmp-ltb (n y) (n x), le-ltb (n x) (n y) (omega arith), le-ltb (n y) (n x) (omega arith)) refl

-- an element does not tie with one of a greater number
pub tie_less : {A : Type 0} (n : A → ℕ) (x y : A) → n x < n y → tie n x y ≡ false
tie_less n x y h = rw (nat_cmp-ltb (n x) (n y), lt-ltb (n x) (n y) h) refl

-- nor with one of a smaller number
pub tie_more : {A : Type 0} (n : A → ℕ) (x y : A) → n y < n x → tie n x y ≡ false
tie_more n x y h = rw (nat_cmp-ltb (n x) (n y), nat_cmp-ltb (n y) (n x), lt-ltb (n y) (n x) h, le-ltb (n x) (n y) (omega arith)) refl

-- an element that passes is kept
pub filter_yes : {A : Type 0} (t : A → Bool) (x : A) (xs : List A) → t x ≡ true → filter t (x ∷ xs) ≡ x ∷ filter t xs
filter_yes t x xs h = rw h refl

-- one that fails is not
pub filter_no : {A : Type 0} (t : A → Bool) (x : A) (xs : List A) → t x ≡ false → filter t (x ∷ xs) ≡ filter t xs
filter_no t x xs h = rw h refl

-- nothing is kept where each fails
pub filter_none : {A : Type 0} (t : A → Bool) (xs : List A) → Each (λ x. t x ≡ false) xs → filter t xs ≡ []
filter_none t [] h = refl
filter_none t (x ∷ xs) h = filter_no t x xs h.0 ∙ filter_none t xs h.1

-- no element above a number ties with one of that number
none_above : {A : Type 0} (n : A → ℕ) (x y : A) (ys : List A) → n x < n y → Each (λ z. n y ≤ n z) ys → filter (tie n x) (y ∷ ys) ≡ []
none_above {A} n x y ys lt h = filter_none (tie n x) (y ∷ ys) (tie_less n x y lt, above ys h)
  where
    above : (zs : List A) → Each (λ z. n y ≤ n z) zs → Each (λ z. tie n x z ≡ false) zs
    above [] k = tt
    above (z ∷ zs) k = (let le : n y ≤ n z = k.0 in tie_less n x z (omega arith), above zs k.1)

-- an element is not nothing
not_nothing : {A : Type 0} (x : A) (xs ys : List A) → ys ≡ [] → ys ≡ x ∷ xs → ⊥
not_nothing x xs ys a b = cc

-- the first of a list
first_same : {A : Type 0} (x y : A) (xs ys : List A) → x ∷ xs ≡ y ∷ ys → x ≡ y
first_same x y xs ys h = cc

-- and what follows it
rest_same : {A : Type 0} (x y : A) (xs ys : List A) → x ∷ xs ≡ y ∷ ys → xs ≡ ys
rest_same x y xs ys h = cc

-- lists whose first elements have the same number have the same classes of the others
rest_classes : {A : Type 0} (n : A → ℕ) (u v : A) (us vs : List A) → n u ≡ n v
    → ((x : A) → filter (tie n x) (u ∷ us) ≡ filter (tie n x) (v ∷ vs)) → (x : A) → filter (tie n x) us ≡ filter (tie n x) vs
rest_classes {A} n u v us vs same h x =
    elim (cases_eq (n x) (n u)) [
      | inl is ↦ rest_same u v (filter (tie n x) us) (filter (tie n x) vs) (sym (filter_yes (tie n x) u us (tie_same n x u is)) ∙ h x ∙ filter_yes (tie n x) v vs (tie_same n x v (is ∙ same)))
      | inr other ↦ sym (filter_no (tie n x) u us (apart x u other)) ∙ h x ∙ filter_no (tie n x) v vs (apart x v (λ e. other (e ∙ sym same)))
    ]
  where
    apart : (a b : A) → (n a ≡ n b → ⊥) → tie n a b ≡ false
    apart a b other = elim (cases_lt (n a) (n b)) [
      | inl less ↦ tie_less n a b less
      | inr more ↦ tie_more n a b (omega arith)
    ]

-- lists in the order of a number are the same, if their classes are
pub same_by_classes : {A : Type 0} (n : A → ℕ) (us vs : List A) → Pairs (λ x y. n x ≤ n y) us → Pairs (λ x y. n x ≤ n y) vs
    → ((x : A) → filter (tie n x) us ≡ filter (tie n x) vs) → us ≡ vs
same_by_classes n [] [] p q h = refl
same_by_classes n [] (v ∷ vs) p q h = absurd (not_nothing v (filter (tie n v) vs) (filter (tie n v) (v ∷ vs)) (sym (h v)) (filter_yes (tie n v) v vs (tie_same n v v refl)))
same_by_classes n (u ∷ us) [] p q h = absurd (not_nothing u (filter (tie n u) us) (filter (tie n u) (u ∷ us)) (h u) (filter_yes (tie n u) u us (tie_same n u u refl)))
same_by_classes n (u ∷ us) (v ∷ vs) p q h =
    elim (cases_lt (n u) (n v)) [
      | inl less ↦ absurd (not_nothing u (filter (tie n u) us) (filter (tie n u) (u ∷ us)) (h u ∙ none_above n u v vs less q.0) (filter_yes (tie n u) u us (tie_same n u u refl)))
      | inr le ↦ elim (cases_lt (n v) (n u)) [
        | inl less ↦ absurd (not_nothing v (filter (tie n v) vs) (filter (tie n v) (v ∷ vs)) (sym (h v) ∙ none_above n v u us less p.0) (filter_yes (tie n v) v vs (tie_same n v v refl)))
        | inr other ↦ (let same : n u ≡ n v = omega arith in
            let first = first_same u v (filter (tie n u) us) (filter (tie n u) vs) (sym (filter_yes (tie n u) u us (tie_same n u u refl)) ∙ h u ∙ filter_yes (tie n u) v vs (tie_same n u v same)) in
            ap (λ x. x ∷ us) first ∙ ap (λ xs. v ∷ xs) (same_by_classes n us vs p.1 q.1 (rest_classes n u v us vs same h)))
      ]
    ]

-- what a class says of the first element with those of the same number
class_first : {A : Type 0} (n : A → ℕ) (S : A → Type 0) (y : A) (ys : List A) → Each S (filter (tie n y) ys) → Each (λ z. n y ≡ n z → S z) ys
class_first n S y [] h = tt
class_first n S y (z ∷ zs) h =
    elim (cases_Bool (tie n y z)) [
      | inl is ↦ (let k : Each S (z ∷ filter (tie n y) zs) = subst (Each S) (filter_yes (tie n y) z zs is) h in (λ same. k.0, class_first n S y zs k.1))
      | inr other ↦ (let k : Each S (filter (tie n y) zs) = subst (Each S) (filter_no (tie n y) z zs other) h in (λ same. absurd (clash (tie n y z) (tie_same n y z same) other), class_first n S y zs k))
    ]
  where
    clash : (b : Bool) → b ≡ true → b ≡ false → ⊥
    clash b s t = cc

-- what holds in pairs of each class holds of pairs of the same number
pub pairs_by_classes : {A : Type 0} (n : A → ℕ) (S : A → A → Type 0) (ys : List A) → ((x : A) → Pairs S (filter (tie n x) ys)) → Pairs (λ y z. n y ≡ n z → S y z) ys
pairs_by_classes n S [] h = tt
pairs_by_classes n S (y ∷ ys) h =
    let k : Pairs S (y ∷ filter (tie n y) ys) = subst (Pairs S) (filter_yes (tie n y) y ys (tie_same n y y refl)) (h y) in
    (class_first n (S y) y ys k.0, pairs_by_classes n S ys (λ x. pairs_kept_rest S (tie n x) y ys (h x)))
