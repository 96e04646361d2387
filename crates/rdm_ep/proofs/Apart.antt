-- Lists whose elements have numbers of their own.
use Rattle.std.proofs.Common.{◌≡◌, ℕ, Bool, true, false, cond, not, List, [], ◌∷◌, ◌++◌, Some, refl, inl, inr, ap, ◌∙◌, sym}
use Rattle.std.specs.Prelude.{◌==◌, find, filter}
use Rattle.std.proofs.lemmas.Bool.{eq-eqb, ne_eqb}
use Rattle.rdm_lists.specs.Lists.{Member, without_first}
use Rattle.rdm_lists.proofs.Members.{member-append_cases, member-filter, find_member}
use Rattle.rdm_lists.proofs.Filters.{filter_all}

-- no two elements have one number
abbrev pub ApartBy : {A : Type 0} → (A → ℕ) → List A → Type 0
ApartBy f [] = Unit {0}
ApartBy f (x ∷ xs) = ((y : _) → Member y xs → f y ≡ f x → ⊥) × ApartBy f xs

-- elements are apart with one more of another number
pub apart_push : {A : Type 0} (f : A → ℕ) (xs : List A) (x : A) → ApartBy f xs → ((y : A) → Member y xs → f y ≡ f x → ⊥) → ApartBy f (xs ++ x ∷ [])
apart_push f [] x a h = (λ y m. elim m [ ], tt)
apart_push f (z ∷ xs) x a h = (
  λ y m e. elim (member-append_cases y xs (x ∷ []) m) [
    | inl k ↦ a.0 y k e
    | inr k ↦ elim k [ inl is ↦ h z (inl refl) (sym e ∙ ap f (sym is)) | inr never ↦ elim never [ ] ]
  ],
  apart_push f xs x a.1 (λ y m. h y (inr m)),
)

-- and so are those that a filter keeps
pub apart_filter : {A : Type 0} (f : A → ℕ) (t : A → Bool) (xs : List A) → ApartBy f xs → ApartBy f (filter t xs)
apart_filter f t [] a = tt
apart_filter f t (x ∷ xs) a =
    elim (t x) as (λ b. ApartBy f (cond b (x ∷ filter t xs) (filter t xs))) [
      | true ↦ (λ y m. a.0 y (member-filter t y xs m).0, apart_filter f t xs a.1)
      | false ↦ apart_filter f t xs a.1
    ]

-- without the number of the first element that passes is without that element
pub apart_without : {A : Type 0} (f : A → ℕ) (t : A → Bool) (xs : List A) (x : A) → ApartBy f xs → find t xs ≡ Some x
    → filter (λ y. not (f x == f y)) xs ≡ without_first t xs
unfolding without_first
apart_without f t [] x a h = cc
apart_without {A} f t (z ∷ xs) x a h =
    (elim (t z) as (λ b. cond b (Some z) (find t xs) ≡ Some x → filter (λ y. not (f x == f y)) (z ∷ xs) ≡ cond b xs (z ∷ without_first t xs)) [
      | true ↦ λ k.
          let is : z ≡ x = cc in
          let e : (f x == f z) ≡ true = eq-eqb (f x) (f z) (ap f (sym is)) in
          let rest = filter_all (λ y. not (f x == f y)) xs
          (λ y m. let n : (f x == f y) ≡ false = ne_eqb (f x) (f y) (λ q. a.0 y m (sym q ∙ ap f (sym is))) in rw n refl) in
          rw (e, rest) refl
      | false ↦ λ k.
          let m = find_member t x xs k in
          let e : (f x == f z) ≡ false = ne_eqb (f x) (f z) (a.0 x m.0) in
          let rest = apart_without f t xs x a.1 k in
          rw (e, rest) refl
    ]) h

-- the element of a number is the one that has it
pub apart_numbered : {A : Type 0} (f : A → ℕ) (xs : List A) (x : A) → ApartBy f xs → Member x xs → find (λ y. f y == f x) xs ≡ Some x
apart_numbered f [] x a m = elim m [ ]
apart_numbered f (z ∷ xs) x a (inl is) = let e : (f z == f x) ≡ true = eq-eqb (f z) (f x) (ap f is) in rw e (ap Some is)
apart_numbered f (z ∷ xs) x a (inr m) =
    let e : (f z == f x) ≡ false = ne_eqb (f z) (f x) (λ q. a.0 x m (sym q)) in
    let rest = apart_numbered f xs x a.1 m in
    rw (e, rest) refl

-- elements of one number are one
pub apart_one : {A : Type 0} (f : A → ℕ) (xs : List A) (x y : A) → ApartBy f xs → Member x xs → Member y xs → f x ≡ f y → x ≡ y
apart_one f [] x y a m k e = elim m [ ]
apart_one f (z ∷ xs) x y a (inl m) (inl k) e = sym m ∙ k
apart_one f (z ∷ xs) x y a (inl m) (inr k) e = absurd (a.0 y k (sym e ∙ sym (ap f m)))
apart_one f (z ∷ xs) x y a (inr m) (inl k) e = absurd (a.0 x m (e ∙ sym (ap f k)))
apart_one f (z ∷ xs) x y a (inr m) (inr k) e = apart_one f xs x y a.1 m k e
