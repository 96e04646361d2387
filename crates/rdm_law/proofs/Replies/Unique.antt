-- Lists of which elements that clash stand at one place.
use Rattle.std.proofs.Common.{◌≡◌, ℕ, zero, suc, List, [], ◌∷◌, ◌++◌, map, Some, refl, arith, inl, inr, sym, ◌∙◌, ap, subst}
use Rattle.std.specs.Prelude.{slice_get, flat_map}
use Rattle.rdm_lists.specs.Lists.{Member}
use Rattle.rdm_match.specs.Matcher.{Pair}
use Rattle.rdm_law.proofs.Matching.Numbered.{PairsApart, LacksPair}
use Rattle.rdm_lists.proofs.Members.{member-flat_map}
use Rattle.rdm_lists.proofs.Places.{slice_get-member, slice_get_split, slice_get-map_some}

-- elements that clash stand at one place
abbrev pub Unique : {A : Type 0} → (A → A → Type 0) → List A → Type 0
Unique {A} K xs = (i j : ℕ) (x y : A) → slice_get xs i ≡ Some x → slice_get xs j ≡ Some y → K x y → i ≡ j

-- an empty list
pub unique_none : {A : Type 0} (K : A → A → Type 0) → Unique K []
unique_none K i j x y h k c = cc

-- a list of one element
pub unique_one : {A : Type 0} (K : A → A → Type 0) (x : A) → Unique K (x ∷ [])
unique_one K z zero zero x y h k c = refl
unique_one K z (suc i) j x y h k c = cc
unique_one K z zero (suc j) x y h k c = cc

-- one element before a list with which it does not clash
pub unique_cons : {A : Type 0} (K : A → A → Type 0) → ((x y : A) → K x y → K y x) → (x : A) (xs : List A) → Unique K xs → ((y : A) → Member y xs → K x y → ⊥) → Unique K (x ∷ xs)
unique_cons K s z zs u n zero zero x y h k c = refl
unique_cons {A} K s z zs u n zero (suc j) x y h k c =
    let e : z ≡ x = cc in absurd (n y (slice_get-member zs j y k) (subst (λ (w : A). K w y) (sym e) c))
unique_cons {A} K s z zs u n (suc i) zero x y h k c =
    let e : z ≡ y = cc in absurd (n x (slice_get-member zs i x h) (subst (λ (w : A). K w x) (sym e) (s x y c)))
unique_cons K s z zs u n (suc i) (suc j) x y h k c = ap suc (u i j x y h k c)

-- lists in a row, of which no elements clash across
pub unique_append : {A : Type 0} (K : A → A → Type 0) → ((x y : A) → K x y → K y x) → (xs ys : List A) → Unique K xs → Unique K ys
    → ((x y : A) → Member x xs → Member y ys → K x y → ⊥) → Unique K (xs ++ ys)
unique_append K s xs ys u v n i j x y h k c =
    elim (slice_get_split xs ys i x h) [
      | inl a ↦ elim (slice_get_split xs ys j y k) [
        | inl b ↦ u i j x y a b c
        | inr b ↦ absurd (n x y (slice_get-member xs i x a) (slice_get-member ys b.0 y b.2) c)
      ]
      | inr a ↦ elim (slice_get_split xs ys j y k) [
        | inl b ↦ absurd (n y x (slice_get-member xs j y b) (slice_get-member ys a.0 x a.2) (s x y c))
        | inr b ↦ let e = v a.0 b.0 x y a.2 b.2 c in let f = a.1 in let g = b.1 in omega arith
      ]
    ]

-- an element of pairs that lack a receive has another one
lacks_pair : (n : ℕ) (p : Pair) (ps : List Pair) → LacksPair n ps → Member p ps → p.recv.id.0 ≡ n → ⊥
lacks_pair n p [] l h e = elim h [ ]
lacks_pair n p (q ∷ ps) l (inl is) e = l.0 (ap (λ (x : Pair). x.recv.id.0) is ∙ e)
lacks_pair n p (q ∷ ps) l (inr h) e = lacks_pair n p ps l.1 h e

-- what pairs make in order: elements that clash are of one receive
pub unique_pairs : {A : Type 0} (K : A → A → Type 0) → ((x y : A) → K x y → K y x) → (f : Pair → List A) (ps : List Pair) → PairsApart ps
    → ((p : Pair) → Member p ps → Unique K (f p))
    → ((p q : Pair) (x y : A) → Member p ps → Member q ps → Member x (f p) → Member y (f q) → K x y → p.recv.id.0 ≡ q.recv.id.0)
    → Unique K (flat_map f ps)
unique_pairs K s f [] a u n = unique_none K
unique_pairs K s f (p ∷ ps) a u n =
    unique_append K s (f p) (flat_map f ps) (u p (inl refl))
    (unique_pairs K s f ps a.1 (λ q h. u q (inr h)) (λ q r x y h k l m c. n q r x y (inr h) (inr k) l m c))
    (λ x y h k c.
    let r = member-flat_map f y ps k in
    lacks_pair p.recv.id.0 r.0 ps a.0 r.1 (sym (n p r.0 x y (inl refl) (inr r.1) h r.2 c)))

-- a list of which each element was changed, where those that clash then clashed before
pub unique_map : {A B : Type 0} (K : A → A → Type 0) (L : B → B → Type 0) (f : A → B) (xs : List A) → Unique K xs
    → ((x y : A) → L (f x) (f y) → K x y) → Unique L (map f xs)
unique_map K L f xs u n i j x y h k c =
    let a = slice_get-map_some f xs i x h in
    let b = slice_get-map_some f xs j y k in
    u i j a.0 b.0 a.1 b.1 (n a.0 b.0 (subst (λ z. L z (f b.0)) (sym a.2) (subst (λ z. L x z) (sym b.2) c)))
