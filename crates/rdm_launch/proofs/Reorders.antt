-- Lists that differ in their order alone.
use Rattle.std.proofs.Common.{◌≡◌, Bool, true, false, cond, List, [], ◌∷◌, ◌++◌, filter, refl, ap, sym, ◌∙◌, subst, ◌⊎◌, inl, inr, append_assoc}
use Rattle.std.proofs.lemmas.List.Elements.{filter-append}
use Rattle.rdm_lists.specs.Lists.{Member}
use Rattle.rdm_lists.proofs.Members.{member-append_left, member-append_right}
use Rattle.rdm_wire.specs.declared.Datagram.{Datagram}
use Rattle.rdm_law.proofs.Played.Apart.{AreApart, member_around, member_without, apart_without}
use Rattle.rdm_launch.specs.Reordered.{IsReordered}

-- a list is in some order of itself
pub reordered_same : {A : Type 0} (xs : List A) → IsReordered xs xs
reordered_same [] = refl
reordered_same {A} (x ∷ xs) = ([], xs, refl, reordered_same xs)

-- elements at the end of both stay there
pub reordered_more : {A : Type 0} (xs ys zs : List A) → IsReordered xs ys → IsReordered (xs ++ zs) (ys ++ zs)
reordered_more {A} [] ys zs r = subst (λ (l : List A). IsReordered zs (l ++ zs)) (sym r) (reordered_same zs)
reordered_more {A} (x ∷ xs) ys zs r = (
  r.0,
  r.1 ++ zs,
  ap (λ (l : List A). l ++ zs) r.2 ∙ append_assoc r.0 (x ∷ r.1) zs,
  subst (λ (l : List A). IsReordered (xs ++ zs) l) (append_assoc r.0 r.1 zs) (reordered_more xs (r.0 ++ r.1) zs r.3),
)

-- where two lists in a row are two parts with one element between them, the element is in one of the lists
abbrev Halves : {A : Type 0} → (front back f : List A) → A → (b : List A) → Type 0
Halves {A} front back f d b = ((m : List A) × (front ≡ f ++ d ∷ m) × (b ≡ m ++ back)) ⊎ ((m : List A) × (back ≡ m ++ d ∷ b) × (f ≡ front ++ m))

halves : {A : Type 0} (front back f : List A) (d : A) (b : List A) → front ++ back ≡ f ++ d ∷ b → Halves front back f d b
halves {A} [] back f d b e = inr (f, e, refl)
halves {A} (x ∷ front) back [] d b e =
    let head : x ≡ d = cc in
    let tail : front ++ back ≡ b = cc in
    inl (front, ap (λ (y : A). y ∷ front) head, sym tail)
halves {A} (x ∷ front) back (y ∷ f) d b e =
    let head : x ≡ y = cc in
    let tail : front ++ back ≡ f ++ d ∷ b = cc in
    elim (halves front back f d b tail) [
      | inl h ↦ inl (h.0, ap (λ (l : List A). x ∷ l) h.1 ∙ ap (λ (z : A). z ∷ f ++ d ∷ h.0) head, h.2)
      | inr h ↦ inr (h.0, h.1, ap (λ (z : A). z ∷ f) (sym head) ∙ ap (λ (l : List A). x ∷ l) h.2)
    ]

-- an element of the first list goes to its front
pub reordered_front : {A : Type 0} (xs : List A) (d : A) (zs ys : List A) → IsReordered (xs ++ d ∷ zs) ys → IsReordered (d ∷ (xs ++ zs)) ys
reordered_front {A} [] d zs ys r = r
reordered_front {A} (x ∷ xs) d zs ys r =
    let front = r.0 in
    let back = r.1 in
    let s : IsReordered (d ∷ (xs ++ zs)) (front ++ back) = reordered_front xs d zs (front ++ back) r.3 in
    elim (halves front back s.0 d s.1 s.2) [
      | inl h ↦ (
        s.0,
        h.0 ++ x ∷ back,
        r.2 ∙ ap (λ (l : List A). l ++ x ∷ back) h.1 ∙ append_assoc s.0 (d ∷ h.0) (x ∷ back),
        (
          s.0 ++ h.0,
          back,
          sym (append_assoc s.0 h.0 (x ∷ back)),
          subst (λ (l : List A). IsReordered (xs ++ zs) l) (ap (λ (l : List A). s.0 ++ l) h.2 ∙ sym (append_assoc s.0 h.0 back)) s.3,
        ),
      )
      | inr h ↦ (
        front ++ x ∷ h.0,
        s.1,
        r.2 ∙ ap (λ (l : List A). front ++ x ∷ l) h.1 ∙ sym (append_assoc front (x ∷ h.0) (d ∷ s.1)),
        (
          front,
          h.0 ++ s.1,
          append_assoc front (x ∷ h.0) s.1,
          subst (λ (l : List A). IsReordered (xs ++ zs) l) (ap (λ (l : List A). l ++ s.1) h.2 ∙ append_assoc front h.0 s.1) s.3,
        ),
      )
    ]

-- those that pass a test differ in their order alone too
pub reordered_filter : {A : Type 0} (p : A → Bool) (xs ys : List A) → IsReordered xs ys → IsReordered (filter p xs) (filter p ys)
reordered_filter {A} p [] ys r = ap (filter p) r
reordered_filter {A} p (x ∷ xs) ys r =
    let front = r.0 in
    let back = r.1 in
    let rest : IsReordered (filter p xs) (filter p front ++ filter p back) =
    subst (λ (l : List A). IsReordered (filter p xs) l) (filter-append p front back) (reordered_filter p xs (front ++ back) r.3) in
    let all : filter p ys ≡ filter p front ++ filter p (x ∷ back) = ap (filter p) r.2 ∙ filter-append p front (x ∷ back) in
    subst (λ (l : List A). IsReordered (filter p (x ∷ xs)) l) (sym all)
    (elim (p x) as (λ b. IsReordered (cond b (x ∷ filter p xs) (filter p xs)) (filter p front ++ cond b (x ∷ filter p back) (filter p back))) [
      | true ↦ (filter p front, filter p back, refl, rest)
      | false ↦ rest
    ])

-- an element of one is in the other
pub reordered_member : {A : Type 0} (xs ys : List A) (d : A) → IsReordered xs ys → Member d xs → Member d ys
reordered_member {A} [] ys d r m = elim m [ ]
reordered_member {A} (x ∷ xs) ys d r m =
    subst (λ (l : List A). Member d l) (sym r.2)
    (elim m [
      | inl is ↦ member-append_right d r.0 (x ∷ r.1) (inl is)
      | inr k ↦ member_around d x r.0 r.1 (reordered_member xs (r.0 ++ r.1) d r.3 k)
    ])

pub reordered_back : {A : Type 0} (xs ys : List A) (d : A) → IsReordered xs ys → Member d ys → Member d xs
reordered_back {A} [] ys d r m = subst (λ (l : List A). Member d l) r m
reordered_back {A} (x ∷ xs) ys d r m =
    elim (member_without d x r.0 r.1 (subst (λ (l : List A). Member d l) r.2 m)) [
      | inl is ↦ inl is
      | inr k ↦ inr (reordered_back xs (r.0 ++ r.1) d r.3 k)
    ]

-- where no two of one have the same source and number, no two of the other do
pub reordered_apart : (xs ys : List Datagram) → IsReordered xs ys → AreApart ys → AreApart xs
reordered_apart [] ys r a = tt
reordered_apart (x ∷ xs) ys r a =
    let b = apart_without r.0 x r.1 (subst AreApart r.2 a) in
    ((λ q m. b.1 q (reordered_member xs (r.0 ++ r.1) q r.3 m)), reordered_apart xs (r.0 ++ r.1) r.3 b.0)

-- no two of the first of two lists in a row do
pub apart_first : (xs ys : List Datagram) → AreApart (xs ++ ys) → AreApart xs
apart_first [] ys a = tt
apart_first (x ∷ xs) ys a = ((λ q m. a.0 q (member-append_left q xs ys m)), apart_first xs ys a.1)
