-- Lists of datagrams of which no two have the same source and number.
use Rattle.std.proofs.Common.{◌≡◌, ℕ, zero, suc, true, false, cond, eqb-true, List, [], ◌∷◌, ◌++◌, remove, slice_get, Some, refl, ◌⊎◌, inl, inr, sym, ap, subst}
use Rattle.std.proofs.lemmas.Bool.{eqb-false}
use Rattle.std.specs.Prelude.{◌==◌}
use Rattle.rdm_lists.specs.Lists.{Member}
use Rattle.rdm_wire.specs.declared.Datagram.{Datagram}
use Rattle.rdm_model.specs.Worlds.{put_at}
use Rattle.rdm_lists.proofs.Members.{member-append_left, member-append_right, member-append_cases}

-- what holds of a changed function at a number: where the number is the changed one, and where it is another
pub put_at_case : {A : Type 0} (P : A → Type 0) (port : ℕ) (x : A) (f : ℕ → A) (p : ℕ) → (p ≡ port → P x) → ((p ≡ port → ⊥) → P (f p)) → P (put_at port x f p)
unfolding put_at
put_at_case {A} P port x f p here there =
    (elim (p == port) as (λ b. (p == port) ≡ b → P (cond b x (f p))) [
      | true ↦ λ is. here (eqb-true p port is)
      | false ↦ λ is. there (eqb-false p port is)
    ]) refl

-- the changed function at the number
pub put_at_here : {A : Type 0} (port : ℕ) (x : A) (f : ℕ → A) → put_at port x f port ≡ x
put_at_here {A} port x f = put_at_case (λ (y : A). y ≡ x) port x f port (λ is. refl) (λ no. absurd (no refl))

-- the changed function at another number
pub put_at_there : {A : Type 0} (port : ℕ) (x : A) (f : ℕ → A) (p : ℕ) → (p ≡ port → ⊥) → put_at port x f p ≡ f p
put_at_there {A} port x f p other = put_at_case (λ (y : A). y ≡ f p) port x f p (λ is. absurd (other is)) (λ no. refl)

-- the datagrams differ in source or number
abbrev pub Differ : Datagram → Datagram → Type 0
Differ d q = q.src ≡ d.src → q.number ≡ d.number → ⊥

-- the datagram differs from each of these
abbrev pub DiffersFrom : Datagram → List Datagram → Type 0
DiffersFrom d ds = (q : Datagram) → Member q ds → Differ d q

-- no two of the datagrams have the same source and number
abbrev pub AreApart : List Datagram → Type 0
AreApart [] = Unit {0}
AreApart (d ∷ ds) = DiffersFrom d ds × AreApart ds

-- they stay apart with one more that differs from each
pub apart_push : (ds : List Datagram) (d : Datagram) → AreApart ds → DiffersFrom d ds → AreApart (ds ++ d ∷ [])
apart_push [] d a o = ((λ q m. elim m [ ]), tt)
apart_push (x ∷ ds) d a o =
    let before : AreApart (ds ++ d ∷ []) = apart_push ds d a.1 (λ q m. o q (inr m)) in
    let first : DiffersFrom x (ds ++ d ∷ []) =
    λ q m s n. elim (member-append_cases q ds (d ∷ []) m) [
      | inl k ↦ a.0 q k s n
      | inr k ↦ elim k [
        | inl is ↦ o x (inl refl) (subst (λ (y : Datagram). x.src ≡ y.src) (sym is) (sym s)) (subst (λ (y : Datagram). x.number ≡ y.number) (sym is) (sym n))
        | inr never ↦ elim never [ ]
      ]
    ] in
    (first, before)

-- an element between two parts of a list is in it
pub member_seam : {A : Type 0} (x : A) (front back : List A) → Member x (front ++ x ∷ back)
member_seam x front back = member-append_right x front (x ∷ back) (inl refl)

-- what is in two parts of a list is in the list
pub member_around : {A : Type 0} (x y : A) (front back : List A) → Member x (front ++ back) → Member x (front ++ y ∷ back)
member_around x y front back m =
    elim (member-append_cases x front back m) [
      | inl k ↦ member-append_left x front (y ∷ back) k
      | inr k ↦ member-append_right x front (y ∷ back) (inr k)
    ]

-- what is in the list is the element or in the two parts
pub member_without : {A : Type 0} (x y : A) (front back : List A) → Member x (front ++ y ∷ back) → (y ≡ x) ⊎ Member x (front ++ back)
member_without x y front back m =
    elim (member-append_cases x front (y ∷ back) m) [
      | inl k ↦ inr (member-append_left x front back k)
      | inr k ↦ elim k [ inl is ↦ inl is | inr l ↦ inr (member-append_right x front back l) ]
    ]

-- without one of them they are apart, and differ from it
pub apart_without : (front : List Datagram) (d : Datagram) (back : List Datagram) → AreApart (front ++ d ∷ back) → AreApart (front ++ back) × DiffersFrom d (front ++ back)
apart_without [] d back a = (a.1, a.0)
apart_without (x ∷ front) d back a =
    let r = apart_without front d back a.1 in
    let first : DiffersFrom x (front ++ back) = λ q m. a.0 q (member_around q d front back m) in
    let others : DiffersFrom d (x ∷ front ++ back) =
    λ q m s n. elim m [
      | inl is ↦ a.0 d (member_seam d front back) (subst (λ (y : Datagram). d.src ≡ y.src) (sym is) (sym s)) (subst (λ (y : Datagram). d.number ≡ y.number) (sym is) (sym n))
      | inr k ↦ r.1 q k s n
    ] in
    ((first, r.0), others)

-- an element of a list stands between two parts, and they are the list without it
pub record Removed {A : Type 0} (xs : List A) (n : ℕ) (x : A) : Type 0 where
  pub front : List A
  pub back : List A
  pub was : xs ≡ front ++ x ∷ back
  pub is : remove xs n ≡ front ++ back

-- an element at a place stands between two parts
pub removed : {A : Type 0} (xs : List A) (n : ℕ) (x : A) → slice_get xs n ≡ Some x → Removed xs n x
removed [] n x h = cc
removed (y ∷ xs) zero x h = let e : y ≡ x = cc in record { front = []; back = xs; was = ap (λ z. z ∷ xs) e; is = refl }
removed {A} (y ∷ xs) (suc n) x h =
    let r = removed xs n x h in
    record { front = y ∷ r.front; back = r.back; was = ap (λ (l : List A). y ∷ l) r.was; is = ap (λ (l : List A). y ∷ l) r.is }
