-- Parts of which two that touch are made one.
use Rattle.std.proofs.Common.{◌≡◌, ℕ, zero, suc, ◌+◌, ◌-◌, ◌<◌, ◌≤◌, ◌≢◌, true, false, cond, eqb, List, [], ◌∷◌, ◌++◌, length, get_or, take, drop, map, replicate, Some, None, refl, sym, ap, subst, ◌∙◌, arith, append_assoc, length-append, eq-eqb, length-take-le}
use Rattle.std.proofs.lemmas.Bool.{eqb-true}
use borrow.Author.Tests.{eqb-false}
use Rattle.std.proofs.lemmas.List.{get_or-take, map-append, get_or_default, get_or_append_left}
use Rattle.std.specs.List.{remove, insert}
use denote.RawPtr.{Ptr}
use Rattle.rdm_mr.specs.Part.{Piece, Meets, end_of, joined}
use Rattle.rdm_mr.specs.Ordered.{cells_of, AreApart, AreOf, AreOfOne, fused, fused_before}

pub fused_touch : (i : ℕ) (parts : List Piece) (d e : Piece) → suc i < length parts → end_of (get_or parts i d) ≡ (get_or parts (suc i) e).start
    → insert (remove (remove parts (suc i)) i) i (joined (get_or parts i d) (get_or parts (suc i) e)) ≡ fused i parts
fused_touch zero [] d e lt t = absurd (omega arith)
fused_touch zero (p ∷ []) d e lt t = absurd (omega arith)
fused_touch zero (p ∷ q ∷ parts) d e lt t = ap (λ v. cond v (joined p q ∷ parts) (p ∷ q ∷ parts)) (sym (eq-eqb (end_of p) q.start t))
fused_touch (suc i) [] d e lt t = absurd (omega arith)
fused_touch (suc i) (p ∷ parts) d e lt t = ap (λ l. p ∷ l) (fused_touch i parts d e (omega arith) t)

pub fused_last : (i : ℕ) (parts : List Piece) → length parts ≤ suc i → parts ≡ fused i parts
fused_last zero [] le = refl
fused_last zero (p ∷ []) le = refl
fused_last zero (p ∷ q ∷ parts) le = absurd (omega arith)
fused_last (suc i) [] le = refl
fused_last (suc i) (p ∷ parts) le = ap (λ l. p ∷ l) (fused_last i parts (omega arith))

pub fused_apart : (i : ℕ) (parts : List Piece) (d e : Piece) → suc i < length parts → (end_of (get_or parts i d) ≡ (get_or parts (suc i) e).start → ⊥) → parts ≡ fused i parts
fused_apart zero [] d e lt t = absurd (omega arith)
fused_apart zero (p ∷ []) d e lt t = absurd (omega arith)
fused_apart zero (p ∷ q ∷ parts) d e lt t =
    elim (eqb (end_of p) q.start) as (λ v. eqb (end_of p) q.start ≡ v → p ∷ q ∷ parts ≡ cond v (joined p q ∷ parts) (p ∷ q ∷ parts)) [ true ↦ λ f. absurd (t (eqb-true (end_of p) q.start f)) | false ↦ λ f. refl ] refl
fused_apart (suc i) [] d e lt t = absurd (omega arith)
fused_apart (suc i) (p ∷ parts) d e lt t = ap (λ l. p ∷ l) (fused_apart i parts d e (omega arith) t)

-- what lies before stays
pub fused_past : (xs ys : List Piece) → fused (length xs) (xs ++ ys) ≡ xs ++ fused 0 ys
fused_past [] ys = refl
fused_past (x ∷ xs) ys = ap (λ l. x ∷ l) (fused_past xs ys)

pub AreOf_fused : (b : Ptr) (w i : ℕ) (parts : List Piece) → AreOf b w parts → AreOf b w (fused i parts)
AreOf_fused b w zero [] o = tt
AreOf_fused b w zero (p ∷ []) o = o
AreOf_fused b w zero (p ∷ q ∷ parts) o =
    elim (eqb (end_of p) q.start) as (λ v. AreOf b w (cond v (joined p q ∷ parts) (p ∷ q ∷ parts))) [ true ↦ (o.0, o.1, o.2.2) | false ↦ o ]
AreOf_fused b w (suc i) [] o = tt
AreOf_fused b w (suc i) (p ∷ parts) o = (o.0, o.1, AreOf_fused b w i parts o.2)

pub AreOf_fused_before : (b : Ptr) (w i : ℕ) (parts : List Piece) → AreOf b w parts → AreOf b w (fused_before i parts)
AreOf_fused_before b w zero parts o = o
AreOf_fused_before b w (suc i) parts o = AreOf_fused b w i parts o

pub AreOf_insert : (b : Ptr) (w i : ℕ) (p : Piece) (parts : List Piece) → p.block ≡ b → p.whole ≡ w → AreOf b w parts → AreOf b w (insert parts i p)
AreOf_insert b w zero p parts e f o = (e, f, o)
AreOf_insert b w (suc i) p [] e f o = (e, f, o)
AreOf_insert b w (suc i) p (q ∷ parts) e f o = (o.0, o.1, AreOf_insert b w i p parts e f o.2)

pub same_fused : (i : ℕ) (parts : List Piece) → AreOfOne parts → AreOfOne (fused i parts)
same_fused i parts s = (s.0, s.1, AreOf_fused s.0 s.1 i parts s.2)

pub same_insert : (i : ℕ) (p : Piece) (parts : List Piece) → AreOfOne (p ∷ parts) → AreOfOne (insert parts i p)
same_insert i p parts s = (s.0, s.1, AreOf_insert s.0 s.1 i p parts s.2.0 s.2.1 s.2.2)

one_at : (b : Ptr) (w : ℕ) (parts : List Piece) (i : ℕ) (d : Piece) → AreOf b w parts → i < length parts → ((get_or parts i d).block ≡ b) × ((get_or parts i d).whole ≡ w)
one_at b w [] i d o lt = absurd (omega arith)
one_at b w (p ∷ parts) zero d o lt = (o.0, o.1)
one_at b w (p ∷ parts) (suc i) d o lt = one_at b w parts i d o.2 (omega arith)

pub same_two : (parts : List Piece) (i j : ℕ) (d e : Piece) → AreOfOne parts → i < length parts → j < length parts → ((get_or parts i d).block ≡ (get_or parts j e).block) × ((get_or parts i d).whole ≡ (get_or parts j e).whole)
same_two parts i j d e s lt lt' =
    let a = one_at s.0 s.1 parts i d s.2 lt in
    let b = one_at s.0 s.1 parts j e s.2 lt' in
    (a.0 ∙ sym b.0, a.1 ∙ sym b.1)

module _ (i : ℕ) (parts : List Piece) (lt : i + 1 < length parts) where
  next : i + 1 ≡ suc i
  next = omega arith

  pub touch : (r s d e : Piece) → r ≡ get_or parts i r → s ≡ get_or parts (i + 1) s → end_of r ≡ s.start → end_of (get_or parts i d) ≡ (get_or parts (i + 1) e).start
  touch r s d e is is' t =
      let a : get_or parts i d ≡ r = get_or_default parts i d r (omega arith) ∙ sym is in
      let b : get_or parts (i + 1) e ≡ s = get_or_default parts (i + 1) e s lt ∙ sym is' in
      ap end_of a ∙ t ∙ sym (ap (λ (x : Piece). x.start) b)

  low_stays : (d : Piece) → get_or (remove parts (i + 1)) i d ≡ get_or parts i d
  low_stays d =
      let size = length-take-le (i + 1) parts (omega arith) in
      get_or_append_left (take (i + 1) parts) (drop (suc (i + 1)) parts) d i (omega arith) ∙ get_or-take (i + 1) parts i d (omega arith)

  pub meets : (h l r s : Piece) → AreOfOne parts → h ≡ get_or parts (i + 1) h → l ≡ get_or (remove parts (i + 1)) i l → r ≡ get_or parts i r → s ≡ get_or parts (i + 1) s → end_of r ≡ s.start → Meets l h
  meets h l r s same ish isl is is' t =
      let low = isl ∙ low_stays l in
      let two = same_two parts i (i + 1) l h same (omega arith) lt in
      let at = touch r s l h is is' t in (
        ap (λ (x : Piece). x.block) low ∙ two.0 ∙ sym (ap (λ (x : Piece). x.block) ish),
        ap (λ (x : Piece). x.whole) low ∙ two.1 ∙ sym (ap (λ (x : Piece). x.whole) ish),
        ap (λ (x : Piece). x.start) ish ∙ sym at ∙ sym (ap end_of low),
      )

  pub joins : (h l j r s : Piece) → h ≡ get_or parts (i + 1) h → l ≡ get_or (remove parts (i + 1)) i l → j ≡ joined l h → r ≡ get_or parts i r → s ≡ get_or parts (i + 1) s → end_of r ≡ s.start
      → insert (remove (remove parts (i + 1)) i) i j ≡ fused i parts
  joins h l j r s ish isl isj is is' t =
      let low = isl ∙ low_stays l in
      let at = touch r s l h is is' t in
      ap (λ x. insert (remove (remove parts (i + 1)) i) i x) (isj ∙ ap (λ (x : Piece). joined x h) low ∙ ap (λ (x : Piece). joined (get_or parts i l) x) ish)
      ∙ ap (λ k. insert (remove (remove parts k) i) i (joined (get_or parts i l) (get_or parts k h))) next
      ∙ fused_touch i parts l h (omega arith) (at ∙ ap (λ k. (get_or parts k h).start) next)

  pub stays : (r s : Piece) → r ≡ get_or parts i r → s ≡ get_or parts (i + 1) s → (end_of r ≡ s.start → ⊥) → parts ≡ fused i parts
  stays r s is is' t =
      fused_apart i parts r s (omega arith) (λ e. t (ap end_of is ∙ e ∙ ap (λ k. (get_or parts k s).start) (sym next) ∙ sym (ap (λ (x : Piece). x.start) is')))

-- a part that may touch the next
module _ (n : ℕ) (p : Piece) (some : 0 < length p.bytes) where
  pub fused_spaced : (zs : List Piece) → end_of p ≤ n → AreApart (end_of p) n zs → AreApart p.start n (fused 0 (p ∷ zs))
  fused_spaced [] le t = (omega arith, some, omega arith)
  fused_spaced (k ∷ ks) le t =
      let l = length-append p.bytes k.bytes in
      elim (eqb (end_of p) k.start) as (λ v. eqb (end_of p) k.start ≡ v → AreApart p.start n (cond v (joined p k ∷ ks) (p ∷ k ∷ ks))) [
        | true ↦ λ e.
            let same : end_of p ≡ k.start = eqb-true (end_of p) k.start e in
            let is : end_of (joined p k) + 1 ≡ end_of k + 1 = omega arith in
            (omega arith, omega arith, subst (λ m. AreApart m n ks) (sym is) t.2)
        | false ↦ λ e. let ne : end_of p ≢ k.start = eqb-false (end_of p) k.start e in (omega arith, some, (omega (arith, t.0), t.1, t.2))
      ] refl

  pub fused_cells : (lo : ℕ) (zs : List Piece) → AreApart (end_of p) n zs → cells_of lo n (fused 0 (p ∷ zs)) ≡ cells_of lo n (p ∷ zs)
  fused_cells lo [] t = refl
  fused_cells lo (k ∷ ks) t =
      let rest = cells_of (end_of k) n ks in
      let l = length-append p.bytes k.bytes in
      elim (eqb (end_of p) k.start) as (λ v. eqb (end_of p) k.start ≡ v → cells_of lo n (cond v (joined p k ∷ ks) (p ∷ k ∷ ks)) ≡ cells_of lo n (p ∷ k ∷ ks)) [
        | true ↦ λ e.
            let same : end_of p ≡ k.start = eqb-true (end_of p) k.start e in
            let none : 0 ≡ k.start - end_of p = omega arith in
            let is : end_of (joined p k) ≡ end_of k = omega arith in
            ap (λ x. replicate (p.start - lo) None ++ x)
            (ap (λ m. map Some (p.bytes ++ k.bytes) ++ cells_of m n ks) is ∙ ap (λ x. x ++ rest) (map-append Some p.bytes k.bytes)
            ∙ append_assoc (map Some p.bytes) (map Some k.bytes) rest
            ∙ ap (λ m. map Some p.bytes ++ (replicate m None ++ (map Some k.bytes ++ rest))) none)
        | false ↦ λ e. refl
      ] refl
