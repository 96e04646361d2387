-- Bytes that are written over those of a part at home.
use Rattle.std.proofs.Common.{◌≡◌, ℕ, ◌+◌, ◌-◌, ◌<◌, ◌≤◌, List, [], ◌∷◌, ◌++◌, length, get_or, take, drop, set, map, Some, refl, sym, ap, subst, ◌∙◌, arith, append_assoc, length-append}
use Rattle.std.proofs.lemmas.List.{length-map, length-take-le, length-drop, map-append, take-set, drop-set, take-append-drop}
use denote.RawPtr.{Ptr}
use Rattle.rdm_mr.specs.Part.{Piece, end_of}
use Rattle.rdm_mr.specs.Ordered.{cells_of, AreApart, AreOf, overwritten_part}
use Rattle.rdm_mr.specs.Tiles.{laid}
use Rattle.rdm_mr.proofs.Cells.{cells_of-append, parted, laid_between}
use Rattle.rdm_mr.proofs.Lifts.{F, B, M, split, length-F, length-M, AreApart_above}

-- a part that begins and ends at the same places takes the place of another
apart_other : (lo n : ℕ) (xs : List Piece) (p q : Piece) (ys : List Piece) → q.start ≡ p.start → length q.bytes ≡ length p.bytes → AreApart lo n (xs ++ p ∷ ys) → AreApart lo n (xs ++ q ∷ ys)
apart_other lo n [] p q ys e l s =
    let ends : end_of p + 1 ≡ end_of q + 1 = omega (arith, e, l) in
    (omega (arith, s.0, e), omega (arith, s.1, l), subst (λ k. AreApart k n ys) ends s.2)
apart_other lo n (x ∷ xs) p q ys e l s = (s.0, s.1, apart_other (end_of x + 1) n xs p q ys e l s.2)

of_other : (block : Ptr) (whole : ℕ) (xs : List Piece) (p q : Piece) (ys : List Piece) → q.block ≡ p.block → q.whole ≡ p.whole → AreOf block whole (xs ++ p ∷ ys) → AreOf block whole (xs ++ q ∷ ys)
of_other block whole [] p q ys e f o = (e ∙ o.0, f ∙ o.1, o.2)
of_other block whole (x ∷ xs) p q ys e f o = (o.0, o.1, of_other block whole xs p q ys e f o.2)

-- bytes that fit are as many as before
pub length-overwritten : (p : Piece) (at : ℕ) (bytes : List ℕ) → at + length bytes ≤ length p.bytes → length ((overwritten_part p at bytes).bytes) ≡ length p.bytes
length-overwritten p at bytes fits =
    let a = length-append (take at p.bytes) (bytes ++ drop (at + length bytes) p.bytes) in
    let b = length-append bytes (drop (at + length bytes) p.bytes) in
    let c = length-take-le at p.bytes (omega arith) in
    let d = length-drop (at + length bytes) p.bytes in
    omega (arith, a, b, c, d)

-- the parts once one of them is overwritten
pub record Written (lo n at : ℕ) (bytes : List ℕ) (parts new : List Piece) : Type 0 where
  pub apart : AreApart lo n new
  pub of_block : (block : Ptr) (whole : ℕ) → AreOf block whole parts → AreOf block whole new
  pub cells : cells_of lo n new ≡ laid at (map Some bytes) (cells_of lo n parts)

module _ (lo n a : ℕ) (xs : List Piece) (p : Piece) (ys : List Piece) (bytes : List ℕ) (s : AreApart lo n (xs ++ p ∷ ys)) (fits : a + length bytes ≤ length p.bytes) (some : 0 < length bytes) where
  abbrev q : Piece
  q = overwritten_part p a bytes

  above : lo ≤ p.start
  above = AreApart_above lo n xs p ys s

  pub cells_over : cells_of lo n (xs ++ q ∷ ys) ≡ laid ((p.start - lo) + a) (map Some bytes) (cells_of lo n (xs ++ p ∷ ys))
  cells_over =
      let u = map Some (take a p.bytes) in
      let v = map Some (drop (a + length bytes) p.bytes) in
      let C = cells_of (end_of p) n ys in
      let ends : end_of q ≡ end_of p = let l = length-overwritten p a bytes fits in omega (arith, l) in
      let parts : map Some q.bytes ≡ u ++ (map Some bytes ++ v) =
      map-append Some (take a p.bytes) (bytes ++ drop (a + length bytes) p.bytes) ∙ ap (λ l. u ++ l) (map-append Some bytes (drop (a + length bytes) p.bytes)) in
      let back = B lo n a (length bytes) xs p ys s above fits some in
      let front = F lo n a (length bytes) xs p ys s above fits some in
      let middle = M lo n a (length bytes) xs p ys s above fits some in
      cells_of-append lo n xs q ys ∙ ap (λ k. cells_of lo p.start xs ++ (map Some q.bytes ++ cells_of k n ys)) ends
      ∙ ap (λ l. cells_of lo p.start xs ++ (l ++ C)) parts
      ∙ ap (λ l. cells_of lo p.start xs ++ l) (append_assoc u (map Some bytes ++ v) C ∙ ap (λ l. u ++ l) (append_assoc (map Some bytes) v C))
      ∙ sym (append_assoc (cells_of lo p.start xs) u (map Some bytes ++ (v ++ C)))
      ∙ sym (ap (laid ((p.start - lo) + a) (map Some bytes)) (split lo n a (length bytes) xs p ys s above fits some)
      ∙ laid_between (map Some bytes) front middle back ((p.start - lo) + a) (length-F lo n a (length bytes) xs p ys s above fits some) (length-M lo n a (length bytes) xs p ys s above fits some ∙ sym (length-map bytes Some)))

-- the part at i has the range
pub written : (lo n at i : ℕ) (bytes : List ℕ) (parts : List Piece) (p : Piece) → AreApart lo n parts → 0 < length bytes → i < length parts → p ≡ get_or parts i p → p.start ≤ lo + at → lo + at + length bytes ≤ end_of p
    → Written lo n at bytes parts (set parts i (overwritten_part p ((lo + at) - p.start) bytes))
written lo n at i bytes parts p s some lt is low high =
    let xs = take i parts in
    let ys = drop (i + 1) parts in
    let a = (lo + at) - p.start in
    let q = overwritten_part p a bytes in
    let cut : parts ≡ xs ++ p ∷ ys = parted parts i p lt ∙ ap (λ (x : Piece). xs ++ x ∷ ys) (sym is) in
    let new : set parts i q ≡ xs ++ q ∷ ys = sym (take-append-drop i (set parts i q)) ∙ ap (λ l. l ++ drop i (set parts i q)) (take-set parts i q) ∙ ap (λ l. xs ++ l) (drop-set parts i q lt) in
    let apart = subst (AreApart lo n) cut s in
    let fits : a + length bytes ≤ length p.bytes = omega arith in
    let long = length-overwritten p a bytes fits in
    let above = AreApart_above lo n xs p ys apart in
    let place : (p.start - lo) + a ≡ at = omega (arith, above) in
    record {
      apart = subst (AreApart lo n) (sym new) (apart_other lo n xs p q ys refl long apart);
      of_block = λ block whole o. subst (AreOf block whole) (sym new) (of_other block whole xs p q ys refl refl (subst (AreOf block whole) cut o));
      cells = ap (cells_of lo n) new ∙ cells_over lo n a xs p ys bytes apart fits some ∙ ap (λ k. laid k (map Some bytes) (cells_of lo n (xs ++ p ∷ ys))) place ∙ ap (λ l. laid at (map Some bytes) (cells_of lo n l)) (sym cut);
    }
