-- A range of bytes that is taken out of the part that has it.
use Rattle.std.proofs.Common.{◌≡◌, ℕ, ◌+◌, ◌-◌, ◌<◌, ◌≤◌, true, false, cond, ltb, List, [], ◌∷◌, ◌++◌, length, get_or, take, drop, map, replicate, Option, Some, None, sym, ap, subst, ◌∙◌, arith, append_assoc, length-append, drop-drop}
use Rattle.std.proofs.lemmas.List.{length-replicate, length-map, length-take-le, length-drop, take-append-drop, map-append}
use denote.RawPtr.{Ptr}
use Rattle.rdm_mr.specs.Part.{Piece, end_of, front_of, back_of}
use Rattle.rdm_mr.specs.Ordered.{cells_of, AreApart, AreOf, unless_empty, IsLifted, HasAll}
use Rattle.rdm_mr.specs.Tiles.{laid, Lie}
use Rattle.rdm_mr.proofs.Cells.{cells_of-append, cells_unless_empty, parted, AreApart_le, AreApart_lower, AreApart_front, AreApart_at, AreApart_join, AreApart_unless_empty, length-cells_of, laid_between, lie_between}

AreOf_app : (b : Ptr) (w : ℕ) (xs ys zs : List Piece) → AreOf b w (xs ++ ys) → (AreOf b w ys → AreOf b w zs) → AreOf b w (xs ++ zs)
AreOf_app b w [] ys zs o f = f o
AreOf_app b w (x ∷ xs) ys zs o f = (o.0, o.1, AreOf_app b w xs ys zs o.2 f)

AreOf_unless_empty : (b : Ptr) (w : ℕ) (p : Piece) (ys : List Piece) → p.block ≡ b → p.whole ≡ w → AreOf b w ys → AreOf b w (unless_empty p ++ ys)
AreOf_unless_empty b w p ys e f o = elim (ltb 0 (length p.bytes)) as (λ v. AreOf b w (cond v (p ∷ []) [] ++ ys)) [ true ↦ (e, f, o) | false ↦ o ]

pub AreOf_at : (b : Ptr) (w : ℕ) (xs : List Piece) (p : Piece) (ys : List Piece) → AreOf b w (xs ++ p ∷ ys) → (p.block ≡ b) × (p.whole ≡ w)
AreOf_at b w [] p ys o = (o.0, o.1)
AreOf_at b w (x ∷ xs) p ys o = AreOf_at b w xs p ys o.2

-- the range of len places, a places into the part p
module _ (lo n a len : ℕ) (xs : List Piece) (p : Piece) (ys : List Piece) (s : AreApart lo n (xs ++ p ∷ ys)) (le : lo ≤ p.start) (fits : a + len ≤ length p.bytes) (some : 0 < len) where
  abbrev pub F : List (Option ℕ)
  F = cells_of lo p.start xs ++ map Some (take a p.bytes)

  abbrev pub B : List (Option ℕ)
  B = map Some (drop (a + len) p.bytes) ++ cells_of (end_of p) n ys

  abbrev pub M : List (Option ℕ)
  M = map Some (take len (drop a p.bytes))

  abbrev pub left : List Piece
  left = xs ++ (unless_empty (front_of a p) ++ (unless_empty (back_of (a + len) p) ++ ys))

  three : p.bytes ≡ take a p.bytes ++ (take len (drop a p.bytes) ++ drop (a + len) p.bytes)
  three =
      sym (ap (λ l. take a p.bytes ++ l) (ap (λ l. take len (drop a p.bytes) ++ l) (sym (drop-drop len a p.bytes)) ∙ take-append-drop len (drop a p.bytes)) ∙ take-append-drop a p.bytes)

  pub length-M : length M ≡ len
  length-M =
      let d = length-drop a p.bytes in
      length-map (take len (drop a p.bytes)) Some ∙ length-take-le len (drop a p.bytes) (omega arith)

  length-front : length (take a p.bytes) ≡ a
  length-front = length-take-le a p.bytes (omega arith)

  length-back : length (drop (a + len) p.bytes) ≡ length p.bytes - (a + len)
  length-back = length-drop (a + len) p.bytes

  pub length-F : length F ≡ (p.start - lo) + a
  length-F =
      let e = length-append (cells_of lo p.start xs) (map Some (take a p.bytes)) in
      let f : length (map Some (take a p.bytes)) ≡ a = length-map (take a p.bytes) Some ∙ length-front in
      let g = length-cells_of lo p.start xs (AreApart_front lo n xs p ys s) in
      omega (arith, e, f, g)

  pub split : cells_of lo n (xs ++ p ∷ ys) ≡ F ++ (M ++ B)
  split =
      let u = map Some (take a p.bytes) in
      let v = map Some (drop (a + len) p.bytes) in
      let C = cells_of (end_of p) n ys in
      let parts : map Some p.bytes ≡ u ++ (M ++ v) =
      ap (map Some) three ∙ map-append Some (take a p.bytes) (take len (drop a p.bytes) ++ drop (a + len) p.bytes) ∙ ap (λ l. u ++ l) (map-append Some (take len (drop a p.bytes)) (drop (a + len) p.bytes)) in
      cells_of-append lo n xs p ys ∙ ap (λ l. cells_of lo p.start xs ++ (l ++ C)) parts
      ∙ ap (λ l. cells_of lo p.start xs ++ l) (append_assoc u (M ++ v) C ∙ ap (λ l. u ++ l) (append_assoc M v C))
      ∙ sym (append_assoc (cells_of lo p.start xs) u (M ++ (v ++ C)))

  pub lies : Lie ((p.start - lo) + a) M (cells_of lo n (xs ++ p ∷ ys))
  lies = subst (Lie ((p.start - lo) + a) M) (sym split) (lie_between M F B ((p.start - lo) + a) length-F)

  end_back : end_of (back_of (a + len) p) ≡ end_of p
  end_back = omega (arith, length-back)

  spaced_back : AreApart (p.start + a + 1) n (unless_empty (back_of (a + len) p) ++ ys)
  spaced_back = AreApart_unless_empty (p.start + a + 1) n (back_of (a + len) p) ys (omega arith) (subst (λ k. AreApart (k + 1) n ys) (sym end_back) (AreApart_at lo n xs p ys s).1)

  end_front : end_of (front_of a p) ≡ p.start + a
  end_front = omega (arith, length-front)

  pub spaced_left : AreApart lo n left
  spaced_left =
      AreApart_join lo n xs p ys (unless_empty (front_of a p) ++ (unless_empty (back_of (a + len) p) ++ ys)) s
      (AreApart_unless_empty p.start n (front_of a p) (unless_empty (back_of (a + len) p) ++ ys) (omega arith) (subst (λ k. AreApart (k + 1) n (unless_empty (back_of (a + len) p) ++ ys)) (sym end_front) spaced_back))

  pub cells_left : cells_of lo n left ≡ laid ((p.start - lo) + a) (replicate len None) (cells_of lo n (xs ++ p ∷ ys))
  cells_left =
      let f = front_of a p in
      let b = back_of (a + len) p in
      let rest = unless_empty b ++ ys in
      let le' = AreApart_le (end_of p + 1) n ys (AreApart_at lo n xs p ys s).1 in
      let low : AreApart (end_of f) n rest = AreApart_lower (p.start + a + 1) (end_of f) n rest (omega (arith, end_front)) spaced_back in
      let tail : AreApart (end_of b) n ys = AreApart_lower (end_of p + 1) (end_of b) n ys (omega (arith, end_back)) (AreApart_at lo n xs p ys s).1 in
      let gap : b.start - end_of f ≡ len = omega (arith, end_front) in
      let N : List (Option ℕ) = replicate len None in
      cells_unless_empty lo n f xs rest le (omega (arith, end_front, le')) (AreApart_front lo n xs p ys s) low
      ∙ ap (λ l. cells_of lo p.start xs ++ (map Some (take a p.bytes) ++ l))
      (cells_unless_empty (end_of f) n b [] ys (omega (arith, end_front)) (omega (arith, end_back, le')) (omega (arith, end_front)) tail
      ∙ ap (λ k. replicate k None ++ (map Some b.bytes ++ cells_of (end_of b) n ys)) gap ∙ ap (λ k. N ++ (map Some b.bytes ++ cells_of k n ys)) end_back)
      ∙ sym (append_assoc (cells_of lo p.start xs) (map Some (take a p.bytes)) (N ++ B))
      ∙ sym (ap (laid ((p.start - lo) + a) N) split ∙ laid_between N F M B ((p.start - lo) + a) length-F (length-M ∙ sym (length-replicate len None)))

  pub block_left : (b : Ptr) (w : ℕ) → AreOf b w (xs ++ p ∷ ys) → AreOf b w left
  block_left b w o =
      AreOf_app b w xs (p ∷ ys) (unless_empty (front_of a p) ++ (unless_empty (back_of (a + len) p) ++ ys)) o
      (λ q. AreOf_unless_empty b w (front_of a p) (unless_empty (back_of (a + len) p) ++ ys) q.0 q.1 (AreOf_unless_empty b w (back_of (a + len) p) ys q.0 q.1 q.2))

pub AreApart_above : (lo n : ℕ) (xs : List Piece) (p : Piece) (ys : List Piece) → AreApart lo n (xs ++ p ∷ ys) → lo ≤ p.start
AreApart_above lo n [] p ys s = s.0
AreApart_above lo n (x ∷ xs) p ys s = let rest = AreApart_above (end_of x + 1) n xs p ys s.2 in omega (arith, s.0, rest)

pub record Hit (lo n at len i a : ℕ) (parts : List Piece) (p : Piece) : Type 0 where
  pub apart : AreApart lo n (take i parts ++ (unless_empty (front_of a p) ++ (unless_empty (back_of (a + len) p) ++ drop (i + 1) parts)))
  pub of_block : (b : Ptr) (w : ℕ) → AreOf b w parts → AreOf b w (take i parts ++ (unless_empty (front_of a p) ++ (unless_empty (back_of (a + len) p) ++ drop (i + 1) parts)))
  pub places : cells_of lo n (take i parts ++ (unless_empty (front_of a p) ++ (unless_empty (back_of (a + len) p) ++ drop (i + 1) parts))) ≡ laid at (replicate len None) (cells_of lo n parts)
  pub lies : Lie at (map Some (take len (drop a p.bytes))) (cells_of lo n parts)
  pub of : (b : Ptr) (w : ℕ) → AreOf b w parts → (p.block ≡ b) × (p.whole ≡ w)
  pub long : length (take len (drop a p.bytes)) ≡ len

-- the part at i has the places
module _ (lo n at len i : ℕ) (parts : List Piece) (s : AreApart lo n parts) (some : 0 < len) where
  module _ (d : Piece) (lt : i < length parts) where
    abbrev p : Piece
    p = get_or parts i d

    is : parts ≡ take i parts ++ p ∷ drop (i + 1) parts
    is = parted parts i d lt

    apart : AreApart lo n (take i parts ++ p ∷ drop (i + 1) parts)
    apart = subst (AreApart lo n) is s

    above : lo ≤ p.start
    above = AreApart_above lo n (take i parts) p (drop (i + 1) parts) apart

    pub hit : (a : ℕ) → p.start + a ≡ lo + at → a + len ≤ length p.bytes → Hit lo n at len i a parts p
    hit a e fits =
        let xs = take i parts in
        let ys = drop (i + 1) parts in
        let place : (p.start - lo) + a ≡ at = omega (arith, above) in
        record {
          apart = spaced_left lo n a len xs p ys apart above fits some;
          of_block = λ b w o. block_left lo n a len xs p ys apart above fits some b w (subst (AreOf b w) is o);
          places = cells_left lo n a len xs p ys apart above fits some ∙ ap (λ k. laid k (replicate len None) (cells_of lo n (xs ++ p ∷ ys))) place ∙ ap (λ l. laid at (replicate len None) (cells_of lo n l)) (sym is);
          lies = subst (λ l. Lie at (map Some (take len (drop a p.bytes))) (cells_of lo n l)) (sym is) (subst (λ k. Lie k (map Some (take len (drop a p.bytes))) (cells_of lo n (xs ++ p ∷ ys))) place (lies lo n a len xs p ys apart above fits some));
          of = λ b w o. AreOf_at b w xs p ys (subst (AreOf b w) is o);
          long = length-take-le len (drop a p.bytes) (let l = length-drop a p.bytes in omega arith);
        }

-- r is out, and new is what stays
pub record Gives (lo n at len : ℕ) (parts new : List Piece) (r : Piece) : Type 0 where
  pub apart : AreApart lo n new
  pub of_block : (b : Ptr) (w : ℕ) → AreOf b w parts → AreOf b w new
  pub places : cells_of lo n new ≡ laid at (replicate len None) (cells_of lo n parts)
  pub lies : Lie at (map Some r.bytes) (cells_of lo n parts)
  pub of : (b : Ptr) (w : ℕ) → AreOf b w parts → (r.block ≡ b) × (r.whole ≡ w)
  pub start : r.start ≡ lo + at
  pub long : length r.bytes ≡ len

pub gives : (lo n at len i from : ℕ) (parts new : List Piece) (r : Piece) → AreApart lo n parts → 0 < len → from ≡ lo + at → HasAll from (from + len) parts i → IsLifted i from len r parts new → Gives lo n at len parts new r
gives lo n at len i from parts new r s some e has l =
    let p = get_or parts i r in
    let here = has.1 r in
    let a = from - p.start in
    let h = hit lo n at len i parts s some r has.0 a (omega (arith, here.0)) (omega (arith, here.0, here.1)) in
    let r_is = l.0 in
    let bytes = ap (λ (x : Piece). x.bytes) r_is in
    record {
      apart = subst (AreApart lo n) (sym l.1) h.apart;
      of_block = λ b w o. subst (AreOf b w) (sym l.1) (h.of_block b w o);
      places = ap (cells_of lo n) l.1 ∙ h.places;
      lies = subst (λ (bs : List ℕ). Lie at (map Some bs) (cells_of lo n parts)) (sym bytes) h.lies;
      of = λ b w o. let f = h.of b w o in (ap (λ (x : Piece). x.block) r_is ∙ f.0, ap (λ (x : Piece). x.whole) r_is ∙ f.1);
      start = let g = ap (λ (x : Piece). x.start) r_is in omega (arith, g, here.0);
      long = ap length bytes ∙ h.long;
    }
