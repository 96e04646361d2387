-- What `put_back` leaves.
use Rattle.std.proofs.Common.{◌≡◌, ℕ, zero, suc, ◌+◌, ◌-◌, ◌<◌, ◌≤◌, true, false, ltb, List, [], ◌∷◌, ◌++◌, length, get_or, take, drop, map, replicate, Option, Some, None, refl, sym, ap, subst, ◌∙◌, arith, append_assoc, ltb-true, ltb-false, take-suc, length-take-le, drop-cons}
use Rattle.std.proofs.lemmas.List.{length-replicate, length-map, take-append-drop, get_or-take, get_or-drop, get_or-replicate}
use Rattle.std.proofs.Math.ListN.{drop_of_length-le}
use Rattle.std.specs.List.{All, insert}
use Rattle.rdm_mr.specs.Part.{Piece, end_of}
use Rattle.rdm_mr.specs.Ordered.{cells_of, AreApart, fused, fused_before}
use Rattle.rdm_mr.specs.Tiles.{laid, AreOut}
use Rattle.rdm_mr.proofs.Lifts.{hit}
use Rattle.rdm_mr.proofs.Cells.{home_at, cells_of-append, cells_cut, cells_seam, parted, AreApart_lower, AreApart_at, AreApart_ends, AreApart_join, length-cells_of, laid_between}
use Rattle.rdm_mr.proofs.Fused.{fused_past, fused_spaced, fused_cells}

cells_same : (lo n : ℕ) (xs ys zs : List Piece) → ((k : ℕ) → cells_of k n ys ≡ cells_of k n zs) → cells_of lo n (xs ++ ys) ≡ cells_of lo n (xs ++ zs)
cells_same lo n [] ys zs e = e lo
cells_same lo n (x ∷ xs) ys zs e = ap (λ l. replicate (x.start - lo) None ++ (map Some x.bytes ++ l)) (cells_same (end_of x) n xs ys zs e)

pub record Put (lo n : ℕ) (q : Piece) (parts new : List Piece) : Type 0 where
  pub apart : AreApart lo n new
  pub places : cells_of lo n new ≡ laid (q.start - lo) (map Some q.bytes) (cells_of lo n parts)

-- i is where the search for q stopped, and the places of q are out
module _ (lo n : ℕ) (q : Piece) (parts : List Piece) (s : AreApart lo n parts) (some : 0 < length q.bytes) (above : lo ≤ q.start) (fits : end_of q ≤ n) where
  module _ (i : ℕ) (le : i ≤ length parts) (ends : All (λ (p : Piece). end_of p ≤ q.start) (take i parts)) (high : AreApart (end_of q) n (drop i parts)) where
    abbrev xs : List Piece
    xs = take i parts

    abbrev ys : List Piece
    ys = drop i parts

    abbrev W : List Piece
    W = fused 0 (q ∷ ys)

    whole : xs ++ ys ≡ parts
    whole = take-append-drop i parts

    low : AreApart lo q.start xs
    low = AreApart_ends lo n q.start xs ys (omega arith) ends (subst (AreApart lo n) (sym whole) s)

    W_spaced : AreApart q.start n W
    W_spaced = fused_spaced n q some ys fits high

    base : cells_of lo n (xs ++ q ∷ ys) ≡ laid (q.start - lo) (map Some q.bytes) (cells_of lo n parts)
    base =
        let F = cells_of lo q.start xs in
        let B = cells_of (end_of q) n ys in
        let gap : end_of q - q.start ≡ length q.bytes = omega arith in
        let N : List (Option ℕ) = replicate (length q.bytes) None in
        let long : length F ≡ q.start - lo = length-cells_of lo q.start xs low in
        let size : length N ≡ length (map Some q.bytes) = length-replicate (length q.bytes) None ∙ sym (length-map q.bytes Some) in
        let low_ys : AreApart q.start n ys = AreApart_lower (end_of q) q.start n ys (omega arith) high in
        let cut : cells_of lo n parts ≡ F ++ (N ++ B) =
        ap (cells_of lo n) (sym whole) ∙ sym (cells_cut lo q.start n xs ys above (omega arith) low low_ys)
        ∙ ap (λ l. F ++ l) (sym (cells_seam q.start (end_of q) n ys (omega arith) fits high) ∙ ap (λ k. replicate k None ++ B) gap) in
        cells_of-append lo n xs q ys ∙ sym (ap (laid (q.start - lo) (map Some q.bytes)) cut ∙ laid_between (map Some q.bytes) F N B (q.start - lo) long size)

    W_cells : cells_of lo n (xs ++ W) ≡ laid (q.start - lo) (map Some q.bytes) (cells_of lo n parts)
    W_cells = cells_same lo n xs W (q ∷ ys) (λ k. fused_cells n q some k ys high) ∙ base

    first : fused i (insert parts i q) ≡ xs ++ W
    first = ap (λ k. fused k (xs ++ q ∷ ys)) (sym (length-take-le i parts le)) ∙ fused_past xs (q ∷ ys)

  pub put : (i : ℕ) → i ≤ length parts → All (λ (p : Piece). end_of p ≤ q.start) (take i parts) → AreApart (end_of q) n (drop i parts) → Put lo n q parts (fused_before i (fused i (insert parts i q)))
  put zero le ends high =
      let is = first zero le ends high in
      record {
        apart = subst (AreApart lo n) (sym is) (AreApart_lower q.start lo n (W zero le ends high) above (W_spaced zero le ends high));
        places = ap (cells_of lo n) is ∙ W_cells zero le ends high;
      }
  put (suc j) le ends high =
      let h = get_or parts j q in
      let w = W (suc j) le ends high in
      let lt : j < length parts = omega arith in
      let front : take (suc j) parts ≡ take j parts ++ h ∷ [] = take-suc parts j q lt in
      let apart : AreApart lo n (take j parts ++ h ∷ drop (j + 1) parts) = subst (AreApart lo n) (parted parts j q lt) s in
      let full : 0 < length h.bytes = (AreApart_at lo n (take j parts) h (drop (j + 1) parts) apart).0 in
      let count : length (take (suc j) parts) ≡ suc j = length-take-le (suc j) parts le in
      let low : end_of h ≤ q.start = subst (λ (p : Piece). end_of p ≤ q.start) (get_or-take (suc j) parts j q (omega arith)) (ends j q (omega arith)) in
      let touch : AreApart (end_of h) n w = AreApart_lower q.start (end_of h) n w low (W_spaced (suc j) le ends high) in
      let inside : end_of h ≤ n = omega arith in
      let split : take (suc j) parts ++ w ≡ take j parts ++ h ∷ w = ap (λ l. l ++ w) front ∙ append_assoc (take j parts) (h ∷ []) w in
      let is : fused j (fused (suc j) (insert parts (suc j) q)) ≡ take j parts ++ fused 0 (h ∷ w) =
      ap (fused j) (first (suc j) le ends high ∙ split) ∙ ap (λ k. fused k (take j parts ++ h ∷ w)) (sym (length-take-le j parts (omega arith))) ∙ fused_past (take j parts) (h ∷ w) in
      record {
        apart = subst (AreApart lo n) (sym is) (AreApart_join lo n (take j parts) h (drop (j + 1) parts) (fused 0 (h ∷ w)) apart (fused_spaced n h full w inside touch));
        places = ap (cells_of lo n) is ∙ cells_same lo n (take j parts) (fused 0 (h ∷ w)) (h ∷ w) (λ k. fused_cells n h full k w touch) ∙ ap (cells_of lo n) (sym split) ∙ W_cells (suc j) le ends high;
      }

-- a place that is out has no byte
out_at : (at len k : ℕ) (cs : List (Option ℕ)) → AreOut at len cs → at ≤ k → k < at + len → get_or cs k None ≡ None
out_at at len k cs h p q =
    let N : List (Option ℕ) = replicate len None in
    let size : length N ≡ len = length-replicate len None in
    let i : k - at < len = omega arith in
    let inside : k - at < length N = omega arith in
    let sum : at + (k - at) ≡ k = omega arith in
    sym (ap (λ j. get_or cs j None) sum) ∙ sym (get_or-drop at cs (k - at) None) ∙ sym (get_or-take (length N) (drop at cs) (k - at) None inside)
    ∙ ap (λ l. get_or l (k - at) None) h.1 ∙ get_or-replicate len (k - at) None None i

module _ (lo n : ℕ) (q : Piece) (parts : List Piece) (s : AreApart lo n parts) (some : 0 < length q.bytes) (above : lo ≤ q.start) (out : AreOut (q.start - lo) (length q.bytes) (cells_of lo n parts)) where
  pub inside : lo ≤ n → end_of q ≤ n
  inside le =
      let size = length-cells_of lo n parts s in
      let none : length (replicate {A = Option ℕ} (length q.bytes) None) ≡ length q.bytes = length-replicate (length q.bytes) None in
      omega (arith, out.0)

  clear : (i k : ℕ) → lo ≤ n → i < length parts → (get_or parts i q).start ≤ k → k < end_of (get_or parts i q) → q.start ≤ k → k < end_of q → ⊥
  clear i k le lt a b c d =
      let p = get_or parts i q in
      let fits = inside le in
      let place : lo + (k - lo) ≡ k = omega arith in
      let h = hit lo n (k - lo) 1 i parts s (omega arith) q lt (k - p.start) (omega arith) (omega arith) in
      home_at (k - lo) 1 (k - lo) (cells_of lo n parts) (take 1 (drop (k - p.start) p.bytes), h.long, h.lies) (omega arith) (omega arith) (out_at (q.start - lo) (length q.bytes) (k - lo) (cells_of lo n parts) out (omega arith) (omega arith))

  past : (i : ℕ) → lo ≤ n → i < length parts → q.start < end_of (get_or parts i q) → end_of q ≤ (get_or parts i q).start
  past i le lt at =
      let p = get_or parts i q in
      elim (ltb p.start (end_of q)) as (λ v. ltb p.start (end_of q) ≡ v → end_of q ≤ p.start) [
        | true ↦ λ e.
            let below : p.start < end_of q = ltb-true p.start (end_of q) e in
            let full = (AreApart_at lo n (take i parts) p (drop (i + 1) parts) (subst (AreApart lo n) (parted parts i q lt) s)).0 in
            absurd (elim (ltb q.start p.start) as (λ v. ltb q.start p.start ≡ v → ⊥) [
              | true ↦ λ f. let over = ltb-true q.start p.start f in clear i p.start le lt (omega arith) (omega arith) (omega arith) below
              | false ↦ λ f. clear i q.start le lt (ltb-false q.start p.start f) at (omega arith) (omega arith)
            ] refl)
        | false ↦ λ e. ltb-false p.start (end_of q) e
      ] refl

  pub later : (i : ℕ) → lo ≤ n → i ≤ length parts → (i < length parts → q.start < end_of (get_or parts i q)) → AreApart (end_of q) n (drop i parts)
  later i le over at =
      elim (ltb i (length parts)) as (λ v. ltb i (length parts) ≡ v → AreApart (end_of q) n (drop i parts)) [
        | true ↦ λ e.
            let lt = ltb-true i (length parts) e in
            let p = get_or parts i q in
            let t = AreApart_at lo n (take i parts) p (drop (i + 1) parts) (subst (AreApart lo n) (parted parts i q lt) s) in
            let next : suc i ≡ i + 1 = omega arith in
            let cons : drop i parts ≡ p ∷ drop (i + 1) parts = drop-cons parts i q lt ∙ ap (λ k. p ∷ drop k parts) next in
            subst (AreApart (end_of q) n) (sym cons) (past i le lt (at lt), t.0, t.1)
        | false ↦ λ e.
            let none : drop i parts ≡ [] = drop_of_length-le parts (ltb-false i (length parts) e) in
            let fits = inside le in
            let low : end_of q ≤ n + 1 = omega arith in
            subst (AreApart (end_of q) n) (sym none) low
      ] refl
