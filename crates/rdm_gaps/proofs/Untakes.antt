-- What an `untake` leaves.
use Rattle.std.proofs.Common.{◌≡◌, ℕ, zero, suc, ◌+◌, ◌-◌, ◌<◌, ◌≤◌, true, false, List, [], ◌∷◌, ◌++◌, length, get_or, take, drop, replicate, refl, sym, ap, subst, ◌∙◌, arith, append_assoc, ltb, ltb-true, ltb-false, drop-cons, take-suc, length-take-le}
use Rattle.std.proofs.lemmas.Bool.{true≢false}
use Rattle.std.proofs.lemmas.List.{length-replicate, take-append-drop, get_or-take}
use Rattle.std.proofs.Math.ListN.{drop_of_length-le}
use Rattle.std.specs.List.{All, AllWithin, insert}
use Rattle.rdm_gaps.specs.declared.ranges.Gap.{Gap}
use Rattle.rdm_gaps.specs.Ranges.{gap, places_of, AreApart, total, fused, fused_before, put_at}
use Rattle.rdm_gaps.specs.Places.{Missing, with_range, AreAll, AreTaken}
use Rattle.rdm_gaps.proofs.Covered.{places_of-append, places_cut, places_seam, parted, AreApart_ends, AreApart_le, AreApart_lower, AreApart_at, length-places_of, set_between, all_at}
use Rattle.rdm_gaps.proofs.Order.{within_front}
use Rattle.rdm_gaps.proofs.Takes.{all_missing, total-append, AreApart_join}
use Rattle.rdm_gaps.proofs.Fused.{fused_past, fused_spaced, fused_total, fused_places}

places_same : (lo n : ℕ) (xs ys zs : List Gap) → ((k : ℕ) → places_of k n ys ≡ places_of k n zs) → places_of lo n (xs ++ ys) ≡ places_of lo n (xs ++ zs)
places_same lo n [] ys zs e = e lo
places_same lo n (x ∷ xs) ys zs e = ap (λ l. replicate (x.start - lo) false ++ (replicate (x.end - x.start) true ++ l)) (places_same x.end n xs ys zs e)

total_le : (lo n : ℕ) (gaps : List Gap) → lo ≤ n + 1 → AreApart lo n gaps → total gaps + lo ≤ n + 1
total_le lo n [] le s = omega arith
total_le lo n (h ∷ gaps) le s =
    let rest = total_le (h.end + 1) n gaps (AreApart_le (h.end + 1) n gaps s.2) s.2 in
    omega (arith, s.0, s.1, rest)

pub total_fits : (n : ℕ) (gaps : List Gap) → AreApart 0 n gaps → total gaps ≤ n
total_fits n [] s = omega arith
total_fits n (h ∷ gaps) s =
    let rest = total_le (h.end + 1) n gaps (AreApart_le (h.end + 1) n gaps s.2) s.2 in
    omega (arith, s.1, rest)

pub record Put (n off len : ℕ) (gaps new : List Gap) : Type 0 where
  pub apart : AreApart 0 n new
  pub places : places_of 0 n new ≡ with_range true off len (places_of 0 n gaps)
  pub count : total new ≡ total gaps + len

-- i is where the search for off stopped, and no place of the range is missing
module _ (n off len : ℕ) (gaps : List Gap) (s : AreApart 0 n gaps) (some : 0 < len) (a : AreAll false off len (places_of 0 n gaps)) where
  abbrev range : Gap
  range = gap off (off + len)

  inside : off + len ≤ n
  inside = let size = length-places_of 0 n gaps s in omega (arith, a.0)

  -- a place of a gap is not in the range
  clear : (i k : ℕ) → i < length gaps → (get_or gaps i (gap 0 0)).start ≤ k → k < (get_or gaps i (gap 0 0)).end → off ≤ k → k < off + len → ⊥
  clear i k lt p q l r =
      let h = get_or gaps i (gap 0 0) in
      let is = parted gaps i (gap 0 0) lt in
      let s' = subst (AreApart 0 n) is s in
      let one : AreAll true k 1 (places_of 0 n (take i gaps ++ h ∷ drop (i + 1) gaps)) = all_missing n k 1 (take i gaps) h (drop (i + 1) gaps) s' p (omega arith) (omega arith) in
      true≢false (sym (all_at true false k 1 k (places_of 0 n (take i gaps ++ h ∷ drop (i + 1) gaps)) one (omega arith) (omega arith)) ∙ ap (λ l. get_or (places_of 0 n l) k false) (sym is) ∙ all_at false false off len k (places_of 0 n gaps) a l r)

  -- the gaps from i on begin past the range
  later : (i : ℕ) → i ≤ length gaps → (i < length gaps → off < (get_or gaps i (gap 0 0)).end) → AreApart (off + len) n (drop i gaps)
  later i le at = elim (ltb i (length gaps)) as (λ v. ltb i (length gaps) ≡ v → AreApart (off + len) n (drop i gaps)) [
    | true ↦ λ e.
        let lt = ltb-true i (length gaps) e in
        let h = get_or gaps i (gap 0 0) in
        let s' = AreApart_at 0 n (take i gaps) h (drop (i + 1) gaps) (subst (AreApart 0 n) (parted gaps i (gap 0 0) lt) s) in
        let cons : drop i gaps ≡ h ∷ drop (i + 1) gaps = (let next : suc i ≡ i + 1 = omega arith in drop-cons gaps i (gap 0 0) lt ∙ ap (λ k. h ∷ drop k gaps) next) in
        subst (AreApart (off + len) n) (sym cons) (past i lt (at lt), s'.0, s'.1)
    | false ↦ λ e.
        let over = ltb-false i (length gaps) e in
        let none : drop i gaps ≡ [] = drop_of_length-le gaps over in
        let le : off + len ≤ n + 1 = omega (arith, inside) in
        subst (AreApart (off + len) n) (sym none) le
  ] refl
    where
      past : (i : ℕ) → i < length gaps → off < (get_or gaps i (gap 0 0)).end → off + len ≤ (get_or gaps i (gap 0 0)).start
      past i lt at = elim (ltb (get_or gaps i (gap 0 0)).start (off + len)) as (λ v. ltb (get_or gaps i (gap 0 0)).start (off + len) ≡ v → off + len ≤ (get_or gaps i (gap 0 0)).start) [
        | true ↦ λ e.
            let h = get_or gaps i (gap 0 0) in
            let below : h.start < off + len = ltb-true h.start (off + len) e in
            let full : h.start < h.end = (AreApart_at 0 n (take i gaps) h (drop (i + 1) gaps) (subst (AreApart 0 n) (parted gaps i (gap 0 0) lt) s)).0 in
            absurd (elim (ltb off h.start) as (λ v. ltb off h.start ≡ v → ⊥) [
              | true ↦ λ f. let over = ltb-true off h.start f in clear i h.start lt (omega arith) full (omega arith) below
              | false ↦ λ f. clear i off lt (ltb-false off h.start f) at (omega arith) (omega arith)
            ] refl)
        | false ↦ λ e. ltb-false _ _ e
      ] refl

  module _ (i : ℕ) (le : i ≤ length gaps) (ends : All (λ (h : Gap). h.end ≤ off) (take i gaps)) (at : i < length gaps → off < (get_or gaps i (gap 0 0)).end) where
    abbrev xs : List Gap
    xs = take i gaps

    abbrev ys : List Gap
    ys = drop i gaps

    abbrev W : List Gap
    W = fused 0 (range ∷ ys)

    whole : xs ++ ys ≡ gaps
    whole = take-append-drop i gaps

    low : AreApart 0 off xs
    low = AreApart_ends 0 n off xs ys (omega arith) ends (subst (AreApart 0 n) (sym whole) s)

    high : AreApart (off + len) n ys
    high = later i le at

    W_spaced : AreApart off n W
    W_spaced = fused_spaced n range (omega arith) ys inside high

    base : places_of 0 n (xs ++ range ∷ ys) ≡ with_range true off len (places_of 0 n gaps)
    base =
        let F = places_of 0 off xs in
        let B = places_of (off + len) n ys in
        let is : (off + len) - off ≡ len = omega arith in
        let size = length-places_of 0 off xs low in
        let long : length F ≡ off = omega (arith, size) in
        let off_ys : AreApart off n ys = AreApart_lower (off + len) off n ys (omega arith) high in
        let cut : places_of 0 n gaps ≡ F ++ (replicate len false ++ B) =
        ap (places_of 0 n) (sym whole) ∙ sym (places_cut 0 off n xs ys (omega arith) (omega (arith, inside)) low off_ys)
        ∙ ap (λ l. F ++ l) (sym (places_seam off (off + len) n ys (omega arith) inside high) ∙ ap (λ k. replicate k false ++ B) is) in
        places_of-append 0 n xs range ys ∙ ap (λ k. F ++ (replicate k true ++ B)) is
        ∙ sym (ap (with_range true off len) cut ∙ set_between true F (replicate len false) B off len long (length-replicate len false))

    W_places : places_of 0 n (xs ++ W) ≡ with_range true off len (places_of 0 n gaps)
    W_places = places_same 0 n xs W (range ∷ ys) (λ k. fused_places n range (omega arith) k ys high) ∙ base

    W_total : total (xs ++ W) ≡ total gaps + len
    W_total =
        let a = total-append xs W in
        let b = fused_total n range (omega arith) ys high in
        let c = total-append xs ys in
        let d = ap total whole in
        omega (arith, a, b, c, d)

    first : fused i (insert gaps i range) ≡ xs ++ W
    first = ap (λ k. fused k (xs ++ range ∷ ys)) (sym (length-take-le i gaps le)) ∙ fused_past xs (range ∷ ys)

  pub put : (i : ℕ) → i ≤ length gaps → All (λ (h : Gap). h.end ≤ off) (take i gaps) → (i < length gaps → off < (get_or gaps i (gap 0 0)).end) → Put n off len gaps (fused_before i (fused i (insert gaps i range)))
  put zero le ends at =
      let is = first zero le ends at in
      record {
        apart = subst (AreApart 0 n) (sym is) (AreApart_lower off 0 n (W zero le ends at) (omega arith) (W_spaced zero le ends at));
        places = ap (places_of 0 n) is ∙ W_places zero le ends at;
        count = ap total is ∙ W_total zero le ends at;
      }
  put (suc j) le ends at =
      let h = get_or gaps j (gap 0 0) in
      let w = W (suc j) le ends at in
      let lt : j < length gaps = omega arith in
      let front : take (suc j) gaps ≡ take j gaps ++ h ∷ [] = take-suc gaps j (gap 0 0) lt in
      let apart : AreApart 0 n (take j gaps ++ h ∷ drop (j + 1) gaps) = subst (AreApart 0 n) (parted gaps j (gap 0 0) lt) s in
      let full : h.start < h.end = (AreApart_at 0 n (take j gaps) h (drop (j + 1) gaps) apart).0 in
      let count : length (take (suc j) gaps) ≡ suc j = length-take-le (suc j) gaps le in
      let end : h.end ≤ off = subst (λ (k : Gap). k.end ≤ off) (get_or-take (suc j) gaps j (gap 0 0) (omega arith)) (ends j (gap 0 0) (omega arith)) in
      let touch : AreApart h.end n w = AreApart_lower off h.end n w end (W_spaced (suc j) le ends at) in
      let fits : h.end ≤ n = omega (arith, inside) in
      let split : take (suc j) gaps ++ w ≡ take j gaps ++ h ∷ w = ap (λ l. l ++ w) front ∙ append_assoc (take j gaps) (h ∷ []) w in
      let is : fused j (fused (suc j) (insert gaps (suc j) range)) ≡ take j gaps ++ fused 0 (h ∷ w) =
      ap (fused j) (first (suc j) le ends at ∙ split) ∙ ap (λ k. fused k (take j gaps ++ h ∷ w)) (sym (length-take-le j gaps (omega arith))) ∙ fused_past (take j gaps) (h ∷ w) in
      let a = total-append (take j gaps) (fused 0 (h ∷ w)) in
      let b = fused_total n h full w touch in
      let c = total-append (take j gaps) (h ∷ w) in
      let d = ap total split in
      let e = ap total is in
      record {
        apart = subst (AreApart 0 n) (sym is) (AreApart_join 0 n (take j gaps) h (drop (j + 1) gaps) (fused 0 (h ∷ w)) apart (fused_spaced n h full w fits touch));
        places = ap (places_of 0 n) is ∙ places_same 0 n (take j gaps) (fused 0 (h ∷ w)) (h ∷ w) (λ k. fused_places n h full k w touch) ∙ ap (places_of 0 n) (sym split) ∙ W_places (suc j) le ends at;
        count = omega (arith, a, b, c, d, e, W_total (suc j) le ends at);
      }

-- the same as `untake` has it
pub put_is : (n off len : ℕ) (gaps : List Gap) (m : Missing) → places_of 0 n gaps ≡ m.places → AreApart 0 n gaps → 0 < len → AreTaken off len m.places → (i : ℕ) (slice : List Gap) → slice ≡ gaps → i ≤ length slice
    → AllWithin (λ (g : Gap). g.end ≤ off) slice 0 i → AllWithin (λ (g : Gap). off < g.end) slice i (length slice) → Put n off len gaps (put_at gaps i (gap off (off + len)))
put_is n off len gaps m places s some taken i slice is le before after =
    let le' : i ≤ length gaps = subst (λ l. i ≤ length l) is le in
    let before' = subst (λ l. AllWithin (λ (g : Gap). g.end ≤ off) l 0 i) is before in
    let after' = subst (λ l. AllWithin (λ (g : Gap). off < g.end) l i (length l)) is after in
    put n off len gaps s some (subst (AreTaken off len) (sym places) taken) i le' (within_front (λ (g : Gap). g.end ≤ off) i gaps le' before') (λ lt. after' i (gap 0 0) (omega arith) lt)
