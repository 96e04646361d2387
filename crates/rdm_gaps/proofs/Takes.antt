-- What a `take` leaves.
use Rattle.std.proofs.Common.{◌≡◌, ℕ, ◌+◌, ◌-◌, ◌<◌, ◌≤◌, Bool, true, false, cond, ltb, List, [], ◌∷◌, ◌++◌, length, take, drop, replicate, refl, sym, ap, subst, ◌∙◌, arith, append_assoc, length-append, ltb-false, ltb-true}
use Rattle.std.proofs.lemmas.List.{length-replicate}
use Rattle.rdm_gaps.specs.declared.ranges.Gap.{Gap}
use Rattle.rdm_gaps.specs.Ranges.{gap, places_of, AreApart, total, between, gap_at, cut_at}
use Rattle.rdm_gaps.specs.Places.{with_range, AreAll}
use Rattle.rdm_gaps.proofs.Answered.{Found}
use Rattle.rdm_gaps.proofs.Covered.{places_of-append, places_between, parted, AreApart_le, AreApart_lower, AreApart_front, AreApart_at, length-places_of, middle, set_between, all_between}

pub AreApart_between : (lo a b n : ℕ) (ys : List Gap) → lo ≤ a → a ≤ b → AreApart (b + 1) n ys → AreApart lo n (between a b ++ ys)
AreApart_between lo a b n ys la ab s =
    elim (ltb a b) as (λ v. ltb a b ≡ v → AreApart lo n (cond v (gap a b ∷ []) [] ++ ys)) [
      | true ↦ λ e. (la, ltb-true a b e, s)
      | false ↦ λ e. AreApart_lower (b + 1) lo n ys (omega arith) s
    ] refl

pub AreApart_join : (lo n : ℕ) (xs : List Gap) (h : Gap) (ys zs : List Gap) → AreApart lo n (xs ++ h ∷ ys) → AreApart h.start n zs → AreApart lo n (xs ++ zs)
AreApart_join lo n [] h ys zs s t = AreApart_lower h.start lo n zs s.0 t
AreApart_join lo n (x ∷ xs) h ys zs s t = (s.0, s.1, AreApart_join (x.end + 1) n xs h ys zs s.2 t)

pub total-append : (xs ys : List Gap) → total (xs ++ ys) ≡ total xs + total ys
total-append [] ys = omega arith
total-append (x ∷ xs) ys = omega (arith, total-append xs ys)

pub total-between : (a b : ℕ) → total (between a b) ≡ b - a
total-between a b =
    elim (ltb a b) as (λ v. ltb a b ≡ v → total (cond v (gap a b ∷ []) []) ≡ b - a) [
      | true ↦ λ e. omega arith
      | false ↦ λ e. let le : b ≤ a = ltb-false a b e in omega arith
    ] refl

-- the range is in the gap h
module _ (n off len : ℕ) (xs : List Gap) (h : Gap) (ys : List Gap) (s : AreApart 0 n (xs ++ h ∷ ys)) (p : h.start ≤ off) (q : off + len ≤ h.end) (some : 0 < len) where
  abbrev front : List Bool
  front = places_of 0 h.start xs ++ replicate (off - h.start) true

  abbrev back : List Bool
  back = replicate (h.end - (off + len)) true ++ places_of h.end n ys

  abbrev pub left : List Gap
  left = xs ++ (between h.start off ++ (between (off + len) h.end ++ ys))

  length-front : length front ≡ off
  length-front =
      let a = length-append (places_of 0 h.start xs) (replicate (off - h.start) true) in
      let b : length (replicate (off - h.start) true) ≡ off - h.start = length-replicate (off - h.start) true in
      let c = length-places_of 0 h.start xs (AreApart_front 0 n xs h ys s) in
      omega (arith, a, b, c)

  split : places_of 0 n (xs ++ h ∷ ys) ≡ front ++ (replicate len true ++ back)
  split =
      let B = places_of h.end n ys in
      let u = replicate (off - h.start) true in
      let v = replicate len true in
      let w = replicate (h.end - (off + len)) true in
      places_of-append 0 n xs h ys
      ∙ ap (λ l. places_of 0 h.start xs ++ (l ++ B)) (middle [] [] h.start h.end off len p q)
      ∙ ap (λ l. places_of 0 h.start xs ++ l) (append_assoc u (v ++ w) B ∙ ap (λ l. u ++ l) (append_assoc v w B))
      ∙ sym (append_assoc (places_of 0 h.start xs) u (v ++ (w ++ B)))

  pub all_missing : AreAll true off len (places_of 0 n (xs ++ h ∷ ys))
  all_missing = subst (AreAll true off len) (sym split) (all_between true front back off len length-front)

  apart_back : AreApart (off + 1) n (between (off + len) h.end ++ ys)
  apart_back = AreApart_between (off + 1) (off + len) h.end n ys (omega arith) q (AreApart_at 0 n xs h ys s).1

  pub apart_left : AreApart 0 n left
  apart_left = AreApart_join 0 n xs h ys (between h.start off ++ (between (off + len) h.end ++ ys)) s (AreApart_between h.start h.start off n (between (off + len) h.end ++ ys) (omega arith) p apart_back)

  fits : h.end ≤ n
  fits = let le = AreApart_le (h.end + 1) n ys (AreApart_at 0 n xs h ys s).1 in omega arith

  pub places_left : places_of 0 n left ≡ with_range false off len (places_of 0 n (xs ++ h ∷ ys))
  places_left =
      let u = replicate (off - h.start) true in
      let gone : (off + len) - off ≡ len = omega arith in
      let low : AreApart off n (between (off + len) h.end ++ ys) = AreApart_lower (off + 1) off n (between (off + len) h.end ++ ys) (omega arith) apart_back in
      let rest : AreApart h.end n ys = AreApart_lower (h.end + 1) h.end n ys (omega arith) (AreApart_at 0 n xs h ys s).1 in
      places_between 0 h.start off n xs (between (off + len) h.end ++ ys) (omega arith) p (omega (arith, fits)) (AreApart_front 0 n xs h ys s) low
      ∙ ap (λ l. places_of 0 h.start xs ++ (u ++ l)) (places_between off (off + len) h.end n [] ys (omega arith) q fits (omega arith) rest
      ∙ ap (λ k. replicate k false ++ back) gone)
      ∙ sym (append_assoc (places_of 0 h.start xs) u (replicate len false ++ back))
      ∙ sym (ap (with_range false off len) split ∙ set_between false front (replicate len true) back off len length-front (length-replicate len true))

  pub total_left : total left + len ≡ total (xs ++ h ∷ ys)
  total_left =
      let a = total-append xs (between h.start off ++ (between (off + len) h.end ++ ys)) in
      let b = total-append (between h.start off) (between (off + len) h.end ++ ys) in
      let c = total-append (between (off + len) h.end) ys in
      let d = total-append xs (h ∷ ys) in
      let e = total-between h.start off in
      let f = total-between (off + len) h.end in
      omega (arith, a, b, c, d, e, f)

pub record Cut (n off len i : ℕ) (gaps : List Gap) : Type 0 where
  pub apart : AreApart 0 n (cut_at gaps i off (off + len))
  pub places : places_of 0 n (cut_at gaps i off (off + len)) ≡ with_range false off len (places_of 0 n gaps)
  pub count : total (cut_at gaps i off (off + len)) + len ≡ total gaps

-- the gap at i has the range
pub cut_is : (n off len i : ℕ) (gaps : List Gap) → AreApart 0 n gaps → 0 < len → i < length gaps → (gap_at gaps i).start ≤ off → off + len ≤ (gap_at gaps i).end → Cut n off len i gaps
cut_is n off len i gaps s some lt p q =
    let g = gap_at gaps i in
    let xs = take i gaps in
    let ys = drop (i + 1) gaps in
    let is : gaps ≡ xs ++ g ∷ ys = parted gaps i (gap 0 0) lt in
    let apart : AreApart 0 n (xs ++ g ∷ ys) = subst (AreApart 0 n) is s in
    record {
      apart = apart_left n off len xs g ys apart p q some;
      places = places_left n off len xs g ys apart p q some ∙ ap (λ l. with_range false off len (places_of 0 n l)) (sym is);
      count = total_left n off len xs g ys apart p q some ∙ ap total (sym is);
    }

-- the same as `take` has it
pub cut_found : (n off len i : ℕ) (g : Gap) (gaps : List Gap) → AreApart 0 n gaps → (len ≡ 0 → ⊥) → Found off i g gaps → off + len ≤ g.end → Cut n off len i gaps
cut_found n off len i g gaps s some f fits =
    let all = subst (λ (h : Gap). off + len ≤ h.end) (sym f.same) fits in
    cut_is n off len i gaps s (omega (arith, some)) f.below f.has.0 all
