-- Gaps of which two that touch are made one.
use Rattle.std.proofs.Common.{◌≡◌, ℕ, zero, suc, ◌+◌, ◌-◌, ◌<◌, ◌≤◌, true, false, cond, eqb, List, [], ◌∷◌, ◌++◌, length, get_or, set, replicate, refl, sym, ap, ◌∙◌, arith, append_assoc, eq-eqb, ◌≢◌}
use Rattle.std.proofs.lemmas.Bool.{eqb-true}
use borrow.Author.Tests.{eqb-false}
use Rattle.std.proofs.lemmas.List.{replicate-append-replicate}
use Rattle.std.specs.List.{remove}
use Rattle.rdm_gaps.specs.declared.ranges.Gap.{Gap}
use Rattle.rdm_gaps.specs.Ranges.{gap, places_of, AreApart, total, fused}

pub fused_touch : (i : ℕ) (gaps : List Gap) (d e : Gap) → suc i < length gaps → (get_or gaps i d).end ≡ (get_or gaps (suc i) e).start
    → remove (set gaps i (gap (get_or gaps i d).start (get_or gaps (suc i) e).end)) (suc i) ≡ fused i gaps
fused_touch zero [] d e lt t = absurd (omega arith)
fused_touch zero (h ∷ []) d e lt t = absurd (omega arith)
fused_touch zero (h ∷ k ∷ gaps) d e lt t = ap (λ v. cond v (gap h.start k.end ∷ gaps) (h ∷ k ∷ gaps)) (sym (eq-eqb h.end k.start t))
fused_touch (suc i) [] d e lt t = absurd (omega arith)
fused_touch (suc i) (h ∷ gaps) d e lt t = ap (λ l. h ∷ l) (fused_touch i gaps d e (omega arith) t)

pub fused_last : (i : ℕ) (gaps : List Gap) → length gaps ≤ suc i → gaps ≡ fused i gaps
fused_last zero [] le = refl
fused_last zero (h ∷ []) le = refl
fused_last zero (h ∷ k ∷ gaps) le = absurd (omega arith)
fused_last (suc i) [] le = refl
fused_last (suc i) (h ∷ gaps) le = ap (λ l. h ∷ l) (fused_last i gaps (omega arith))

pub fused_apart : (i : ℕ) (gaps : List Gap) (d e : Gap) → suc i < length gaps → ((get_or gaps i d).end ≡ (get_or gaps (suc i) e).start → ⊥) → gaps ≡ fused i gaps
fused_apart zero [] d e lt t = absurd (omega arith)
fused_apart zero (h ∷ []) d e lt t = absurd (omega arith)
fused_apart zero (h ∷ k ∷ gaps) d e lt t =
    elim (eqb h.end k.start) as (λ v. eqb h.end k.start ≡ v → h ∷ k ∷ gaps ≡ cond v (gap h.start k.end ∷ gaps) (h ∷ k ∷ gaps)) [ true ↦ λ f. absurd (t (eqb-true h.end k.start f)) | false ↦ λ f. refl ] refl
fused_apart (suc i) [] d e lt t = absurd (omega arith)
fused_apart (suc i) (h ∷ gaps) d e lt t = ap (λ l. h ∷ l) (fused_apart i gaps d e (omega arith) t)

module _ (i : ℕ) (gaps : List Gap) (r s : Gap) (lt : i + 1 < length gaps) (is : r ≡ get_or gaps i r) (is' : s ≡ get_or gaps (i + 1) s) where
  next : i + 1 ≡ suc i
  next = omega arith

  pub joins : r.end ≡ s.start → remove (set gaps i (gap r.start s.end)) (i + 1) ≡ fused i gaps
  joins t =
      ap (λ k. remove (set gaps i (gap r.start s.end)) k) next
      ∙ ap (λ (x : Gap). remove (set gaps i (gap x.start s.end)) (suc i)) is ∙ ap (λ (x : Gap). remove (set gaps i (gap (get_or gaps i r).start x.end)) (suc i)) (is' ∙ ap (λ k. get_or gaps k s) next)
      ∙ fused_touch i gaps r s (omega arith) (sym (ap (λ (x : Gap). x.end) is) ∙ t ∙ ap (λ (x : Gap). x.start) (is' ∙ ap (λ k. get_or gaps k s) next))

  pub parts : (r.end ≡ s.start → ⊥) → gaps ≡ fused i gaps
  parts t = fused_apart i gaps r s (omega arith) (λ e. t (ap (λ (x : Gap). x.end) is ∙ e ∙ sym (ap (λ (x : Gap). x.start) (is' ∙ ap (λ k. get_or gaps k s) next))))

-- what lies before stays
pub fused_past : (xs ys : List Gap) → fused (length xs) (xs ++ ys) ≡ xs ++ fused 0 ys
fused_past [] ys = refl
fused_past (x ∷ xs) ys = ap (λ l. x ∷ l) (fused_past xs ys)

-- a gap that may touch the next
module _ (n : ℕ) (h : Gap) (some : h.start < h.end) where
  pub fused_spaced : (zs : List Gap) → h.end ≤ n → AreApart h.end n zs → AreApart h.start n (fused 0 (h ∷ zs))
  fused_spaced [] le t = (omega arith, some, omega arith)
  fused_spaced (k ∷ ks) le t =
      elim (eqb h.end k.start) as (λ v. eqb h.end k.start ≡ v → AreApart h.start n (cond v (gap h.start k.end ∷ ks) (h ∷ k ∷ ks))) [
        | true ↦ λ e. (omega arith, omega (arith, t.0, t.1), t.2)
        | false ↦ λ e. let ne : h.end ≢ k.start = eqb-false h.end k.start e in (omega arith, some, (omega (arith, t.0), t.1, t.2))
      ] refl

  pub fused_total : (zs : List Gap) → AreApart h.end n zs → total (fused 0 (h ∷ zs)) ≡ (h.end - h.start) + total zs
  fused_total [] t = refl
  fused_total (k ∷ ks) t =
      elim (eqb h.end k.start) as (λ v. eqb h.end k.start ≡ v → total (cond v (gap h.start k.end ∷ ks) (h ∷ k ∷ ks)) ≡ (h.end - h.start) + ((k.end - k.start) + total ks)) [
        | true ↦ λ e. let same : h.end ≡ k.start = eqb-true h.end k.start e in omega (arith, t.1)
        | false ↦ λ e. refl
      ] refl

  pub fused_places : (lo : ℕ) (zs : List Gap) → AreApart h.end n zs → places_of lo n (fused 0 (h ∷ zs)) ≡ places_of lo n (h ∷ zs)
  fused_places lo [] t = refl
  fused_places lo (k ∷ ks) t =
      let rest = places_of k.end n ks in
      elim (eqb h.end k.start) as (λ v. eqb h.end k.start ≡ v → places_of lo n (cond v (gap h.start k.end ∷ ks) (h ∷ k ∷ ks)) ≡ places_of lo n (h ∷ k ∷ ks)) [
        | true ↦ λ e.
            let same : h.end ≡ k.start = eqb-true h.end k.start e in
            let none : 0 ≡ k.start - h.end = omega arith in
            let sum : k.end - h.start ≡ (h.end - h.start) + (k.end - k.start) = omega (arith, t.1) in
            ap (λ l. replicate (h.start - lo) false ++ l)
            (ap (λ m. replicate m true ++ rest) sum ∙ ap (λ l. l ++ rest) (sym (replicate-append-replicate (h.end - h.start) (k.end - k.start) true))
            ∙ append_assoc (replicate (h.end - h.start) true) (replicate (k.end - k.start) true) rest
            ∙ ap (λ m. replicate (h.end - h.start) true ++ (replicate m false ++ (replicate (k.end - k.start) true ++ rest))) none)
        | false ↦ λ e. refl
      ] refl
