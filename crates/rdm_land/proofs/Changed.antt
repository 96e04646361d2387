-- The places that ranges have, after one is put in or taken out.
use Rattle.std.proofs.Common.{◌≡◌, ℕ, zero, suc, ◌<◌, ◌≤◌, ◌⊎◌, Bool, true, false, ◌||◌, cond, leb, List, [], ◌∷◌, refl, sym, ap, subst, ◌∙◌, arith, leb-true, leb-false}
use Rattle.std.proofs.lemmas.Bool.{true≢false}
use Rattle.std.specs.List.{Contains}
use Rattle.rdm_land.specs.declared.spans.Span.{Span}
use Rattle.rdm_land.specs.Spans.{has, have, same, with_span, without_span, AreApart}
use Rattle.rdm_mr.proofs.Overlays.{by_lt}
use Rattle.rdm_land.proofs.Order.{same_is, is_same, has_yes, has_after, has_out, none_before, apart_le, apart_lower}

or_swap : (a b c : Bool) → (a || (b || c)) ≡ (b || (a || c))
or_swap true true c = refl
or_swap true false c = refl
or_swap false b c = refl

or_yes : (a : Bool) → (a || true) ≡ true
or_yes true = refl
or_yes false = refl

-- a range that is put in adds its places
pub have-with_span : (k : ℕ) (s : Span) (spans : List Span) → have k (with_span s spans) ≡ (has k s || have k spans)
have-with_span k s [] = refl
have-with_span k s (t ∷ spans) =
    elim (leb t.end s.start) as (λ v. have k (cond v (t ∷ with_span s spans) (s ∷ t ∷ spans)) ≡ (has k s || (has k t || have k spans))) [
      | true ↦ ap (λ b. has k t || b) (have-with_span k s spans) ∙ or_swap (has k t) (has k s) (have k spans)
      | false ↦ refl
    ]

-- the places of s are nowhere in the ranges
abbrev pub Clear : Span → List Span → Type 0
Clear s spans = (k : ℕ) → s.start ≤ k → k < s.end → have k spans ≡ false

clear_rest : (s t : Span) (spans : List Span) → Clear s (t ∷ spans) → Clear s spans
clear_rest s t spans clear k p q = none (has k t) (have k spans) (clear k p q)
  where
    none : (a b : Bool) → (a || b) ≡ false → b ≡ false
    none true b e = absurd (true≢false e)
    none false b e = e

clear_first : (s t : Span) (spans : List Span) → Clear s (t ∷ spans) → (k : ℕ) → s.start ≤ k → k < s.end → has k t ≡ true → ⊥
clear_first s t spans clear k p q e = true≢false (sym (ap (λ b. b || have k spans) e) ∙ clear k p q)

-- they lie in order with s
pub apart_with : (lo n c : ℕ) (s : Span) (spans : List Span) → AreApart lo n c spans → Clear s spans → lo ≤ s.start → s.start < s.end → s.end ≤ n → s.start < c → AreApart lo n c (with_span s spans)
apart_with lo n c s [] a clear low some fits below = (low, some, below, fits)
apart_with lo n c s (t ∷ spans) a clear low some fits below =
    elim (leb t.end s.start) as (λ v. leb t.end s.start ≡ v → AreApart lo n c (cond v (t ∷ with_span s spans) (s ∷ t ∷ spans))) [
      | true ↦ λ e. (a.0, a.1, a.2, apart_with t.end n c s spans a.3 (clear_rest s t spans clear) (leb-true t.end s.start e) some fits below)
      | false ↦ λ e.
          let over : s.start < t.end = leb-false t.end s.start e in
          let after : s.end ≤ t.start =
          by_lt t.start s.end
          (λ lt. absurd (by_lt s.start t.start (λ p. clear_first s t spans clear t.start (omega arith) lt (has_yes t.start t (omega arith) a.1)) (λ p. clear_first s t spans clear s.start (omega arith) some (has_yes s.start t p over))))
          (λ le. le) in
          (low, some, below, (after, a.1, a.2, a.3))
    ] refl

pub apart_without : (lo n c : ℕ) (s : Span) (spans : List Span) → AreApart lo n c spans → AreApart lo n c (without_span s spans)
apart_without lo n c s [] a = a
apart_without lo n c s (t ∷ spans) a =
    elim (same s t) as (λ v. AreApart lo n c (cond v spans (t ∷ without_span s spans))) [ true ↦ apart_lower t.end lo n c spans (omega (arith, a.0, a.1)) a.3 | false ↦ (a.0, a.1, a.2, apart_without t.end n c s spans a.3) ]

-- its places are places of the ranges
pub have_contained : (s : Span) (spans : List Span) (k : ℕ) → Contains spans s → s.start ≤ k → k < s.end → have k spans ≡ true
have_contained s [] k (i, lt, e) p q = absurd (omega arith)
have_contained s (t ∷ spans) k (zero, lt, e) p q = ap (λ b. b || have k spans) (subst (λ (x : Span). has k x ≡ true) (sym e) (has_yes k s p q))
have_contained s (t ∷ spans) k (suc i, lt, e) p q = ap (λ b. has k t || b) (have_contained s spans k (i, omega arith, e) p q) ∙ or_yes (has k t)

pub contained_bounds : (lo n c : ℕ) (s : Span) (spans : List Span) → AreApart lo n c spans → Contains spans s → (lo ≤ s.start) × (s.start < s.end) × (s.end ≤ n) × (s.start < c)
contained_bounds lo n c s [] a (i, lt, e) = absurd (omega arith)
contained_bounds lo n c s (t ∷ spans) a (zero, lt, e) = let le = apart_le t.end n c spans a.3 in subst (λ (x : Span). (lo ≤ x.start) × (x.start < x.end) × (x.end ≤ n) × (x.start < c)) e (a.0, a.1, le, a.2)
contained_bounds lo n c s (t ∷ spans) a (suc i, lt, e) =
    let b = contained_bounds t.end n c s spans a.3 (i, omega arith, e) in
    (omega (arith, a.0, a.1, b.0), b.1, b.2, b.3)

-- where the first range is another, s is one of the others
others_contain : (s t : Span) (spans : List Span) → same s t ≡ false → Contains (t ∷ spans) s → Contains spans s
others_contain s t spans e (zero, lt, is) = absurd (true≢false (sym (ap (same s) is ∙ is_same s) ∙ e))
others_contain s t spans e (suc k, lt, is) = (k, omega arith, is)

-- without s its places are in none of them, and other places as they were
pub have_removed : (lo n c : ℕ) (s : Span) (spans : List Span) (k : ℕ) → AreApart lo n c spans → Contains spans s → s.start ≤ k → k < s.end → have k (without_span s spans) ≡ false
have_removed lo n c s [] k a (i, lt, e) p q = absurd (omega arith)
have_removed lo n c s (t ∷ spans) k a h p q =
    elim (same s t) as (λ v. same s t ≡ v → have k (cond v spans (t ∷ without_span s spans)) ≡ false) [
      | true ↦ λ e.
          let end = ap (λ (x : Span). x.end) (same_is s t e) in
          none_before t.end n c k spans a.3 (omega (arith, end))
      | false ↦ λ e.
          let rest = others_contain s t spans e h in
          let later = contained_bounds t.end n c s spans a.3 rest in
          ap (λ b. b || have k (without_span s spans)) (has_after k t (omega (arith, later.0))) ∙ have_removed t.end n c s spans k a.3 rest p q
    ] refl

pub have_others : (s : Span) (spans : List Span) (k : ℕ) → Contains spans s → (k < s.start) ⊎ (s.end ≤ k) → have k (without_span s spans) ≡ have k spans
have_others s [] k (i, lt, e) o = absurd (omega arith)
have_others s (t ∷ spans) k h o =
    elim (same s t) as (λ v. same s t ≡ v → have k (cond v spans (t ∷ without_span s spans)) ≡ (has k t || have k spans)) [
      | true ↦ λ e.
          let out = subst (λ (x : Span). (k < x.start) ⊎ (x.end ≤ k)) (sym (same_is s t e)) o in
          ap (λ b. b || have k spans) (sym (has_out k t out))
      | false ↦ λ e. ap (λ b. has k t || b) (have_others s spans k (others_contain s t spans e h) o)
    ] refl
