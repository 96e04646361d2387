-- How many places from one on have come.
use Rattle.std.proofs.Common.{◌≡◌, ℕ, zero, suc, ◌+◌, ◌-◌, ◌<◌, ◌≤◌, Bool, true, false, List, [], ◌∷◌, ◌++◌, length, get_or, drop, replicate, refl, sym, ap, ◌∙◌, arith, ltb, ltb-true, ltb-false}
use Rattle.std.proofs.lemmas.List.{length-replicate, length-drop, get_or-drop}
use Rattle.std.proofs.lemmas.Bool.{true≢false}
use Rattle.std.specs.List.{AllWithin}
use Rattle.rdm_gaps.specs.declared.ranges.Gap.{Gap}
use Rattle.rdm_gaps.specs.Places.{lull}
use Rattle.rdm_gaps.specs.Ranges.{gap_at, places_of, AreApart}
use Rattle.rdm_gaps.proofs.Covered.{AreApart_lower, drop_past}
use Rattle.rdm_gaps.proofs.Runs.{drop-equal}

-- what came in front counts, and what follows
lull-came : (k : ℕ) (tests : List Bool) → lull (replicate k false ++ tests) ≡ k + lull tests
lull-came zero tests = omega arith
lull-came (suc k) tests = let e = lull-came k tests in omega (arith, e)

lull-all : (j k : ℕ) → lull (drop j (replicate k false)) ≡ k - j
lull-all zero zero = refl
lull-all zero (suc k) = let e = lull-all zero k in omega (arith, e)
lull-all (suc j) zero = omega arith
lull-all (suc j) (suc k) = let e = lull-all j k in omega (arith, e)

lull-missing : (k : ℕ) (tests : List Bool) → 0 < k → lull (replicate k true ++ tests) ≡ 0
lull-missing zero tests lt = absurd (omega arith)
lull-missing (suc k) tests lt = refl

-- the place of such a gap
pub lull_at : (lo n at i : ℕ) (gaps : List Gap) → lo ≤ at → AreApart lo n gaps → i < length gaps
    → AllWithin (λ (g : Gap). g.end ≤ at) gaps 0 i → at < (gap_at gaps i).end
    → lull (drop (at - lo) (places_of lo n gaps)) ≡ (gap_at gaps i).start - at
lull_at lo n at i [] le s lt before after = absurd (omega arith)
lull_at lo n at zero (g ∷ gaps) le s lt before after =
    let A = replicate (g.start - lo) false in
    let B = replicate (g.end - g.start) true in
    let C = places_of g.end n gaps in
    let a : length A ≡ g.start - lo = length-replicate (g.start - lo) false in
    elim (ltb g.start at) as (λ v. ltb g.start at ≡ v → lull (drop (at - lo) (A ++ (B ++ C))) ≡ g.start - at) [
      | true ↦ λ e.
          let lt : g.start < at = ltb-true g.start at e in
          let i : (at - lo) - length A ≡ at - g.start = omega (arith, a, s.0) in
          ap lull (drop_past A (B ++ C) (at - lo) (omega (arith, a)) ∙ ap (λ k. drop k (B ++ C)) i ∙ drop-equal true (at - g.start) (g.end - g.start) C (omega (arith, after)))
          ∙ lull-missing ((g.end - g.start) - (at - g.start)) C (omega (arith, after)) ∙ (omega arith)
      | false ↦ λ e.
          let le' : at ≤ g.start = ltb-false g.start at e in
          let none = lull-missing (g.end - g.start) C (omega (arith, s.1)) in
          ap lull (drop-equal false (at - lo) (g.start - lo) (B ++ C) (omega arith))
          ∙ lull-came ((g.start - lo) - (at - lo)) (B ++ C) ∙ (omega (arith, none))
    ] refl
lull_at lo n at (suc i) (g ∷ gaps) le s lt before after =
    let A = replicate (g.start - lo) false in
    let B = replicate (g.end - g.start) true in
    let C = places_of g.end n gaps in
    let a : length A ≡ g.start - lo = length-replicate (g.start - lo) false in
    let b : length B ≡ g.end - g.start = length-replicate (g.end - g.start) true in
    let first : g.end ≤ at = before 0 g (omega arith) (omega arith) in
    let i' : (at - lo) - length A ≡ at - g.start = omega (arith, a, s.0) in
    let j : (at - g.start) - length B ≡ at - g.end = omega (arith, b, s.1) in
    ap lull (drop_past A (B ++ C) (at - lo) (omega (arith, a, s.0, s.1)) ∙ ap (λ k. drop k (B ++ C)) i' ∙ drop_past B C (at - g.start) (omega (arith, b, s.1)) ∙ ap (λ k. drop k C) j)
    ∙ lull_at g.end n at i gaps first (AreApart_lower (g.end + 1) g.end n gaps (omega arith) s.2) (omega arith) (λ k d low below. before (suc k) d (omega arith) (omega arith)) after

-- no gap ends after the place
pub lull_past : (lo n at : ℕ) (gaps : List Gap) → lo ≤ at → AreApart lo n gaps
    → AllWithin (λ (g : Gap). g.end ≤ at) gaps 0 (length gaps) → lull (drop (at - lo) (places_of lo n gaps)) ≡ n - at
lull_past lo n at [] le s before = lull-all (at - lo) (n - lo) ∙ (omega arith)
lull_past lo n at (g ∷ gaps) le s before =
    let A = replicate (g.start - lo) false in
    let B = replicate (g.end - g.start) true in
    let C = places_of g.end n gaps in
    let a : length A ≡ g.start - lo = length-replicate (g.start - lo) false in
    let b : length B ≡ g.end - g.start = length-replicate (g.end - g.start) true in
    let first : g.end ≤ at = before 0 g (omega arith) (omega arith) in
    let i' : (at - lo) - length A ≡ at - g.start = omega (arith, a, s.0) in
    let j : (at - g.start) - length B ≡ at - g.end = omega (arith, b, s.1) in
    ap lull (drop_past A (B ++ C) (at - lo) (omega (arith, a, s.0, s.1)) ∙ ap (λ k. drop k (B ++ C)) i' ∙ drop_past B C (at - g.start) (omega (arith, b, s.1)) ∙ ap (λ k. drop k C) j)
    ∙ lull_past g.end n at gaps first (AreApart_lower (g.end + 1) g.end n gaps (omega arith) s.2) (λ k d low below. before (suc k) d (omega arith) (omega arith))

-- ---- place by place

-- a lull ends within the tests
pub lull_le : (tests : List Bool) → lull tests ≤ length tests
lull_le [] = omega arith
lull_le (true ∷ tests) = omega arith
lull_le (false ∷ tests) = let le = lull_le tests in omega (arith, le)

lull_before : (k : ℕ) (tests : List Bool) → k < lull tests → get_or tests k false ≡ false
lull_before k [] lt = absurd (omega arith)
lull_before k (true ∷ tests) lt = absurd (omega arith)
lull_before zero (false ∷ tests) lt = refl
lull_before (suc k) (false ∷ tests) lt = lull_before k tests (omega arith)

lull_after : (tests : List Bool) → lull tests < length tests → get_or tests (lull tests) false ≡ true
lull_after [] lt = absurd (omega arith)
lull_after (true ∷ tests) lt = refl
lull_after (false ∷ tests) lt = lull_after tests (omega arith)

-- each place of a lull has come
pub came_each : (at k : ℕ) (places : List Bool) → at ≤ k → k < at + lull (drop at places) → get_or places k false ≡ false
came_each at k places p q =
    let i : at + (k - at) ≡ k = omega arith in
    ap (λ j. get_or places j false) (sym i) ∙ sym (get_or-drop at places (k - at) false) ∙ lull_before (k - at) (drop at places) (omega arith)

-- a lull ends within the places
pub came_le : (at : ℕ) (places : List Bool) → at ≤ length places → at + lull (drop at places) ≤ length places
came_le at places le = let l = lull_le (drop at places) in let d = length-drop at places in omega (arith, l, d)

-- the place after it is missing
pub came_end : (at : ℕ) (places : List Bool) → at + lull (drop at places) < length places → get_or places (at + lull (drop at places)) false ≡ true
came_end at places lt = sym (get_or-drop at places (lull (drop at places)) false) ∙ lull_after (drop at places) (let d = length-drop at places in omega (arith, d))

-- a lull is as long as this, where each place before has come and that one has not
pub lull_is : (n : ℕ) (tests : List Bool) → n ≤ length tests → ((k : ℕ) → k < n → get_or tests k false ≡ false) → (n < length tests → get_or tests n false ≡ true) → lull tests ≡ n
lull_is zero [] le before after = refl
lull_is zero (true ∷ tests) le before after = refl
lull_is zero (false ∷ tests) le before after = absurd (true≢false (sym (after (omega arith))))
lull_is (suc n) [] le before after = absurd (omega arith)
lull_is (suc n) (true ∷ tests) le before after = absurd (true≢false (before 0 (omega arith)))
lull_is (suc n) (false ∷ tests) le before after = ap suc (lull_is n tests (omega arith) (λ k lt. before (suc k) (omega arith)) (λ lt. after (omega arith)))
