-- How many places from one on are missing.
use Rattle.std.proofs.Common.{◌≡◌, ℕ, zero, suc, ◌+◌, ◌-◌, ◌<◌, ◌≤◌, inl, inr, Bool, true, false, List, [], ◌∷◌, ◌++◌, length, get_or, take, drop, replicate, refl, sym, ap, subst, ◌∙◌, arith}
use Rattle.std.proofs.lemmas.List.{length-replicate, length-drop}
use Rattle.std.proofs.lemmas.Bool.{true≢false}
use Rattle.std.specs.List.{All}
use Rattle.rdm_gaps.specs.declared.ranges.Gap.{Gap}
use Rattle.rdm_gaps.specs.Places.{AreMissing, run}
use Rattle.rdm_gaps.specs.Ranges.{gap, places_of, AreApart, Has, Misses, gap_at}
use Rattle.rdm_gaps.proofs.Covered.{places_of-append, AreApart_lower, AreApart_front, AreApart_at, length-places_of, drop_past, parted}

-- what is missing in front counts, and what follows
pub run-missing : (k : ℕ) (tests : List Bool) → run (replicate k true ++ tests) ≡ k + run tests
run-missing zero tests = omega arith
run-missing (suc k) tests = let e = run-missing k tests in omega (arith, e)

-- nothing is missing where all is taken
run-taken : (j k : ℕ) → run (drop j (replicate k false)) ≡ 0
run-taken zero zero = refl
run-taken zero (suc k) = refl
run-taken (suc j) zero = refl
run-taken (suc j) (suc k) = run-taken j k

-- a taken place in front
run-front : (k : ℕ) (tests : List Bool) → 0 < k → run (replicate k false ++ tests) ≡ 0
run-front zero tests lt = absurd (omega arith)
run-front (suc k) tests lt = refl

-- some of the equal tests are dropped
pub drop-equal : (b : Bool) (j k : ℕ) (tests : List Bool) → j ≤ k → drop j (replicate k b ++ tests) ≡ replicate (k - j) b ++ tests
drop-equal b zero k tests le = let e : k ≡ k - 0 = omega arith in ap (λ m. replicate m b ++ tests) e
drop-equal b (suc j) zero tests le = absurd (omega arith)
drop-equal b (suc j) (suc k) tests le =
    let e : k - j ≡ suc k - suc j = omega arith in
    drop-equal b j k tests (omega arith) ∙ ap (λ m. replicate m b ++ tests) e

-- no gap has the place
pub run_missed : (lo n place : ℕ) (gaps : List Gap) → lo ≤ place → AreApart lo n gaps → All (Misses place) gaps → run (drop (place - lo) (places_of lo n gaps)) ≡ 0
run_missed lo n place [] le s a = run-taken (place - lo) (n - lo)
run_missed lo n place (g ∷ gaps) le s a =
    elim (a 0 g (omega arith)) [
      | inr before ↦
          let rest = replicate (g.end - g.start) true ++ places_of g.end n gaps in
          ap run (drop-equal false (place - lo) (g.start - lo) rest (omega (arith, before))) ∙ run-front ((g.start - lo) - (place - lo)) rest (omega (arith, before, s.0))
      | inl after ↦
          let A = replicate (g.start - lo) false in
          let B = replicate (g.end - g.start) true in
          let C = places_of g.end n gaps in
          let a' : length A ≡ g.start - lo = length-replicate (g.start - lo) false in
          let b' : length B ≡ g.end - g.start = length-replicate (g.end - g.start) true in
          let i : (place - lo) - length A ≡ place - g.start = omega (arith, a', s.0) in
          let j : (place - g.start) - length B ≡ place - g.end = omega (arith, b', s.1) in
          ap run (drop_past A (B ++ C) (place - lo) (omega (arith, a', s.0, s.1, after)) ∙ ap (λ k. drop k (B ++ C)) i ∙ drop_past B C (place - g.start) (omega (arith, b', s.1, after)) ∙ ap (λ k. drop k C) j)
          ∙ run_missed g.end n place gaps after (AreApart_lower (g.end + 1) g.end n gaps (omega arith) s.2) (λ k d lt. a (suc k) d (omega arith))
    ]

pub run_missed_all : (n place : ℕ) (gaps : List Gap) → AreApart 0 n gaps → All (Misses place) gaps → run (drop place (places_of 0 n gaps)) ≡ 0
run_missed_all n place gaps s a =
    let e : place ≡ place - 0 = omega arith in
    ap (λ k. run (drop k (places_of 0 n gaps))) e ∙ run_missed 0 n place gaps (omega arith) s a

-- the place at the end of a gap is not missing
run_after : (m n : ℕ) (gaps : List Gap) → AreApart (m + 1) n gaps → run (places_of m n gaps) ≡ 0
run_after m n [] s = run-taken 0 (n - m)
run_after m n (g ∷ gaps) s = run-front (g.start - m) (replicate (g.end - g.start) true ++ places_of g.end n gaps) (omega (arith, s.0))

-- the gap that has the place
run_between : (n place : ℕ) (xs : List Gap) (g : Gap) (ys : List Gap) → AreApart 0 n (xs ++ g ∷ ys) → Has place g → run (drop place (places_of 0 n (xs ++ g ∷ ys))) ≡ g.end - place
run_between n place xs g ys s h =
    let A = places_of 0 g.start xs in
    let B = replicate (g.end - g.start) true in
    let C = places_of g.end n ys in
    let a = length-places_of 0 g.start xs (AreApart_front 0 n xs g ys s) in
    let i : place - length A ≡ place - g.start = omega (arith, a) in
    let e : (g.end - g.start) - (place - g.start) ≡ g.end - place = omega (arith, h.0, h.1) in
    let none = run_after g.end n ys (AreApart_at 0 n xs g ys s).1 in
    ap (λ l. run (drop place l)) (places_of-append 0 n xs g ys)
    ∙ ap run (drop_past A (B ++ C) place (omega (arith, a, h.0)) ∙ ap (λ k. drop k (B ++ C)) i ∙ drop-equal true (place - g.start) (g.end - g.start) C (omega (arith, h.1)))
    ∙ run-missing ((g.end - g.start) - (place - g.start)) C
    ∙ (omega (arith, e, none))

pub run_had : (n place i : ℕ) (gaps : List Gap) → AreApart 0 n gaps → i < length gaps → Has place (gap_at gaps i) → run (drop place (places_of 0 n gaps)) ≡ (gap_at gaps i).end - place
run_had n place i gaps s lt h =
    let is = parted gaps i (gap 0 0) lt in
    ap (λ l. run (drop place (places_of 0 n l))) is ∙ run_between n place (take i gaps) (gap_at gaps i) (drop (i + 1) gaps) (subst (AreApart 0 n) is s) h

-- a range is missing where the run is as long
missing_front : (len : ℕ) (tests : List Bool) → len ≤ run tests → take len tests ≡ replicate len true
missing_front zero tests le = refl
missing_front (suc len) [] le = absurd (omega arith)
missing_front (suc len) (true ∷ tests) le = ap (λ l. true ∷ l) (missing_front len tests (omega arith))
missing_front (suc len) (false ∷ tests) le = absurd (omega arith)

run_front : (len : ℕ) (tests : List Bool) → take len tests ≡ replicate len true → len ≤ run tests
run_front zero tests e = omega arith
run_front (suc len) [] e = absurd (let l = ap length e in omega (arith, l))
run_front (suc len) (true ∷ tests) e = let le = run_front len tests (ap (drop 1) e) in omega (arith, le)
run_front (suc len) (false ∷ tests) e = absurd (true≢false (sym (ap (λ l. get_or l 0 true) e)))

pub missing_by_run : (off len : ℕ) (places : List Bool) → off + len ≤ length places → len ≤ run (drop off places) → AreMissing off len places
missing_by_run off len places fits le = (fits, missing_front len (drop off places) le)

pub run_by_missing : (off len : ℕ) (places : List Bool) → AreMissing off len places → len ≤ run (drop off places)
run_by_missing off len places m = run_front len (drop off places) m.1

-- a run is no longer than the tests
pub run_le : (tests : List Bool) → run tests ≤ length tests
run_le [] = omega arith
run_le (true ∷ tests) = let le = run_le tests in omega (arith, le)
run_le (false ∷ tests) = omega arith

-- where there is none, the first test does not hold
pub run_none : (tests : List Bool) → run tests ≡ 0 → get_or tests 0 false ≡ false
run_none [] e = refl
run_none (true ∷ tests) e = absurd (omega (arith, e))
run_none (false ∷ tests) e = refl

-- the places of a run are there and missing
pub run_missing : (at : ℕ) (places : List Bool) → 0 < run (drop at places) → AreMissing at (run (drop at places)) places
run_missing at places some =
    let le = run_le (drop at places) in
    let d = length-drop at places in
    missing_by_run at (run (drop at places)) places (omega (arith, le, d, some)) (omega arith)
