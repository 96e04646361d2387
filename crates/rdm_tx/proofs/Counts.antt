-- How many places were not asked for, once a range of them is asked for.
use Rattle.std.proofs.Common.{◌≡◌, ℕ, ◌+◌, ◌*◌, ◌<◌, ◌≤◌, Bool, true, false, cond, List, ◌++◌, length, take, drop, replicate, length-append, length-drop, ap, arith}
use Rattle.std.proofs.lemmas.List.{length-replicate, length-take, drop-drop}
use Rattle.std.proofs.lemmas.List.Sums.{sum_by-append, sum_by-take-drop}
use Rattle.std.proofs.lemmas.List.Folds.{sum_by-replicate}
use Rattle.std.specs.List.{count_by}
use Rattle.rdm_gaps.specs.Places.{AreMissing, with_range, run}
use Rattle.rdm_gaps.proofs.Runs.{run_le, missing_by_run}

-- how many tests hold
abbrev pub count : List Bool → ℕ
count tests = count_by (λ b. b) tests

-- equal tests
count_equal : (n : ℕ) (b : Bool) → count (replicate n b) ≡ n * cond b 1 0
count_equal n b = sum_by-replicate (λ b. cond b 1 0) n b

-- a range that is missing counts with its whole length, and what lies before and after it
count_missing_range : (off len : ℕ) (places : List Bool) → AreMissing off len places → count places ≡ count (take off places) + (len + count (drop (off + len) places))
count_missing_range off len places m =
    let f : Bool → ℕ = λ b. cond b 1 0 in
    let a = sum_by-take-drop f places off in
    let b = sum_by-take-drop f (drop off places) len in
    let r = count_equal len true in
    let e : count (take len (drop off places)) ≡ count (replicate len true) = ap count m.1 in
    let d : count (drop len (drop off places)) ≡ count (drop (off + len) places) = ap count (drop-drop len off places) in
    omega (arith, a, b, r, e, d)

-- a range that was missing counts no more
count_taken_range : (off len : ℕ) (places : List Bool) → count (with_range false off len places) ≡ count (take off places) + count (drop (off + len) places)
count_taken_range off len places =
    let f : Bool → ℕ = λ b. cond b 1 0 in
    let a = sum_by-append f (take off places) (replicate len false ++ drop (off + len) places) in
    let b = sum_by-append f (replicate len false) (drop (off + len) places) in
    let r = count_equal len false in
    omega (arith, a, b, r)

-- as many places are there as before
length_taken_range : (off len : ℕ) (places : List Bool) → AreMissing off len places → length (with_range false off len places) ≡ length places
length_taken_range off len places m =
    let l = m.0 in
    let a = length-append (take off places) (replicate len false ++ drop (off + len) places) in
    let b = length-append (replicate len false) (drop (off + len) places) in
    let r = length-replicate len false in
    let d = length-drop (off + len) places in
    let t = length-take off places in
    omega (arith, l, a, b, r, d, t)

-- a range that is asked for: there was room for one more answer, and each is still for a place at least
pub record AsksMore (owed off len : ℕ) (places : List Bool) : Type 0 where
  pub room : owed < length places
  pub size : length (with_range false off len places) ≡ length places
  pub counted : owed + 1 + count (with_range false off len places) ≤ length (with_range false off len places)

pub asks_more : (owed off len : ℕ) (places : List Bool) → owed + count places ≤ length places → 0 < len → AreMissing off len places → AsksMore owed off len places
asks_more owed off len places h some m =
    let a = count_missing_range off len places m in
    let b = count_taken_range off len places in
    let l = length_taken_range off len places m in
    record { room = omega (arith, h, a, some); size = l; counted = omega (arith, h, a, b, l, some) }

-- a range is missing where the run from its first place on is as long
pub missing_run : (off len : ℕ) (places : List Bool) → 0 < len → len ≤ run (drop off places) → AreMissing off len places
missing_run off len places some h =
    let r = run_le (drop off places) in
    let d = length-drop off places in
    missing_by_run off len places (omega (arith, some, h, r, d)) h
