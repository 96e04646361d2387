-- Tests that are set over a range, place by place.
use Rattle.std.proofs.Common.{◌≡◌, ℕ, ◌+◌, ◌-◌, ◌<◌, ◌≤◌, ◌⊎◌, Bool, false, List, ◌++◌, length, get_or, take, drop, replicate, sym, ap, subst, ◌∙◌, arith}
use Rattle.std.proofs.lemmas.List.{length-replicate, get_or-replicate}
use Rattle.rdm_gaps.specs.Places.{AreAll, with_range}
use Rattle.rdm_mr.proofs.Overlays.{length-new, new_in, new_out, from_each}

-- tests that are set
module _ (b : Bool) (off len : ℕ) (places : List Bool) (fits : off + len ≤ length places) where
  long : length (replicate len b) ≡ len
  long = length-replicate len b

  whole : with_range b off len places ≡ take off places ++ (replicate len b ++ drop (off + length (replicate len b)) places)
  whole = ap (λ j. take off places ++ (replicate len b ++ drop (off + j) places)) (sym long)

  within : off + length (replicate len b) ≤ length places
  within = omega (arith, long)

  pub length-set : length (with_range b off len places) ≡ length places
  length-set = ap length whole ∙ length-new off (replicate len b) places false within

  pub set_in : (k : ℕ) → off ≤ k → k < off + len → get_or (with_range b off len places) k false ≡ b
  set_in k p q =
      let i : k < off + length (replicate len b) = omega (arith, long) in
      ap (λ l. get_or l k false) whole ∙ new_in off (replicate len b) places false within k p i ∙ get_or-replicate len (k - off) b false (omega arith)

  pub set_out : (k : ℕ) → (k < off) ⊎ (off + len ≤ k) → get_or (with_range b off len places) k false ≡ get_or places k false
  set_out k o = ap (λ l. get_or l k false) whole ∙ new_out off (replicate len b) places false within k (subst (λ j. (k < off) ⊎ (off + j ≤ k)) (sym long) o)

pub all_from_each : (b : Bool) (off len : ℕ) (places : List Bool) → off + len ≤ length places → ((k : ℕ) → off ≤ k → k < off + len → get_or places k false ≡ b) → AreAll b off len places
all_from_each b off len places le h = (le, from_each b false off len places le h)
