-- Sums, squares and a fair job's ranks, for the bound of a history.
use Rattle.std.proofs.Common.{◌≡◌, ℕ, ◌*◌, ◌≤◌, leb-true, List, [], ◌∷◌, length, IsTrue, arith, sym, ◌∙◌, mul-le-mul}
use Rattle.std.specs.Prelude.{sum_by}
use Rattle.std.proofs.lemmas.Bool.{and_parts}
use Rattle.rdm_model.specs.declared.job.Job.{Job}
use Rattle.rdm_model.specs.declared.job.Rank.{Rank}
use Rattle.rdm_model.specs.Beginnings.{port_count}
use Rattle.rdm_model.specs.Jobs.{is_fair, law_ops, is_within, sum_of_ops}
use Rattle.rdm_law.proofs.Bound.NoteCounts.{one}
use Rattle.rdm_lists.proofs.Sums.{total, total_same, total_ones, sum_total}

-- the same for each element
pub total_each : {A : Type 0} (n : ℕ) (xs : List A) → total (λ x. n) xs ≡ n * length xs
unfolding total
total_each n [] = omega arith
total_each n (x ∷ xs) = let e = total_each n xs in omega arith

-- what is no more has no more in its square
pub square_le : (n x : ℕ) → n ≤ x → 2 * (n * n) ≤ 2 * x * x
square_le n x h = let m = mul-le-mul h h in omega arith

-- a fair job has 16 ranks at most
pub fair_ports : (job : Job) → IsTrue (is_fair law_ops job) → port_count job ≤ 16
unfolding is_fair is_within
fair_ports job h = leb-true (length job.ranks) 16 (and_parts _ _ (and_parts _ _ (and_parts _ _ (and_parts _ _ h).0).0).1).1

-- the instructions of a job, each counted once
pub ones_of_ops : (job : Job) → sum_of_ops one job ≡ sum_by (λ (r : Rank). length r.ops) job.ranks
unfolding sum_of_ops
ones_of_ops job =
    sum_total (λ (r : Rank). sum_by one r.ops) job.ranks
    ∙ total_same (λ (r : Rank). sum_by one r.ops) (λ (r : Rank). length r.ops) job.ranks (λ r m. sum_total one r.ops ∙ total_ones r.ops)
    ∙ sym (sum_total (λ (r : Rank). length r.ops) job.ranks)
