use Rattle.std.proofs.Common.{◌≡◌, length, take}
use Rattle.std.specs.Prelude.{sum_by}
use Rattle.rdm_model.specs.declared.job.Rank.{Rank}
use Rattle.rdm_model.specs.Jobs as Jobs
use Rattle.rdm_world.proofs.budget.job_sums.Given as goal

abbrev pub invariant-loop-rank : goal.invariant-loop-rank
invariant-loop-rank l = record {
  ops : l.all.ops ≡ sum_by (λ (r : Rank). length r.ops) (take l.rank-index l.job.ranks);
  bytes : l.all.bytes ≡ sum_by (λ (r : Rank). sum_by Jobs.sent_length r.ops) (take l.rank-index l.job.ranks);
  opens : l.all.opens ≡ sum_by (λ (r : Rank). sum_by Jobs.open_count r.ops) (take l.rank-index l.job.ranks);
}
