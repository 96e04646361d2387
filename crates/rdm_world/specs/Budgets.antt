-- How much the instructions of a fair rank come to at most.
use Rattle.std.specs.Prelude.{◌≤◌, length, sum_by}
use Rattle.rdm_model.specs.declared.job.Rank.{Rank}
use Rattle.rdm_model.specs.Jobs.{sent_length, open_count}

-- at most 30,000 instructions, each of which sends no more than 2^24 bytes
pub record IsSmall (r : Rank) : Type 0 where
  pub ops : length r.ops ≤ 30000
  pub bytes : sum_by sent_length r.ops ≤ 503316480000
  pub opens : sum_by open_count r.ops ≤ 30000
