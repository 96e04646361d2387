use Rattle.std.proofs.Common.{◌≡◌, length, map, take}
use Rattle.std.specs.Prelude.{sum_by}
use Rattle.rdm_model.specs.declared.job.Rank.{Rank}
use Rattle.rdm_model.specs.Jobs.{sent_length}
use Rattle.rdm_script.specs.Programs.{made_length}
use Rattle.rdm_script.specs.Drafts.{made_rank, capped}
use Rattle.rdm_script.proofs.totals.is_too_big.Given as goal

abbrev pub invariant-loop-rank : goal.invariant-loop-rank
invariant-loop-rank l =
    (l.ops ≡ capped (sum_by (λ (r : Rank). length r.ops) (map made_rank (take l.rank-index l.ranks))))
    × (l.made ≡ capped (sum_by (λ (r : Rank). sum_by made_length r.ops) (map made_rank (take l.rank-index l.ranks))))
    × (l.sent ≡ capped (sum_by (λ (r : Rank). sum_by sent_length r.ops) (map made_rank (take l.rank-index l.ranks))))
