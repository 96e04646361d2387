use Rattle.std.proofs.Common.{refl}
use Rattle.rdm_model.specs.Jobs.{bound, sum_of_ops}
use Rattle.rdm_model.specs.Played.{round_bound}
use Rattle.rdm_world.proofs.budget.round_budget.Goals as goal

pub returns : goal.returns
unfolding round_bound bound sum_of_ops
returns c = let e = c.job_sums-sums.ensures in rw (e.ops, e.bytes, e.opens) refl
