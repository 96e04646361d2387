use Rattle.rdm_pool.proofs.SlabKeys.{length-listed}
use Rattle.rdm_pool.proofs.Seen.{is_pool}
use Rattle.std.proofs.Common.{rules}
use Rattle.rdm_pool.proofs.Pool.is_full.Goals as goal

pub returns-clause-value : goal.returns-clause-value
returns-clause-value g c = rw (← c.self.view_is, length-listed _ _ c.self.invariant.held, ← c.self.invariant.counted) (search rules)

pub returns-clause-pool : goal.returns-clause-pool
returns-clause-pool g c = rw (← c.self.view_is) (is_pool c.self.inside c.self.invariant)
