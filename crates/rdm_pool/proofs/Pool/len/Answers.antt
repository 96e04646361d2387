use Rattle.rdm_pool.proofs.SlabKeys.{length-listed}
use Rattle.rdm_pool.proofs.Pool.len.Goals as goal

pub returns : goal.returns
returns g c = rw (← c.self.view_is, length-listed _ _ c.self.invariant.held, ← c.self.invariant.counted) c.len.ensures
