use Rattle.rdm_av.proofs.HeldLives.{map_after}
use Rattle.rdm_av.proofs.put.Goals as goal

pub returns-clause-lives : goal.returns-clause-lives
returns-clause-lives c = map_after c.args.current.now.entries _ _ _ c.in-Ok.ensures.updates.0
