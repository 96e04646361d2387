use Rattle.rdm_av.proofs.HeldLives.{set_after}
use Rattle.rdm_av.proofs.add.Goals as goal

pub returns-clause-lives : goal.returns-clause-lives
returns-clause-lives c = set_after c.args.superseded.now.keys _ _ c.in-Ok.ensures.updates.0
