use Rattle.rdm_land.proofs.LandingViews.{agrees_seen}
use Rattle.rdm_land.proofs.landing.Landing.agrees_law.Goals as goal

pub returns : goal.returns
returns c = agrees_seen _ _ _ c.self.invariant.agrees _ c.self.view_is
