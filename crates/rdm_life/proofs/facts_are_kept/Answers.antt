use Rattle.rdm_life.proofs.facts_are_kept.Goals as goal
use Rattle.rdm_life.proofs.FactsLaw.{facts_are_kept}

pub returns : goal.returns
returns c = facts_are_kept
