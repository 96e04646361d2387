use Rattle.rdm_life.proofs.record_is_kept.Goals as goal
use Rattle.rdm_life.proofs.FactsLaw.{record_is_kept}

pub returns : goal.returns
returns c = record_is_kept
