use Rattle.rdm_sent.proofs.Ending.{facts_are_kept}
use Rattle.rdm_sent.proofs.facts_law.Goals as goal

pub returns : goal.returns
returns c = record { facts = facts_are_kept }
