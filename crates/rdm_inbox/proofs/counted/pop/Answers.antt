use Rattle.rdm_inbox.proofs.Steps.{counts_empty}
use Rattle.rdm_inbox.proofs.counted.pop.Goals as goal

pub another-requires-clause-rule : goal.another-requires-clause-rule
another-requires-clause-rule g c = counts_empty _ _
