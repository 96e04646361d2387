use Rattle.rdm_inbox.proofs.Steps.{counts_full}
use Rattle.rdm_inbox.proofs.counted.push.Goals as goal

pub another-requires-clause-rule : goal.another-requires-clause-rule
another-requires-clause-rule g c = counts_full _ _
