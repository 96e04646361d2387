use Rattle.rdm_inbox.proofs.Steps.{learns}
use Rattle.rdm_inbox.proofs.Rules.{takes_as}
use Rattle.rdm_inbox.proofs.inbox.Inbox.receive.Goals as goal

pub pop-requires-clause-rule : goal.pop-requires-clause-rule
pop-requires-clause-rule g c = (takes_as _ _ c.pass.invariant.0, learns _ _)
