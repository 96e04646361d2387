use Rattle.rdm_inbox.specs.Sharing.{AreCollected}
use Rattle.rdm_inbox.proofs.queues.Queues.collect.Given as goal

abbrev pub invariant-loop-port : goal.invariant-loop-port
invariant-loop-port l = AreCollected l.initial.all l.port l.all
