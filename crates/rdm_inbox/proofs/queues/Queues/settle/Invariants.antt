use Rattle.rdm_inbox.specs.Sharing.{AreSettled}
use Rattle.rdm_inbox.proofs.queues.Queues.settle.Given as goal

abbrev pub invariant-loop-port : goal.invariant-loop-port
invariant-loop-port l = AreSettled l.initial.all l.port l.all
