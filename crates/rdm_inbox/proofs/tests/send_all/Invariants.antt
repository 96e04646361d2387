use Rattle.std.proofs.Common.{◌≡◌}
use Rattle.rdm_inbox.proofs.tests.send_all.Given as goal

abbrev pub invariant-loop : goal.invariant-loop
invariant-loop g l = (l.wire.queues.tables ≡ l.queues.tables) × (l.wire.passes.port ≡ l.from.0)
