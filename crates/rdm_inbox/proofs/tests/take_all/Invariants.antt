use Rattle.std.proofs.Common.{◌≡◌}
use Rattle.rdm_inbox.proofs.tests.take_all.Given as goal

abbrev pub invariant-loop : goal.invariant-loop
invariant-loop g l = l.wire.passes.port ≡ l.port.0
