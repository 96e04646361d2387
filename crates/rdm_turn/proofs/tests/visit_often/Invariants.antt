use Rattle.std.proofs.Common.{◌≡◌}
use Rattle.rdm_turn.proofs.tests.visit_often.Given as goal

abbrev pub invariant-loop : goal.invariant-loop
invariant-loop g l = l.seat ≡ l.fn.seat
