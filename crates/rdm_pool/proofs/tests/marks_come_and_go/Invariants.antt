use Rattle.std.proofs.Common.{◌≤◌}
use Rattle.rdm_pool.proofs.tests.marks_come_and_go.Given as goal

abbrev pub invariant-loop-step : goal.invariant-loop-step
invariant-loop-step g l = l.pool.made ≤ l.step-index
