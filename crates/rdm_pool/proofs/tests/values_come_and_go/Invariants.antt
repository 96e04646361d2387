use Rattle.std.proofs.Common.{◌≤◌}
use Rattle.rdm_pool.proofs.tests.values_come_and_go.Given as goal

abbrev pub invariant-loop-number : goal.invariant-loop-number
invariant-loop-number g l = l.pool.made ≤ l.number
