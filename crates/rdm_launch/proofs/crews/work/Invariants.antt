use Rattle.std.proofs.Common.{◌≡◌}
use Rattle.rdm_launch.proofs.crews.work.Given as goal

abbrev pub invariant-loop : goal.invariant-loop
invariant-loop g l = l.seat ≡ l.fn.seat
