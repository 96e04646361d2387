use Rattle.std.proofs.Common.{◌≡◌, ◌-◌, ◌≤◌, length}
use Rattle.rdm_land.proofs.Came.{so_far}
use Rattle.rdm_land.proofs.arrivals.write_came.Given as goal

abbrev pub invariant-loop-at : goal.invariant-loop-at
invariant-loop-at l = (l.at ≤ length l.gaps.places) × (l.home ≡ record (l.fn.home) { cells = so_far l.gaps.places l.bytes l.fn.home.cells l.at })

abbrev pub decreases-loop-at : goal.decreases-loop-at
decreases-loop-at l = l.end - l.at
