use Rattle.std.proofs.Common.{◌≡◌}
use Rattle.std.specs.FinMap.{empty}
use Rattle.rdm_regions.specs.Holds.{HoldsNone}
use Rattle.rdm_regions.proofs.tests.are_held.Given as goal

abbrev pub invariant-loop-ranges : goal.invariant-loop-ranges
invariant-loop-ranges l = (l.regions.leased ≡ empty) × HoldsNone l.regions 7
