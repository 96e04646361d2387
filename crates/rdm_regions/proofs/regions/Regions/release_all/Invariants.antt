use Rattle.std.proofs.Common.{◌≡◌, ◌≤◌}
use Rattle.rdm_regions.specs.Holds.{without_holds}
use Rattle.rdm_regions.proofs.regions.Regions.release_all.Given as goal

abbrev pub invariant-loop-left : goal.invariant-loop-left
invariant-loop-left l = (l.left ≤ l.count) × (without_holds l.self l.send.0 l.left ≡ without_holds l.fn.self l.send.0 l.count)

abbrev pub decreases-loop-left : goal.decreases-loop-left
decreases-loop-left l = l.left
