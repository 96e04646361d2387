use Rattle.std.specs.List.{All}
use Rattle.rdm_regions.specs.Tallies.{MayClose}
use Rattle.rdm_regions.proofs.regions.Regions.close.Given as goal

abbrev pub invariant-loop-region : goal.invariant-loop-region
invariant-loop-region l = All MayClose l.regions.items

abbrev pub decreases-loop-region : goal.decreases-loop-region
decreases-loop-region l = goal.left-loop-region l
