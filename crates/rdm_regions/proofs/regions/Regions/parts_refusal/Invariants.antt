use Rattle.std.proofs.Common.{◌≡◌, take}
use Rattle.rdm_regions.specs.Holds.{parts_refusal}
use Rattle.rdm_regions.proofs.regions.Regions.parts_refusal.Given as goal

abbrev pub invariant-loop-range : goal.invariant-loop-range
invariant-loop-range l = l.refusal ≡ parts_refusal l.self (take l.range-index l.ranges)
