use Rattle.std.proofs.Common.{◌≡◌, take}
use Rattle.rdm_regions.specs.Holds.{with_holds}
use Rattle.rdm_regions.proofs.regions.Regions.keep_all.Given as goal

abbrev pub invariant-loop-i : goal.invariant-loop-i
invariant-loop-i l = l.self ≡ with_holds l.fn.self l.send.0 (take l.i l.ranges)
