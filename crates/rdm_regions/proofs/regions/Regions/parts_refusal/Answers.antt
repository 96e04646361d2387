use Rattle.std.proofs.Common.{ap, ◌∙◌}
use Rattle.rdm_regions.specs.Ranges.{range}
use Rattle.rdm_regions.specs.Holds.{graver}
use Rattle.rdm_regions.proofs.Gravest.{graver_next}
use Rattle.rdm_regions.proofs.regions.Regions.parts_refusal.Goals as goal

pub loop-range-preserved : goal.loop-range-preserved
loop-range-preserved c =
    c.graver-refusal.ensures ∙ ap (graver c.loop-range.refusal) c.hold_refusal.ensures ∙ graver_next c.args.self.now c.args.ranges.now c.loop-range.range-index (range 0 0 0) c.loop-range.refusal c.loop-range-test.true c.loop-range.invariant
