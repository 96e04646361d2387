use Rattle.std.proofs.Common.{arith}
use Rattle.rdm_gaps.proofs.Order.{none_has}
use Rattle.rdm_gaps.proofs.ranges.gap_with.Goals as goal
use Rattle.rdm_gaps.proofs.ranges.gap_with.Goals.{else-i-gaps-via-then-i-gaps+else-gaps-i, else-i-gaps-via-else-i-gaps}

pub returns-else-i-gaps : goal.returns-else-i-gaps
returns-else-i-gaps c =
    elim c.else-i-gaps.branch [
      | else-i-gaps-via-then-i-gaps+else-gaps-i w ↦ none_has 0 _ c.args.place c.find-i.result c.args.gaps.now c.requires.1 c.find-i.ensures.before (λ lt. w.if-gaps-i.false)
      | else-i-gaps-via-else-i-gaps w ↦ none_has 0 _ c.args.place c.find-i.result c.args.gaps.now c.requires.1 c.find-i.ensures.before (λ lt. absurd (omega (arith, lt, w.if-i-gaps.false)))
    ]
