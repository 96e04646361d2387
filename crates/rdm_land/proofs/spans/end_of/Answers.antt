use Rattle.std.proofs.Common.{arith}
use Rattle.rdm_land.proofs.Order.{found, found_none, past_all}
use Rattle.rdm_land.proofs.spans.end_of.Goals as goal
use Rattle.rdm_land.proofs.spans.end_of.Goals.{else-i-spans-via-then-i-spans+else-spans-i, else-i-spans-via-else-i-spans}

pub returns-then-spans-i : goal.returns-then-spans-i
returns-then-spans-i c =
    (c.find-i.ensures.after _ _ (omega arith) c.if-i-spans.true, found _ _ _ c.args.place c.find-i.result _ c.args.spans.now c.requires.2 c.find-i.ensures.before c.if-i-spans.true c.if-spans-i.true)

pub returns-else-i-spans : goal.returns-else-i-spans
returns-else-i-spans c =
    elim c.else-i-spans.branch [
      | else-i-spans-via-then-i-spans+else-spans-i w ↦
          found_none _ _ _ c.args.place c.find-i.result _ c.args.spans.now c.requires.2 c.find-i.ensures.before w.if-i-spans.true (c.find-i.ensures.after _ _ (omega arith) w.if-i-spans.true) w.if-spans-i.false
      | else-i-spans-via-else-i-spans w ↦ past_all c.args.place c.find-i.result c.args.spans.now w.if-i-spans.false c.find-i.ensures.before
    ]
