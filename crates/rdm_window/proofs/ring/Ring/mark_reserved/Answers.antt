use Rattle.std.proofs.Common.{ap}
use Rattle.rdm_window.specs.Marks.{with_spent}
use Rattle.rdm_window.proofs.Marked.{mark_near, mark_far}
use Rattle.rdm_window.proofs.ring.Ring.mark_reserved.Goals as goal
use Rattle.rdm_window.proofs.ring.Ring.mark_reserved.Goals.{then-from-self, else-from-self}

pub returns-clause-after : goal.returns-clause-after
returns-clause-after c =
    elim c.if-from-self.branch [
      | then-from-self w ↦ rw w.self-inside-is (ap with_spent (mark_near _ _ _ _ _ c.self.view_is c.args.number w.slot.result c.self.told c.requires.from (rw c.from.ensures at w.if-from-self.true) c.ranges.number.fits (rw w.from-then-from-self.ensures at w.slot.ensures.place)))
      | else-from-self w ↦ rw w.self-inside-is (ap with_spent (mark_far _ _ _ _ _ c.self.view_is _ c.args.number (rw c.from.ensures at w.if-from-self.false) c.ranges.number.fits w.put.ensures.numbers))
    ]
