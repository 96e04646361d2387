use Rattle.std.proofs.Common.{◌∙◌}
use Rattle.rdm_window.proofs.Marked.{has_near, has_far}
use Rattle.rdm_window.proofs.ring.Ring.has.Goals as goal

pub returns-then-from-self-clause-answer : goal.returns-then-from-self-clause-answer
returns-then-from-self-clause-answer c =
    has_near _ _ _ _ _ c.self.view_is c.args.number c.slot.result c.requires (rw c.from.ensures at c.if-from-self.true) c.ranges.number.fits (rw c.from-then-from-self.ensures at c.slot.ensures.place)

pub returns-else-from-self-clause-answer : goal.returns-else-from-self-clause-answer
returns-else-from-self-clause-answer c =
    c.contains.ensures ∙ has_far _ _ _ _ _ c.self.view_is c.args.number (rw c.from.ensures at c.if-from-self.false) c.ranges.number.fits
