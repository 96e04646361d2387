use Rattle.std.proofs.Common.{sym}
use Rattle.rdm_window.proofs.Advanced.{advanced_none, advanced_more}
use Rattle.rdm_window.proofs.ring.Ring.advance.Goals as goal

pub loop-init : goal.loop-init
loop-init c = (c.next_number-from.ensures.next, advanced_none c.args.self.now)

pub loop-preserved : goal.loop-preserved
loop-preserved c =
    (c.loop.invariant.0, rw c.loop-test.ensures.after (advanced_more c.args.self.now c.loop.self c.loop.invariant.1 (sym c.loop-test.ensures.answer)))
