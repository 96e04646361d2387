use Rattle.std.proofs.Common.{arith}
use Rattle.rdm_window.proofs.Marked.{new_marks, new_ring}
use Rattle.rdm_window.proofs.ring.Ring.new.Goals as goal

pub invariant_of-result : goal.invariant_of-result
invariant_of-result c =
    (rw (c.from.ensures, c.no_flags.ensures) (new_ring c.args.next c.new.result.keys c.ranges.next.fits c.new.ensures.empty), omega arith)

pub returns : goal.returns
returns c = rw (c.from.ensures, c.no_flags.ensures) (new_marks c.args.next c.new.result.keys c.new.ensures.empty)
