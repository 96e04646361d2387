use Rattle.std.proofs.Common.{arith}
use Rattle.rdm_pkt.proofs.Rows.{fit-nothing}
use Rattle.rdm_pkt.proofs.InRange.{fit_more}
use Rattle.rdm_pkt.proofs.ranges.iov_in_range.Goals as goal

pub loop-entry-init : goal.loop-entry-init
loop-entry-init c = fit-nothing

pub loop-entry-preserved : goal.loop-entry-preserved
loop-entry-preserved c =
    fit_more c.args.iov.now c.loop-entry.entry-index (record { offset = 0; length = 0; key = 0 }) c.loop-entry-test.true c.loop-entry.invariant (omega arith) (omega arith) (omega arith)
