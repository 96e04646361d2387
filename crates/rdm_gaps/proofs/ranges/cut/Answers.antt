use Rattle.std.proofs.Common.{arith}
use Rattle.rdm_gaps.proofs.Covered.{cut_front, cut_back}
use Rattle.rdm_gaps.proofs.ranges.cut.Goals as goal

pub returns-else-end-stop-clause-items : goal.returns-else-end-stop-clause-items
returns-else-end-stop-clause-items c =
    cut_back c.args.gaps.now.items c.args.i c.args.off c.args.end c.index.result.now (omega (arith, c.requires.at, c.args.gaps.now.ok.0)) c.index.ensures c.if-start-off.true c.if-end-stop.false

pub returns-then-end-stop-2-clause-items : goal.returns-then-end-stop-2-clause-items
returns-then-end-stop-2-clause-items c =
    cut_front c.args.gaps.now.items c.args.i c.args.off c.args.end c.index.result.now (omega (arith, c.requires.at, c.args.gaps.now.ok.0)) c.index.ensures c.if-start-off.false c.if-end-stop-2.true
