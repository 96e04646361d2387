use Rattle.std.proofs.Common.{◌∙◌, arith}
use Rattle.rdm_gaps.proofs.Fused.{joins, fused_last, parts}
use Rattle.rdm_gaps.proofs.ranges.fuse.Goals as goal

pub returns-then-low-high-clause-items : goal.returns-then-low-high-clause-items
returns-then-low-high-clause-items c = c.remove.ensures.items ∙ joins c.args.i c.args.gaps.now.items c.index-low.result.now c.index-high.result.now (omega (arith, c.if-i-len.true, c.len.ensures, c.args.gaps.now.ok.0)) c.index-low.ensures c.index-high.ensures c.if-low-high.true

pub returns-else-low-high-clause-items : goal.returns-else-low-high-clause-items
returns-else-low-high-clause-items c = parts c.args.i c.args.gaps.now.items c.index-low.result.now c.index-high.result.now (omega (arith, c.if-i-len.true, c.len.ensures, c.args.gaps.now.ok.0)) c.index-low.ensures c.index-high.ensures c.if-low-high.false

pub returns-else-i-len-clause-items : goal.returns-else-i-len-clause-items
returns-else-i-len-clause-items c = fused_last c.args.i c.args.gaps.now.items (omega (arith, c.if-i-len.false, c.len.ensures, c.args.gaps.now.ok.0))
