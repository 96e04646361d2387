use Rattle.std.proofs.Common.{ap, arith}
use Rattle.rdm_mr.specs.Part.{Piece, end_of}
use Rattle.rdm_mr.proofs.Order.{begins_after, ends_early}
use Rattle.rdm_mr.proofs.ordered.locate.Goals as goal
use Rattle.rdm_mr.proofs.ordered.locate.Goals.{else-start-from-via-then-start-from+else-end-start, else-start-from-via-else-start-from}

pub returns-else-start-from : goal.returns-else-start-from
returns-else-start-from c =
    let order = c.requires.order in
    let p = c.index-parts-i.result in
    let i = c.find-i.result in
    let begins = ap (λ (x : Piece). x.start) c.index-parts-i.is in
    let ends = ap end_of c.index-parts-i.is in
    let after = c.find-i.ensures.after i p (omega arith) c.if-i-parts.true in
    elim c.else-start-from.branch [
      | else-start-from-via-then-start-from+else-end-start w ↦
          ends_early order.0 order.1 c.args.from c.args.end i c.args.parts.now order.2 c.requires.some c.find-i.ensures.before p c.if-i-parts.true after (omega (arith, ends, w.if-end-start.false, w.start-then-start-from.ensures.value, w.len.ensures))
      | else-start-from-via-else-start-from w ↦
          begins_after order.0 order.1 c.args.from c.args.end i c.args.parts.now order.2 c.requires.some c.find-i.ensures.before p c.if-i-parts.true after (omega (arith, begins, w.if-start-from.false, c.start.ensures.value))
    ]
