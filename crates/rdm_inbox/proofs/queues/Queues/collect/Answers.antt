use Rattle.std.proofs.Common.{◌∙◌, arith, length-set, get_or}
use Rattle.rdm_inbox.proofs.Pointwise.{slice_get-read}
use Rattle.rdm_inbox.proofs.Collecting.{collected_start, collected_named, collected_next, collected_more}
use Rattle.rdm_inbox.proofs.queues.Queues.collect.Goals as goal

pub loop-port-init : goal.loop-port-init
loop-port-init c = collected_start c.args.self.now.tables c.args.all.now c.requires

pub join_row-requires-clause-named : goal.join_row-requires-clause-named
join_row-requires-clause-named c =
    let n = c.loop-port.port in let B = c.loop-port.all in let d = c.index-all-port.result in let same = c.loop-port.auto.all in
    collected_named c.args.self.now.tables c.args.all.now c.requires B n c.loop-port.invariant c.loop-port-test.true (get_or B n d) c.take-row.new.self (slice_get-read B n d (let lt = c.loop-port-test.true in omega arith)) c.take-row.ensures.left c.take-row.result.items c.take-row.ensures.taken

pub join_row-requires-clause-next : goal.join_row-requires-clause-next
join_row-requires-clause-next c =
    let n = c.loop-port.port in let B = c.loop-port.all in let d = c.index-all-port.result in let same = c.loop-port.auto.all in
    collected_next c.args.self.now.tables c.args.all.now c.requires B n c.loop-port.invariant c.loop-port-test.true (get_or B n d) c.take-row.new.self (slice_get-read B n d (let lt = c.loop-port-test.true in omega arith)) c.take-row.ensures.left c.take-row.result.items c.take-row.ensures.taken

pub loop-port-preserved : goal.loop-port-preserved
loop-port-preserved c =
    let n = c.loop-port.port in let B = c.loop-port.all in let d = c.index-all-port.result in let same = c.loop-port.auto.all in
    collected_more c.args.self.now.tables c.args.all.now c.requires B n c.loop-port.invariant c.loop-port-test.true (get_or B n d) c.take-row.new.self (slice_get-read B n d (let lt = c.loop-port-test.true in omega arith)) c.take-row.ensures.left c.take-row.result.items c.take-row.ensures.taken
    c.join_row.new.all c.join_row.ensures (c.join_row.auto.all ∙ length-set B n c.take-row.new.self)
