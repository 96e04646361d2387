use Rattle.std.proofs.Common.{sym, ◌∙◌, get_or, nat_lt}
use Rattle.rdm_inbox.specs.Letters.{but_taken}
use Rattle.rdm_inbox.specs.Queues.{with_reader}
use Rattle.rdm_inbox.proofs.Passing.{same_some, slice_get-name}
use Rattle.rdm_inbox.proofs.Pointwise.{Changed-here, lt-self}
use Rattle.rdm_inbox.proofs.Settling.{changed, settled_more}
use Rattle.rdm_inbox.proofs.queues.Queues.settle.Goals as goal

pub settle-requires-clause-of : goal.settle-requires-clause-of
settle-requires-clause-of c =
    let n = c.loop-port.port in let x = get_or c.loop-port.all n c.index-all-port.result in
    let at = Changed-here (λ i. nat_lt i n) (λ _. with_reader but_taken) c.args.all.now c.loop-port.all n c.index-all-port.result (changed c.args.all.now n c.loop-port.all c.loop-port.invariant) c.loop-port-test.true (lt-self n) in
    same_some x.reader.table c.inbox.result.now.table (sym (c.requires.named.each n x at) ∙ slice_get-name c.args.self.now.tables n c.inbox.result.now c.inbox.ensures.at)

pub settle-requires-clause-whole : goal.settle-requires-clause-whole
settle-requires-clause-whole c =
    let n = c.loop-port.port in
    c.requires.whole n (get_or c.loop-port.all n c.index-all-port.result)
    (Changed-here (λ i. nat_lt i n) (λ _. with_reader but_taken) c.args.all.now c.loop-port.all n c.index-all-port.result (changed c.args.all.now n c.loop-port.all c.loop-port.invariant) c.loop-port-test.true (lt-self n))

pub loop-port-preserved : goal.loop-port-preserved
loop-port-preserved c =
    let n = c.loop-port.port in let x = get_or c.loop-port.all n c.index-all-port.result in
    let at = Changed-here (λ i. nat_lt i n) (λ _. with_reader but_taken) c.args.all.now c.loop-port.all n c.index-all-port.result (changed c.args.all.now n c.loop-port.all c.loop-port.invariant) c.loop-port-test.true (lt-self n) in
    settled_more c.args.all.now n c.loop-port.all x c.settle.new.self c.loop-port.invariant at c.settle.ensures.settled c.settle.ensures.left
