use Rattle.std.proofs.Common.{◌+◌, ◌≤◌, ◌∷◌, [], ◌++◌, sym, ap, ◌∙◌, subst, arith, length, map, take, set, get_or, nat_lt, cond, Some}
use Rattle.std.proofs.lemmas.Bool.{lt-ltb}
use Rattle.rdm_inbox.specs.Letters.{but_last}
use Rattle.rdm_inbox.specs.Queues.{with_reader}
use Rattle.rdm_inbox.specs.Sharing.{parted}
use Rattle.rdm_inbox.proofs.Passing.{same_some, slice_get-low, slice_get-map, slice_get-name}
use Rattle.rdm_inbox.proofs.Pointwise.{Changed, Changed-here, Changed-more, take-more, lt-next, lt-self, lt-others}
use Rattle.rdm_inbox.proofs.queues.Queues.part_row.Goals as goal

pub part-pass-requires-clause-of : goal.part-pass-requires-clause-of
part-pass-requires-clause-of c =
    let n = c.loop-port.port in let x = get_or c.loop-port.all n c.index-all-port.result in
    let at = Changed-here (λ i. nat_lt i n) (λ _. with_reader but_last) c.args.all.now c.loop-port.all n c.index-all-port.result c.loop-port.invariant.all c.loop-port-test.true (lt-self n) in
    same_some x.reader.table c.inbox.result.now.table (sym (c.requires.named.each n x at) ∙ slice_get-name c.args.self.now.tables n c.inbox.result.now c.inbox.ensures.at)

pub part-pass-requires-clause-some : goal.part-pass-requires-clause-some
part-pass-requires-clause-some c =
    let n = c.loop-port.port in
    c.requires.some n (get_or c.loop-port.all n c.index-all-port.result) (Changed-here (λ i. nat_lt i n) (λ _. with_reader but_last) c.args.all.now c.loop-port.all n c.index-all-port.result c.loop-port.invariant.all c.loop-port-test.true (lt-self n))

pub loop-port-preserved : goal.loop-port-preserved
loop-port-preserved c =
    let n = c.loop-port.port in let x = get_or c.loop-port.all n c.index-all-port.result in let A = c.args.all.now in
    let at = Changed-here (λ i. nat_lt i n) (λ _. with_reader but_last) A c.loop-port.all n c.index-all-port.result c.loop-port.invariant.all c.loop-port-test.true (lt-self n) in record {
      all = subst (λ y. Changed (λ i. nat_lt i (n + 1)) (λ _. with_reader but_last) A (set c.loop-port.all n y)) (sym c.part-pass.ensures.left)
          (Changed-more (λ i. nat_lt i n) (λ i. nat_lt i (n + 1)) (λ _. with_reader but_last) A c.loop-port.all n x c.loop-port.invariant.all at (lt-next n) (lt-others n));
      row = c.push_reserved.ensures.items ∙ (ap (λ l. l ++ c.part-pass.result ∷ []) c.loop-port.invariant.row
          ∙ (ap (λ s. take n (map parted A) ++ s ∷ []) c.part-pass.ensures.parted ∙ sym (take-more (map parted A) n (parted x) (slice_get-map parted A n x at))));
      filled = c.push_reserved.ensures.len ∙ ap (λ k. k + 1) c.loop-port.invariant.filled;
      room = subst (λ k. length A ≤ k) (sym c.push_reserved.ensures.capacity) c.loop-port.invariant.room;
    }

pub returns-clause-left : goal.returns-clause-left
returns-clause-left c port v at =
    let low = slice_get-low c.args.all.now port v at in let past = c.loop-port-test.false in
    c.loop-port.invariant.all.each port v at ∙ ap (λ b. Some (cond b (with_reader but_last v) v)) (lt-ltb port c.loop-port.port (omega arith))
