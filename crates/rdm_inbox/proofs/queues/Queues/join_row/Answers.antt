use Rattle.std.proofs.Common.{◌≡◌, ◌+◌, ap, ◌∙◌, subst, arith, length, set, take, vec_len}
use Rattle.rdm_inbox.proofs.Joining.{Joined, less, next_of, next_from, joined_more}
use Rattle.rdm_inbox.proofs.queues.Queues.join_row.Goals as goal

pub join-requires-clause-of : goal.join-requires-clause-of
join-requires-clause-of c =
    let k = c.len-port.result in let e = c.len-port.ensures in let n = c.in-Some.ensures.cases in
    next_of c.args.row.items c.loop-pass.row.items c.pop.new.self.items (vec_len c.loop-pass.row) k c.in-Some.pass (omega arith) c.loop-pass.invariant.row c.in-Some.ensures.items (omega (arith, c.pop.new.self.ok.0))
    c.args.all.now c.loop-pass.all c.index-all-port.result c.loop-pass.invariant.all c.requires.next c.args.self.now.tables c.inbox.result.now c.requires.named c.inbox.ensures.at

pub join-requires-clause-next : goal.join-requires-clause-next
join-requires-clause-next c =
    let k = c.len-port.result in let e = c.len-port.ensures in let n = c.in-Some.ensures.cases in
    next_from c.args.row.items c.loop-pass.row.items c.pop.new.self.items (vec_len c.loop-pass.row) k c.in-Some.pass (omega arith) c.loop-pass.invariant.row c.in-Some.ensures.items (omega (arith, c.pop.new.self.ok.0))
    c.args.all.now c.loop-pass.all c.index-all-port.result c.loop-pass.invariant.all c.requires.next

pub loop-pass-preserved : goal.loop-pass-preserved
loop-pass-preserved c =
    let k = c.len-port.result in let e = c.len-port.ensures in let n = c.in-Some.ensures.cases in let m : vec_len c.loop-pass.row ≡ k + 1 = omega arith in let long : length c.pop.new.self.items ≡ k = omega (arith, c.pop.new.self.ok.0) in record {
      all = subst (λ i. Joined c.args.row.items c.args.all.now i (set c.loop-pass.all k c.join.new.self)) e
          (joined_more c.args.row.items c.loop-pass.row.items c.pop.new.self.items (vec_len c.loop-pass.row) k c.in-Some.pass m c.loop-pass.invariant.row c.in-Some.ensures.items long
          c.args.all.now c.loop-pass.all c.index-all-port.result c.loop-pass.invariant.all c.requires.next c.join.new.self c.join.ensures);
      row = less c.args.row.items c.loop-pass.row.items c.pop.new.self.items (vec_len c.loop-pass.row) k c.in-Some.pass m c.loop-pass.invariant.row c.in-Some.ensures.items long c.in-Some.ensures.rest
          ∙ ap (λ i. take i c.args.row.items) e;
    }
