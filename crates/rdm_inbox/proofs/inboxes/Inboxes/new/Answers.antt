use Rattle.std.proofs.Common.{arith, ◌≡◌, ◌+◌, subst, subst₂, ◌∙◌, sym, ap}
use Rattle.rdm_inbox.specs.Queues.{AreGathered, AreNew, seen_by}
use Rattle.rdm_inbox.proofs.Openings.{AreFresh, just_fresh, one_more_fresh, have_size, are_gathered, are_new}
use Rattle.rdm_inbox.proofs.inboxes.Inboxes.new.Goals as goal

pub loop-port-preserved : goal.loop-port-preserved
loop-port-preserved g c = record {
  inboxes = c.push_reserved.ensures.len ∙ ap (λ n. n + 1) c.loop-port.invariant.inboxes;
  all = c.push_reserved-in-loop-port.ensures.len ∙ ap (λ n. n + 1) c.loop-port.invariant.all;
  room = c.push_reserved.ensures.capacity ∙ c.loop-port.invariant.room;
  room_too = c.push_reserved-in-loop-port.ensures.capacity ∙ c.loop-port.invariant.room_too;
  fresh = subst₂ (AreFresh c.args.ports c.args.size (c.loop-port.port + 1)) (sym c.push_reserved.ensures.items) (sym c.push_reserved-in-loop-port.ensures.items)
      (one_more_fresh c.args.ports c.args.size c.loop-port.port c.loop-port.inboxes.items c.loop-port.all.items c.in_ok-inbox.inbox c.whole.result c.loop-port.invariant.fresh
      (just_fresh c.args.ports c.args.size c.loop-port.port c.in_ok-inbox.inbox c.in_ok-inbox.reader c.new-in-loop-port.result.items c.whole.result c.in_ok-inbox.ensures.0 c.in_ok-inbox.ensures.1 c.whole.ensures));
}

pub new-requires-2 : goal.new-requires-2
new-requires-2 g c = (c.requires, have_size c.args.ports c.args.size c.loop-port.port c.loop-port.inboxes.items c.loop-port.all.items c.loop-port.invariant.fresh)

pub invariant_of-result : goal.invariant_of-result
invariant_of-result g c =
    let done : c.loop-port.port ≡ c.args.ports = let a = c.loop-port-test.false in let b = c.loop-port.auto.port-end in omega arith in
    subst (λ q. AreGathered q.tables c.loop-port.all.items) (sym c.new-2.ensures)
    (are_gathered c.args.ports c.args.size c.loop-port.inboxes.items c.loop-port.all.items (subst (λ n. AreFresh c.args.ports c.args.size n c.loop-port.inboxes.items c.loop-port.all.items) done c.loop-port.invariant.fresh))

pub returns : goal.returns
returns g c =
    let done : c.loop-port.port ≡ c.args.ports = let a = c.loop-port-test.false in let b = c.loop-port.auto.port-end in omega arith in
    subst (λ q. AreNew c.args.ports c.args.size (seen_by q c.loop-port.all.items)) (sym c.new-2.ensures)
    (are_new c.args.ports c.args.size c.loop-port.inboxes.items c.loop-port.all.items (subst (λ n. AreFresh c.args.ports c.args.size n c.loop-port.inboxes.items c.loop-port.all.items) done c.loop-port.invariant.fresh))
