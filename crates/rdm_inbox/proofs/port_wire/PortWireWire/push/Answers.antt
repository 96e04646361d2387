use Rattle.std.proofs.Common.{◌≡◌, ◌≤◌, length, ap, subst, arith, Some, OnOk, OnErr}
use Rattle.rdm_wire.specs.Accounts.{after_push}
use Rattle.rdm_wire.specs.Counts.{Rose}
use Rattle.rdm_inbox.specs.Queues.{account_of, fulls_of, empties_of, no_flight}
use Rattle.rdm_inbox.proofs.Serving.{push_still, push_account, push_same, push_counts, push_uncounted, push_rose, told_same}
use Rattle.rdm_inbox.proofs.port_wire.PortWireWire.push.Goals as goal

pub invariant_of-self : goal.invariant_of-self
invariant_of-self g c = push_still c.self.inside.passes c.send.new.passes c.args.d _ c.self.inside.queues.now.tables c.send.result c.send.ensures c.self.invariant

pub returns-clause-full : goal.returns-clause-full
returns-clause-full g c = let low = c.requires.target in let all = c.self.invariant.all in let q = ap (λ w. length w.queues.tables) c.self.view_is in
    subst (λ w. OnErr c.send.result (Rose (fulls_of w.passes) (fulls_of c.send.new.passes))) c.self.view_is (push_rose c.self.inside.passes c.send.new.passes c.args.d _ c.send.result c.send.ensures (omega arith))

pub returns-clause-counts : goal.returns-clause-counts
returns-clause-counts g c = let low = c.requires.target in let all = c.self.invariant.all in let q = ap (λ w. length w.queues.tables) c.self.view_is in
    subst (λ w. (fulls_of w.passes ≤ fulls_of c.send.new.passes) × (empties_of c.send.new.passes ≡ empties_of w.passes)) c.self.view_is (push_counts c.self.inside.passes c.send.new.passes c.args.d _ c.send.result c.send.ensures (omega arith))

pub returns-clause-uncounted : goal.returns-clause-uncounted
returns-clause-uncounted g c = let low = c.requires.target in let all = c.self.invariant.all in let q = ap (λ w. length w.queues.tables) c.self.view_is in
    subst (λ w. OnOk c.send.result (fulls_of c.send.new.passes ≡ fulls_of w.passes)) c.self.view_is (push_uncounted c.self.inside.passes c.send.new.passes c.args.d _ c.send.result c.send.ensures (omega arith))

pub returns-clause-account : goal.returns-clause-account
returns-clause-account g c = let low = c.requires.target in let all = c.self.invariant.all in let q = ap (λ w. length w.queues.tables) c.self.view_is in
    subst (λ w. OnOk c.send.result (Some (account_of c.send.new.passes) ≡ Some (after_push c.args.d (account_of w.passes)))) c.self.view_is (push_account c.self.inside.passes c.send.new.passes c.args.d _ c.send.result c.send.ensures (omega arith))

pub returns-clause-same : goal.returns-clause-same
returns-clause-same g c =
    subst (λ w. OnErr c.send.result ((Some (account_of c.send.new.passes) ≡ Some (account_of w.passes)) × (no_flight ≡ no_flight))) c.self.view_is
    (told_same c.send.result (Some (account_of c.send.new.passes) ≡ Some (account_of c.self.inside.passes)) (push_same c.self.inside.passes c.send.new.passes c.args.d _ c.send.result c.send.ensures))
