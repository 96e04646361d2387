use Rattle.std.proofs.Common.{◌≡◌, ◌∷◌, [], length, ap, sym, ◌∙◌, subst, Some, IfSome, IfNone, eqb-true}
use Rattle.rdm_wire.specs.Queues.{IsFor}
use Rattle.rdm_wire.specs.Accounts.{after_fetches}
use Rattle.rdm_inbox.specs.Queues.{account_of, no_flight}
use Rattle.rdm_inbox.proofs.Serving.{fetch_account, fetch_same, got_same}
use Rattle.rdm_inbox.proofs.port_wire.PortWireWire.fetch.Goals as goal

pub returns-clause-account : goal.returns-clause-account
returns-clause-account g c =
    subst (λ w. IfSome c.receive.result (λ d. Some (account_of c.receive.new.passes) ≡ Some (after_fetches c.args._port.0 (d ∷ []) (account_of w.passes)))) c.self.view_is
    (fetch_account c.self.inside.passes c.receive.new.passes (IsFor c.self.inside.passes.port (length c.self.inside.queues.now.tables)) c.receive.result c.receive.ensures c.args._port.0 (eqb-true c.args._port.0 c.args.self.now.passes.port c.requires ∙ sym (ap (λ w. w.passes.port) c.self.view_is)))

pub returns-clause-same : goal.returns-clause-same
returns-clause-same g c =
    subst (λ w. IfNone c.receive.result ((Some (account_of c.receive.new.passes) ≡ Some (account_of w.passes)) × (no_flight ≡ no_flight))) c.self.view_is
    (got_same c.receive.result (Some (account_of c.receive.new.passes) ≡ Some (account_of c.self.inside.passes))
    (fetch_same c.self.inside.passes c.receive.new.passes (IsFor c.self.inside.passes.port (length c.self.inside.queues.now.tables)) c.receive.result c.receive.ensures))
