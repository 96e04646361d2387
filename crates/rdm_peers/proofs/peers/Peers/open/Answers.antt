use Rattle.std.proofs.Common.{ap, ◌∙◌}
use Rattle.rdm_peers.specs.Accounts.{stranger}
use Rattle.rdm_peers.specs.Table.{Known, with_account}
use Rattle.rdm_peers.proofs.Known.{known_with}
use Rattle.rdm_peers.proofs.peers.Peers.open.Goals as goal

pub returns-clause-ok : goal.returns-clause-ok
returns-clause-ok c =
    known_with _ _ _ c.self.view_is _ c.args.life (stranger c.self.inside.first) (rw (c.key.ensures, c.new-account.ensures) at c.in_ok-insert.ensures.updates.0)
    ∙ ap (λ (k : Known). with_account c.args.self.now c.args.life (stranger k.first)) c.self.view_is
