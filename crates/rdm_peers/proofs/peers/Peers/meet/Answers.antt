use Rattle.rdm_peers.specs.Accounts.{greeted}
use Rattle.rdm_peers.proofs.Known.{with_changed}
use Rattle.rdm_peers.proofs.peers.Peers.meet.Goals as goal

pub returns-clause-after : goal.returns-clause-after
returns-clause-after c = with_changed c.args.self.now c.args.life _ _ c.account_mut.ensures.value greeted c.meet.ensures.after
