use Rattle.rdm_peers.specs.Accounts.{numbered}
use Rattle.rdm_peers.proofs.Known.{with_changed}
use Rattle.rdm_peers.proofs.peers.Peers.take_number.Goals as goal

pub returns-clause-after : goal.returns-clause-after
returns-clause-after c = with_changed c.args.self.now c.args.life _ _ c.account_mut.ensures.value numbered c.take_number.ensures.after
