use Rattle.rdm_peers.specs.Accounts.{told}
use Rattle.rdm_peers.proofs.Known.{with_changed}
use Rattle.rdm_peers.proofs.peers.Peers.learn.Goals as goal

pub returns : goal.returns
returns c = with_changed c.args.self.now c.args.life _ _ c.account_mut.ensures.value (told c.args.words.now) c.learn.ensures
