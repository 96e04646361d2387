use Rattle.std.proofs.Common.{◌∙◌}
use Rattle.rdm_peers.proofs.Known.{account_is_lookup}
use Rattle.rdm_peers.proofs.peers.Peers.get.Goals as goal

pub returns : goal.returns
returns c = c.get.ensures.value ∙ rw c.key.ensures (account_is_lookup _ _ _ c.self.view_is c.args.life)
