use Rattle.rdm_peers.proofs.Known.{known_without}
use Rattle.rdm_peers.proofs.peers.Peers.forget.Goals as goal

pub returns : goal.returns
returns c = known_without _ _ _ c.self.view_is _ c.args.life (rw c.key.ensures at c.remove.ensures.updates.0)
