use Rattle.rdm_ep.proofs.PeersLemmas.{peer_of_search}
use Rattle.rdm_ep.proofs.peers.place_of.Goals as goal

pub returns : goal.returns
returns c = peer_of_search _ _ _ c.search.ensures
