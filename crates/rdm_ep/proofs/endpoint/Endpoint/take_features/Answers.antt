use Rattle.std.proofs.Common.{◌≡◌}
use Rattle.rdm_ep.specs.contracts.endpoint.Endpoint.{the_view}
use Rattle.rdm_ep.specs.Peers.{peer_in, put_peer, known_peer}
use Rattle.rdm_ep.specs.Verdicts.{currents_with, peers_with, owed_with}
use Rattle.rdm_ep.proofs.Welcomed.{features_written}
use Rattle.rdm_ep.proofs.endpoint.Endpoint.take_features.Goals as goal

pub returns-clause-ok : goal.returns-clause-ok
returns-clause-ok c =
    let currents : c.welcome.new.currents.items ≡ currents_with c.args.from c.self.inside.currents.items = cc (c.welcome.ensures.currents, c.in_ok-reserve.ensures.items) in
    let greeted : c.welcome.new.peers.items ≡ peers_with c.args.from c.self.inside.peers.items = cc (c.welcome.ensures.peers, c.in_ok-reserve-2.ensures.items) in
    let peers : c.write_peer.new.peers.items ≡ put_peer c.args.from (known_peer c.args.word (peer_in (peers_with c.args.from c.self.inside.peers.items) c.args.from)) (peers_with c.args.from c.self.inside.peers.items) =
    cc (c.write_peer.ensures.items, c.peer_of-peer.ensures, c.deref.ensures.value, greeted) in
    let owed : c.welcome.new.owed.items ≡ owed_with c.args.from c.self.inside.peers.items c.self.inside.owed.items =
    cc (c.welcome.ensures.owed, c.in_ok-reserve-2.ensures.items, c.in_ok-reserve-3.ensures.items) in
    rw (← c.self.view_is) (features_written (the_view c.self.inside) c.args.from c.args.word c.welcome.new.currents.items c.write_peer.new.peers.items c.welcome.new.owed.items currents peers owed)
