use Rattle.std.proofs.Common.{rules, ◌≡◌, ◌+◌, ◌<◌, ◌++◌, ◌∷◌, [], ℕ, map, Vec, Global, sym, subst}
use Rattle.std.specs.List.{All}
use Rattle.rdm_model.specs.Sends.{bytes_of}
use Rattle.rdm_ep.specs.declared.state.Outbound.{Outbound}
use Rattle.rdm_ep.specs.View.{EndpointView}
use Rattle.rdm_ep.specs.contracts.endpoint.Endpoint.{the_view}
use Rattle.rdm_ep.specs.Peers.{peer_in, put_peer, sent_peer}
use Rattle.rdm_ep.specs.Counts.{LiesIn}
use Rattle.rdm_ep.specs.Sending.{outbound}
use Rattle.rdm_ep.proofs.PartsLemmas.{all_lie}
use Rattle.rdm_ep.proofs.SendingLemmas.{outbound_made, send_kept}
use Rattle.rdm_ep.proofs.SoundLemmas.{counts_sent, packets_more}
use Rattle.rdm_ep.proofs.endpoint.Endpoint.accept_send.Goals as goal

pub gather-requires : goal.gather-requires
gather-requires c =
    let all : All (LiesIn (map (λ (r : Vec ℕ Global). r.items) c.self.inside.regions.items)) c.args.s.now.parts =
    subst (λ (v : EndpointView). All (LiesIn v.regions) c.args.s.now.parts) (sym c.self.view_is)
    (all_lie c.args.self.now c.args.s.now.parts c.requires.can.regions c.requires.can.ranges) in
    subst (λ rs. All (LiesIn (map (λ (r : Vec ℕ Global). r.items) rs)) c.args.s.now.parts) (sym c.deref.ensures.value) all

pub returns-clause-ok : goal.returns-clause-ok
returns-clause-ok c =
    let peers : c.write_peer.new.peers.items ≡ put_peer c.args.accepted.to (sent_peer (peer_in c.self.inside.peers.items c.args.accepted.to)) c.self.inside.peers.items = cc (c.write_peer.ensures.items, c.peer_of-peer.ensures, c.in_ok-reserve-2.ensures.items, c.deref-2.ensures.value) in
    let request : c.in_ok-req.req ≡ c.args.s.now = (let cases = c.in_ok-req.ensures.cases in search rules) in
    let outgoing : c.push_reserved.new.self.items ≡ c.self.inside.outgoing.items ++ outbound (the_view c.self.inside) c.args.s.now c.args.accepted.to ∷ [] =
    (let number : (the_view c.self.inside).own.limits.first + (peer_in (the_view c.self.inside).peers c.args.accepted.to).sent ≡ c.args.accepted.msg.0 =
    subst (λ (v : EndpointView). v.own.limits.first + (peer_in v.peers c.args.accepted.to).sent ≡ c.args.accepted.msg.0) (sym c.self.view_is) c.requires.can.number in
    let bytes : c.in_ok-bytes.bytes ≡ bytes_of (the_view c.self.inside).regions c.args.s.now.parts = cc (c.in_ok-bytes.ensures, c.deref.ensures.value) in
    let made = outbound_made (the_view c.self.inside) c.args.s.now c.args.accepted c.in_ok-bytes.bytes number bytes in
    cc (made, request, c.push_reserved.ensures.items, c.in_ok-reserve.ensures.items, c.eager-packet.ensures.packet, c.peer_of-peer.ensures, c.in_ok-reserve-2.ensures.items, c.deref-2.ensures.value)) in
    rw (← c.self.view_is) (send_kept (the_view c.self.inside) c.args.s.now c.args.accepted c.write_peer.new.peers.items c.push_reserved.new.self.items peers outgoing)

pub invariant_of-self-2 : goal.invariant_of-self-2
invariant_of-self-2 c =
    let room : c.self.inside.sends + c.self.inside.receives < c.self.inside.limits.cq + c.self.inside.polled =
    subst (λ (v : EndpointView). v.sends + v.receives < v.own.limits.cq + v.polled) (sym c.self.view_is) c.requires.can.room in
    let few : c.self.inside.sends < 4294967295 = subst (λ (v : EndpointView). v.sends < 4294967295) (sym c.self.view_is) c.requires.sends in
    let kept : Outbound = record { number = record { 0 = c.self.inside.sends }; to = c.args.accepted.to; req = c.in_ok-req.req; packet = c.eager-packet.result } in
    let outgoing : c.push_reserved.new.self.items ≡ c.self.inside.outgoing.items ++ kept ∷ [] = cc (c.push_reserved.ensures.items, c.in_ok-reserve.ensures.items) in
    record {
      counts = counts_sent _ _ _ _ _ _ c.self.inside.outgoing.items c.push_reserved.new.self.items kept _ outgoing room few c.self.invariant.counts;
      ranges = c.self.invariant.ranges;
      packets = packets_more c.self.inside.outgoing.items c.push_reserved.new.self.items kept outgoing c.self.invariant.packets c.eager-packet.ensures.fits;
    }
