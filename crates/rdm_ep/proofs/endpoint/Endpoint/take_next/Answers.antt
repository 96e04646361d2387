use Rattle.std.proofs.Common.{rules, ◌≡◌, ◌+◌, ◌-◌, ◌++◌, ◌∷◌, [], ℕ, List, Vec, Global, true, map, length, vec_len, Some, arith, sym, ◌∙◌, ap, subst}
use Rattle.std.proofs.lemmas.Bool.{eqb-true}
use Rattle.rdm_ep.specs.contracts.endpoint.Endpoint.{the_view}
use Rattle.rdm_ep.specs.declared.state.Inbound.{Inbound}
use Rattle.rdm_ep.specs.declared.state.Peer.{Peer}
use Rattle.rdm_ep.specs.View.{EndpointView}
use Rattle.rdm_ep.specs.Peers.{peer_in, put_peer, entered_peer}
use Rattle.rdm_ep.specs.Meeting.{meeting_of, after_arrivals}
use Rattle.rdm_ep.specs.Entering.{following, entering_by, left_by, entered_by}
use Rattle.rdm_ep.specs.Verdicts.{is_next_in, currents_with, peers_with, owed_with}
use Rattle.rdm_ep.proofs.Held.{following_count}
use Rattle.rdm_ep.proofs.MeetingLemmas.{meeting, next_is, peer_is, entered_welcomed}
use Rattle.rdm_ep.proofs.endpoint.Endpoint.take_next.Goals as goal

pub arrive_all-requires-clause-room : goal.arrive_all-requires-clause-room
arrive_all-requires-clause-room c =
    let held = c.self.inside.held.items in
    let i = c.args.inbound in
    let entering : c.take_following-next.new.entering.items ≡ entering_by i held =
    c.take_following-next.ensures.entering
    ∙ ap (λ (is : List Inbound). is ++ following (length held) held i.life (i.no.0 + 1)) (c.push_reserved.ensures.items ∙ ap (λ (is : List Inbound). is ++ i ∷ []) c.in_ok-entering.ensures.items) in
    let n : vec_len c.take_following-next.new.entering ≡ length c.take_following-next.new.entering.items = search rules in
    let l = ap (λ (is : List Inbound). length is) entering in
    let f = following_count (length held) held i.life (i.no.0 + 1) in
    let m : vec_len c.self.inside.held ≡ length held = search rules in
    let k = c.len-most.ensures in
    let r = c.in_ok-reserve-4.ensures.ok in
    omega arith

pub returns-clause-answer : goal.returns-clause-answer
unfolding entered_by
returns-clause-answer c =
    let held = c.self.inside.held.items in
    let i = c.args.inbound in
    let next : c.take_following-next.result ≡ i.no.0 + 1 + length (following (length held) held i.life (i.no.0 + 1)) = c.take_following-next.ensures.next in
    let count : c.take_following-next.result - i.no.0 ≡ length (entering_by i held) = omega arith in
    ap (λ (n : ℕ). Some (record { first = i.no; count = n })) count
    ∙ ap (λ (v : EndpointView). Some (record { first = i.no; count = length (entering_by i v.held) })) c.self.view_is

pub returns-clause-ok : goal.returns-clause-ok
returns-clause-ok c =
    let v = the_view c.self.inside in
    let held = c.self.inside.held.items in
    let i = c.args.inbound in
    let next : is_next_in v i ≡ true = subst (λ (w : EndpointView). is_next_in w i ≡ true) (sym c.self.view_is) c.requires.next in
    let number : i.no.0 ≡ v.own.limits.first + (peer_in v.peers i.life).entered = eqb-true i.no.0 (v.own.limits.first + (peer_in v.peers i.life).entered) next in
    let currents : c.welcome.new.currents.items ≡ currents_with i.life c.self.inside.currents.items = cc (c.welcome.ensures.currents, c.in_ok-reserve.ensures.items) in
    let greeted : c.welcome.new.peers.items ≡ peers_with i.life c.self.inside.peers.items = cc (c.welcome.ensures.peers, c.in_ok-reserve-2.ensures.items) in
    let owed : c.welcome.new.owed.items ≡ owed_with i.life c.self.inside.peers.items c.self.inside.owed.items =
    cc (c.welcome.ensures.owed, c.in_ok-reserve-2.ensures.items, c.in_ok-reserve-3.ensures.items) in
    let was : c.peer_of-peer.result ≡ peer_in (peers_with i.life c.self.inside.peers.items) i.life = cc (c.peer_of-peer.ensures, c.deref.ensures.value, greeted) in
    let entered : c.peer_of-peer.result.entered ≡ (peer_in v.peers i.life).entered = ap (λ (p : Peer). p.entered) was ∙ entered_welcomed i.life c.self.inside.peers.items i.life in
    let after : c.take_following-next.result ≡ i.no.0 + length (entering_by i held) = (let n = c.take_following-next.ensures.next in omega arith) in
    let peer = peer_is v.own.limits.first i.no.0 c.take_following-next.result (length (entering_by i held)) c.peer_of-peer.result (peer_in v.peers i.life).entered number entered after in
    let peers : c.write_peer.new.peers.items ≡ put_peer i.life (entered_peer (length (entering_by i held)) (peer_in (peers_with i.life c.self.inside.peers.items) i.life)) (peers_with i.life c.self.inside.peers.items) =
    c.write_peer.ensures.items ∙ ap (λ (p : Peer). put_peer i.life p c.welcome.new.peers.items) peer
    ∙ ap (λ (p : Peer). put_peer i.life (entered_peer (length (entering_by i held)) p) c.welcome.new.peers.items) was
    ∙ ap (put_peer i.life (entered_peer (length (entering_by i held)) (peer_in (peers_with i.life c.self.inside.peers.items) i.life))) greeted in
    let left : c.take_following-next.new.held.items ≡ left_by i held = c.take_following-next.ensures.held in
    let entering : c.take_following-next.new.entering.items ≡ entering_by i held =
    c.take_following-next.ensures.entering
    ∙ ap (λ (is : List Inbound). is ++ following (length held) held i.life (i.no.0 + 1)) (c.push_reserved.ensures.items ∙ ap (λ (is : List Inbound). is ++ i ∷ []) c.in_ok-entering.ensures.items) in
    let met : meeting (map (λ (r : Vec ℕ Global). r.items) c.arrive_all.new.regions.items) c.arrive_all.new.posted.items c.arrive_all.new.arrived.items c.arrive_all.new.completions.items
    ≡ after_arrivals (meeting_of v) (entering_by i held) =
    c.arrive_all.ensures.met ∙ ap (after_arrivals (meeting (map (λ (r : Vec ℕ Global). r.items) c.self.inside.regions.items) c.self.inside.posted.items c.reserve-4.new.self.items c.self.inside.completions.items)) entering
    ∙ ap (λ (is : List Inbound). after_arrivals (meeting (map (λ (r : Vec ℕ Global). r.items) c.self.inside.regions.items) c.self.inside.posted.items is c.self.inside.completions.items) (entering_by i held)) c.in_ok-reserve-4.ensures.items in
    rw (← c.self.view_is) (next_is v i c.welcome.new.currents.items c.write_peer.new.peers.items c.welcome.new.owed.items c.take_following-next.new.held.items
    (map (λ (r : Vec ℕ Global). r.items) c.arrive_all.new.regions.items) c.arrive_all.new.posted.items c.arrive_all.new.arrived.items c.arrive_all.new.completions.items next currents owed peers left met)
