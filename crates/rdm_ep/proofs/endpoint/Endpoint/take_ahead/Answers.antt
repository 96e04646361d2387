use Rattle.std.proofs.Common.{◌≡◌, ◌++◌, ◌∷◌, [], false, refl, sym, subst}
use Rattle.rdm_ep.specs.contracts.endpoint.Endpoint.{the_view}
use Rattle.rdm_ep.specs.View.{EndpointView}
use Rattle.rdm_ep.specs.Entering.{entered_by}
use Rattle.rdm_ep.specs.Verdicts.{is_next_in, currents_with, peers_with, owed_with}
use Rattle.rdm_ep.proofs.MeetingLemmas.{ahead_is}
use Rattle.rdm_ep.proofs.endpoint.Endpoint.take_ahead.Goals as goal

pub returns-clause-answer : goal.returns-clause-answer
unfolding entered_by
returns-clause-answer c = refl

pub returns-clause-ok : goal.returns-clause-ok
returns-clause-ok c =
    let next : is_next_in (the_view c.self.inside) c.args.inbound ≡ false = subst (λ (v : EndpointView). is_next_in v c.args.inbound ≡ false) (sym c.self.view_is) c.requires.next in
    let currents : c.welcome.new.currents.items ≡ currents_with c.args.inbound.life c.self.inside.currents.items = cc (c.welcome.ensures.currents, c.in_ok-reserve.ensures.items) in
    let peers : c.welcome.new.peers.items ≡ peers_with c.args.inbound.life c.self.inside.peers.items = cc (c.welcome.ensures.peers, c.in_ok-reserve-2.ensures.items) in
    let owed : c.welcome.new.owed.items ≡ owed_with c.args.inbound.life c.self.inside.peers.items c.self.inside.owed.items =
    cc (c.welcome.ensures.owed, c.in_ok-reserve-2.ensures.items, c.in_ok-reserve-3.ensures.items) in
    let held : c.push_reserved.new.self.items ≡ c.self.inside.held.items ++ c.args.inbound ∷ [] = cc (c.push_reserved.ensures.items, c.in_ok-reserve-4.ensures.items) in
    rw (← c.self.view_is) (ahead_is (the_view c.self.inside) c.args.inbound c.welcome.new.currents.items c.welcome.new.peers.items c.welcome.new.owed.items c.push_reserved.new.self.items next currents peers owed held)
