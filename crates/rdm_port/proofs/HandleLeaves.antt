-- What the handling of a datagram leaves of an endpoint: what it began with, and its counts.
use Rattle.std.proofs.Common.{◌≡◌, ℕ, Bool, true, false, cond, ◌∷◌, [], ◌++◌, Option, Some, None, refl, ap, ◌∙◌}
use Rattle.std.specs.Prelude.{is_none, ◌==◌}
use Rattle.rdm_num.specs.Lives.{life}
use Rattle.rdm_num.specs.declared.numbers.Life.{Life}
use Rattle.rdm_pkt.specs.declared.Packet.TheVariants.{Rtm, Handshake}
use Rattle.rdm_pkt.specs.declared.Form.TheVariants.{Eager}
use Rattle.rdm_wire.specs.declared.Body.{Body}
use Rattle.rdm_wire.specs.declared.Body.TheVariants.{Note, Between}
use Rattle.rdm_wire.specs.declared.Datagram.{Datagram}
use Rattle.rdm_model.specs.declared.answer.Handled.{Handled}
use Rattle.rdm_model.specs.declared.answer.Handled.TheVariants as H
use Rattle.rdm_model.specs.Deeds.{Item, Spelled, item_of}
use Rattle.rdm_ep.specs.declared.state.Inbound.{Inbound}
use Rattle.rdm_ep.specs.declared.answer.HandleAnswer.{HandleAnswer}
use Rattle.rdm_ep.specs.declared.answer.HandleAnswer.TheVariants.{Took}
use Rattle.rdm_ep.specs.View.{EndpointView, current_in, cq_in}
use Rattle.rdm_ep.specs.Peers.{peer_in, with_peer, greeted_peer}
use Rattle.rdm_ep.specs.Entering.{next_in, with_next, with_ahead, with_message}
use Rattle.rdm_ep.specs.Handling.{inbound, with_source, with_greeting, with_item, after_take, after_answer, body_answer, after_body}
use Rattle.rdm_port.specs.Kept.{Kept, places_of}
use Rattle.rdm_port.specs.Machine.{life_answer, after_life, TakesIn}

-- the endpoint has the life and the counts that it had
pub record Leaves (old new : EndpointView) : Type 0 where
  pub own : new.own ≡ old.own
  pub sends : new.sends ≡ old.sends
  pub receives : new.receives ≡ old.receives
  pub polled : new.polled ≡ old.polled

-- nothing changes
same : (e : EndpointView) → Leaves e e
same e = record { own = refl; sends = refl; receives = refl; polled = refl }

-- one change after another
leaves_both : (a b c : EndpointView) → Leaves a b → Leaves b c → Leaves a c
leaves_both a b c x y = record { own = y.own ∙ x.own; sends = y.sends ∙ x.sends; receives = y.receives ∙ x.receives; polled = y.polled ∙ x.polled }

-- a life that is current
source_leaves : (from : Life) (e : EndpointView) → Leaves e (with_source from e)
unfolding with_source
source_leaves from e =
    elim (is_none (current_in e from.port.0)) as (λ b. Leaves e (cond b (record e { currents = e.currents ++ from ∷ [] }) e)) [
      | true ↦ record { own = refl; sends = refl; receives = refl; polled = refl }
      | false ↦ same e
    ]

-- a handshake that is owed
greeting_leaves : (from : Life) (e : EndpointView) → Leaves e (with_greeting from e)
unfolding with_greeting
greeting_leaves from e =
    elim (peer_in e.peers from).greeted as (λ b. Leaves e (cond b e (record e { peers = with_peer greeted_peer from e.peers; owed = e.owed ++ from ∷ [] }))) [
      | true ↦ same e
      | false ↦ record { own = refl; sends = refl; receives = refl; polled = refl }
    ]

-- a message that enters, or is held
message_leaves : (is_next : Bool) (i : Inbound) (e : EndpointView) → Leaves e (with_message is_next i e)
unfolding with_message with_next with_ahead
message_leaves true i e = record { own = refl; sends = refl; receives = refl; polled = refl }
message_leaves false i e = record { own = refl; sends = refl; receives = refl; polled = refl }

-- what was taken
item_leaves : (next : ℕ) (from : Life) (item : Item) (e : EndpointView) → Leaves e (with_item next from item e)
unfolding with_item
item_leaves next from (Spelled (Rtm number tag confirm opt (Eager bytes))) e = message_leaves (number.0 == next) (inbound from number.0 tag confirm opt bytes) e
item_leaves next from (Spelled (Handshake words connid raw)) e = record { own = refl; sends = refl; receives = refl; polled = refl }
item_leaves next from _ e = same e

-- a datagram that was taken
take_leaves : (from : Life) (item : Item) (e : EndpointView) → Leaves e (after_take from item e)
unfolding after_take
take_leaves from item e =
    leaves_both e (with_greeting from (with_source from e)) (with_item (next_in e from) from item (with_greeting from (with_source from e)))
    (leaves_both e (with_source from e) (with_greeting from (with_source from e)) (source_leaves from e) (greeting_leaves from (with_source from e)))
    (item_leaves (next_in e from) from item (with_greeting from (with_source from e)))

-- any answer
answer_leaves : (answer : HandleAnswer) (from : Life) (item : Item) (e : EndpointView) → Leaves e (after_answer answer from item e)
unfolding after_answer
answer_leaves (Took entered) from item e = take_leaves from item e
answer_leaves _ from item e = same e

-- the answer to a datagram leaves the life and the counts of the endpoint
pub body_leaves : (answer : HandleAnswer) (d : Datagram) (body : Body) (e : EndpointView) → Leaves e (after_body answer d body e)
unfolding after_body
body_leaves answer d (Note note) e = same e
body_leaves answer d (Between from to load) e = answer_leaves answer (life d.src from) (item_of load) e

-- what leaves the counts leaves the places for completions
leaves_places : (old new : EndpointView) → Leaves old new → places_of (Some new) ≡ places_of (Some old)
unfolding places_of cq_in
leaves_places old new l = let s = l.sends in let r = l.receives in let p = l.polled in rw (s, r, p) refl

-- what comes to a life takes no place for a completion
pub life_places : (o : Option EndpointView) (d : Datagram) → places_of (after_life o d) ≡ places_of o
unfolding after_life
life_places None d = refl
life_places (Some e) d = leaves_places e (after_body (body_answer e d d.body) d d.body e) (body_leaves (body_answer e d d.body) d d.body e)

-- the same, of the port
taken_places : (old new : Kept) (d : Datagram) (answer : Handled) → (answer ≡ life_answer old.endpoint d) × (new ≡ record old { endpoint = after_life old.endpoint d })
    → places_of new.endpoint ≡ places_of old.endpoint
taken_places old new d answer h = ap (λ (k : Kept). places_of k.endpoint) h.1 ∙ life_places old.endpoint d

-- what comes to a life does no instruction
pub takes_done : (old new : Kept) (d : Datagram) (answer : Handled) → TakesIn old new d answer → new.done ≡ old.done
takes_done old new d (H.Took entered) h = ap (λ (k : Kept). k.done) h.1
takes_done old new d (H.Dropped class') h = ap (λ (k : Kept). k.done) h.1
takes_done old new d H.AgainEarly h = ap (λ (k : Kept). k.done) h.1
takes_done old new d H.AgainCopy h = ap (λ (k : Kept). k.done) h.1
takes_done old new d H.Empty h = ap (λ (k : Kept). k.done) h.1
takes_done old new d H.Worn h = ap (λ (k : Kept). k.done) h.1
takes_done old new d H.Memory h = ap (λ (k : Kept). k.done) h

-- the answer to what comes to a life takes no place for a completion
pub takes_places : (old new : Kept) (d : Datagram) (answer : Handled) → TakesIn old new d answer → places_of new.endpoint ≡ places_of old.endpoint
takes_places old new d (H.Took entered) h = taken_places old new d (H.Took entered) h
takes_places old new d (H.Dropped class') h = taken_places old new d (H.Dropped class') h
takes_places old new d H.AgainEarly h = taken_places old new d H.AgainEarly h
takes_places old new d H.AgainCopy h = taken_places old new d H.AgainCopy h
takes_places old new d H.Empty h = taken_places old new d H.Empty h
takes_places old new d H.Worn h = taken_places old new d H.Worn h
takes_places old new d H.Memory h = ap (λ (k : Kept). places_of k.endpoint) h
