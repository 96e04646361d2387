-- The places for completions that pushes and polls leave taken.
use Rattle.std.proofs.Common.{◌≡◌, ◌≤◌, ℕ, ◌+◌, ◌-◌, List, [], ◌∷◌, Option, Some, None, refl, arith}
use Rattle.std.specs.Prelude.{option_map, slice_get}
use Rattle.rdm_num.specs.declared.numbers.Life.{Life}
use Rattle.rdm_num.specs.declared.completion.Completion.{Completion}
use Rattle.rdm_wire.specs.declared.Body.{Body}
use Rattle.rdm_wire.specs.declared.Body.TheVariants.{Note, Between}
use Rattle.rdm_ep.specs.declared.state.Outbound.{Outbound}
use Rattle.rdm_ep.specs.View.{EndpointView, cq_in}
use Rattle.rdm_ep.specs.Going.{after_outgoing, sent_by, after_sent, polled_by, after_poll}
use Rattle.rdm_port.specs.Kept.{Kept, places_of}
use Rattle.rdm_port.specs.Machine.{after_went, completion_in}

-- a push of a send leaves the places of its endpoint
outgoing_places : (e : EndpointView) (os : List Outbound) → cq_in (after_outgoing e os) ≡ cq_in e
unfolding after_outgoing cq_in
outgoing_places e [] = refl
outgoing_places e (o ∷ os) = refl

-- a push leaves the places of its endpoint
sent_places : (e : EndpointView) (ls : List Life) → cq_in (sent_by e ls) ≡ cq_in e
unfolding sent_by cq_in
sent_places e [] = outgoing_places e e.outgoing
sent_places e (l ∷ ls) = refl

-- a push of the open life leaves the places
life_places : (o : Option EndpointView) → places_of (option_map after_sent o) ≡ places_of o
unfolding places_of after_sent
life_places None = refl
life_places (Some e) = sent_places e e.owed

-- a push leaves the places
pub went_places : (body : Body) (k : Kept) → places_of (after_went body k).endpoint ≡ places_of k.endpoint
unfolding after_went
went_places (Note note) k = refl
went_places (Between from to load) k = life_places k.endpoint

-- a push does no instruction
pub went_done : (body : Body) (k : Kept) → (after_went body k).done ≡ k.done
unfolding after_went
went_done (Note note) k = refl
went_done (Between from to load) k = refl

-- a poll of an endpoint gives a place back
polled_place : (e : EndpointView) (cs : List Completion) (c : Completion) → slice_get cs 0 ≡ Some c → cq_in (polled_by e cs) ≡ cq_in e - 1
unfolding polled_by cq_in
polled_place e [] c q = cc
polled_place e (x ∷ xs) c q = omega arith

-- a poll gives a place back
pub polled_places : (o : Option EndpointView) (c : Completion) → completion_in o ≡ Some c → places_of (option_map after_poll o) ≡ places_of o - 1
unfolding places_of completion_in after_poll
polled_places None c q = cc
polled_places (Some e) c q = polled_place e e.completions c q

-- where there was room for all entries that must not want memory and for one more, there is room for them once that one is made
pub room_left : (all places places' done done' room room' : ℕ) → places' ≡ places → done' ≡ done → places + (all - done) + 1 ≤ room → room' + 1 ≡ room → places' + (all - done') ≤ room'
room_left all places places' done done' room room' e d h r = omega arith
