-- Which messages enter by one that came: it, where it is the next one of its life, and those that were held for it.
use Rattle.std.specs.Prelude.{ℕ, zero, suc, ◌+◌, Bool, ◌&&◌, ◌||◌, ◌==◌, nat_le, nat_lt, if◌then◌else◌, List, [], ◌∷◌, ◌++◌, length, Option, Some, None, find, is_some}
use Rattle.std.specs.List.{list_any}
use Rattle.rdm_lists.specs.Lists.{without_first}
use Rattle.rdm_num.specs.Lives.{same_life}
use Rattle.rdm_num.specs.declared.numbers.Life.{Life}
use Rattle.rdm_model.specs.declared.answer.Entered.{Entered}
use Rattle.rdm_ep.specs.declared.state.Inbound.{Inbound}
use Rattle.rdm_ep.specs.View.{EndpointView}
use Rattle.rdm_ep.specs.Peers.{peer_in, with_peer, entered_peer}
use Rattle.rdm_ep.specs.Meeting.{meeting_of, with_meeting, after_arrivals}

-- the number of the next message of a life: the least one that was not heard of
abbrev pub next_in : EndpointView → Life → ℕ
next_in v from = v.own.limits.first + (peer_in v.peers from).entered

-- the message is that one
abbrev pub is_message : Life → ℕ → Inbound → Bool
is_message from n i = same_life i.life from && i.no.0 == n

-- the message is held for those before it
unfoldable pub is_held_in : EndpointView → Life → ℕ → Bool
is_held_in v from n = list_any (is_message from n) v.held

-- the number was heard of: it has entered, or its message is held
unfoldable pub is_heard_in : EndpointView → Life → ℕ → Bool
is_heard_in v from n = (nat_le v.own.limits.first n && nat_lt n (next_in v from)) || is_held_in v from n

-- the message that is held under a number
abbrev pub held_at : List Inbound → Life → ℕ → Option Inbound
held_at held from n = find (is_message from n) held

-- a message before others, or none at all
unfoldable pub message_then : Option Inbound → List Inbound → List Inbound
message_then None rest = []
message_then (Some i) rest = i ∷ rest

-- the held messages of a life that follow one another from a number on, at most so many
unfoldable pub following : (most : ℕ) → List Inbound → Life → ℕ → List Inbound
following zero held from n = []
following (suc most) held from n = message_then (held_at held from n) (following most (without_first (is_message from n) held) from (n + 1))

-- the messages that stay held
unfoldable pub left_held : (most : ℕ) → List Inbound → Life → ℕ → List Inbound
left_held zero held from n = held
left_held (suc most) held from n =
    if is_some (held_at held from n) then left_held most (without_first (is_message from n) held) from (n + 1) else held

-- a message that is next enters with the held ones that follow it
abbrev pub entering_by : Inbound → List Inbound → List Inbound
entering_by i held = i ∷ following (length held) held i.life (i.no.0 + 1)

-- and these stay held
abbrev pub left_by : Inbound → List Inbound → List Inbound
left_by i held = left_held (length held) held i.life (i.no.0 + 1)

-- the endpoint after a message that is next
unfoldable pub with_next : Inbound → EndpointView → EndpointView
with_next i v =
    with_meeting (after_arrivals (meeting_of v) (entering_by i v.held))
    (record v { held = left_by i v.held; peers = with_peer (entered_peer (length (entering_by i v.held))) i.life v.peers })

-- the endpoint after a message that comes before it is next
unfoldable pub with_ahead : Inbound → EndpointView → EndpointView
with_ahead i v = record v { held = v.held ++ i ∷ [] }

-- the endpoint after a message that is next, or is not
unfoldable pub with_message : (is_next : Bool) → Inbound → EndpointView → EndpointView
with_message is_next i v = if is_next then with_next i v else with_ahead i v

-- the numbers that enter by a message
unfoldable pub entered_by : (is_next : Bool) → Inbound → List Inbound → Option Entered
entered_by is_next i held = if is_next then Some (record { first = i.no; count = length (entering_by i held) }) else None
