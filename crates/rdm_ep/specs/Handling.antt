-- What the handling of a datagram makes of an endpoint.
use Rattle.std.specs.Prelude.{◌≡◌, ℕ, ◌+◌, Bool, true, false, not, ◌&&◌, ◌||◌, ◌==◌, nat_lt, nat_le, if◌then◌else◌, List, [], ◌∷◌, ◌++◌, length, Option, Some, None, is_none, is_some, find, slice_get}
use Rattle.std.specs.List.{list_any}
use Rattle.rdm_lists.specs.Lists.{first_case}
use Rattle.rdm_num.specs.Lives.{life}
use Rattle.rdm_num.specs.declared.numbers.Life.{Life}
use Rattle.rdm_num.specs.declared.numbers.Connid.{Connid}
use Rattle.rdm_num.specs.declared.head.Head.{Head}
use Rattle.rdm_num.specs.declared.head.Shape.TheVariants as S
use Rattle.rdm_hdr.specs.declared.Opt.{Opt}
use Rattle.rdm_pkt.specs.declared.Packet.TheVariants.{Rtm, Handshake}
use Rattle.rdm_pkt.specs.declared.Form.{Form}
use Rattle.rdm_pkt.specs.declared.Form.TheVariants.{Eager}
use Rattle.rdm_pkt.specs.Heads.{head_of}
use Rattle.rdm_wire.specs.declared.Body.{Body}
use Rattle.rdm_wire.specs.declared.Body.TheVariants.{Note, Between}
use Rattle.rdm_wire.specs.declared.Datagram.{Datagram}
use Rattle.rdm_model.specs.declared.answer.Class.{Class}
use Rattle.rdm_model.specs.declared.answer.Class.TheVariants.{ToOther, FromOther, Malformed, Unknown, BadKey, NoOp, Mismatch, Overlap}
use Rattle.rdm_model.specs.Deeds.{Item, Spelled, Asks, item_of}
use Rattle.rdm_model.specs.Heads.{same_head}
use Rattle.rdm_model.specs.Sources.{is_other, is_malformed, has_raw}
use Rattle.rdm_ep.specs.declared.state.Inbound.{Inbound}
use Rattle.rdm_ep.specs.declared.answer.HandleAnswer.{HandleAnswer}
use Rattle.rdm_ep.specs.declared.answer.HandleAnswer.TheVariants.{Took, Dropped, AgainEarly, Memory}
use Rattle.rdm_ep.specs.View.{EndpointView, current_in}
use Rattle.rdm_ep.specs.Peers.{peer_in, with_peer, greeted_peer, known_peer}
use Rattle.rdm_ep.specs.Receiving.{takes}
use Rattle.rdm_ep.specs.Entering.{next_in, is_message, is_held_in, with_message, entered_by}

-- what the packet of a message said of it
abbrev pub inbound_head : Inbound → Head
inbound_head i = record { tag = i.tag; confirm = i.confirm; cq_data = i.cq_data; length = length i.bytes; shape = S.Eager }

-- the message is one of these, and its packet said something else
unfoldable pub is_other_message : List Inbound → Life → (number : ℕ) → Head → Bool
is_other_message messages from number head = list_any (λ (i : Inbound). is_message from number i && not (same_head (inbound_head i) head)) messages

-- the message waits or is held, and its packet said something else
abbrev pub has_other_head : EndpointView → Life → (number : ℕ) → Head → Bool
has_other_head v from number head = is_other_message v.arrived from number head || is_other_message v.held from number head

-- the whole message in one packet
unfoldable pub is_eager : Form → Bool
is_eager (Eager bytes) = true
is_eager _ = false

-- the class of a packet that opens a message. What is not built, a message in other than one packet or one that asks for a
-- receipt, is dropped as if it were no packet
unfoldable pub rtm_class : EndpointView → Life → (number : ℕ) → Head → Form → Option Class
rtm_class v from number head form =
    first_case
    ((has_other_head v from number head, Some Mismatch)
    ∷ (nat_lt number (next_in v from) || is_held_in v from number, Some Overlap)
    ∷ (head.confirm || not (is_eager form), Some Malformed)
    ∷ [])
    None

-- the class of what only a live operation can take, or of a packet
unfoldable pub load_class : EndpointView → Life → Item → Option Class
load_class v from (Spelled (Rtm number tag confirm opt form)) = rtm_class v from number.0 (head_of tag confirm opt form) form
load_class v from (Spelled (Handshake words connid raw)) = if is_some (peer_in v.peers from).known then Some Mismatch else None
load_class v from (Asks ask) = Some BadKey
load_class v from _ = Some NoOp

-- the first class that fits a datagram from one life to another
unfoldable pub item_class_in : EndpointView → Life → (to : Connid) → Item → Option Class
item_class_in v from to item =
    first_case
    ((not (v.own.life.connid.0 == to.0), Some ToOther)
    ∷ (is_other (current_in v from.port.0) from, Some FromOther)
    ∷ (is_malformed from item, Some Malformed)
    ∷ (is_none (current_in v from.port.0) && not (has_raw item), Some Unknown)
    ∷ [])
    (load_class v from item)

-- the message with its bytes
abbrev pub inbound : Life → (number : ℕ) → Option ℕ → (confirm : Bool) → Opt → List ℕ → Inbound
inbound from number tag confirm opt bytes = record { life = from; no = record { 0 = number }; tag = tag; confirm = confirm; cq_data = opt.cq_data; bytes = bytes }

-- a posted receive accepts the message
unfoldable pub is_met_in : EndpointView → Inbound → Bool
is_met_in v i = is_some (find (λ p. takes p i) v.posted)

-- as many messages wait, for a receive or for those before them, as may
unfoldable pub early_is_full : EndpointView → Bool
early_is_full v = nat_le v.own.limits.early (length v.arrived + length v.held)

-- the message is next, and a posted receive accepts it
unfoldable pub enters_at_once : EndpointView → Inbound → Bool
enters_at_once v i = (i.no.0 == next_in v i.life) && is_met_in v i

-- the message would wait, and as many wait as may
unfoldable pub needs_place_in : EndpointView → Life → Item → Bool
needs_place_in v from (Spelled (Rtm number tag confirm opt (Eager bytes))) = not (enters_at_once v (inbound from number.0 tag confirm opt bytes)) && early_is_full v
needs_place_in v from _ = false

-- what a taken datagram answers: the numbers that enter by it
unfoldable pub taken_in : EndpointView → Life → Item → HandleAnswer
taken_in v from (Spelled (Rtm number tag confirm opt (Eager bytes))) = Took (entered_by (number.0 == next_in v from) (inbound from number.0 tag confirm opt bytes) v.held)
taken_in v from _ = Took None

-- what a datagram answers, by its class
unfoldable pub class_answer_in : EndpointView → Life → Item → Option Class → HandleAnswer
class_answer_in v from item (Some class') = Dropped class'
class_answer_in v from item None = if needs_place_in v from item then AgainEarly else taken_in v from item

-- what the handling of a datagram from one life to another answers
unfoldable pub item_answer : EndpointView → Life → (to : Connid) → Item → HandleAnswer
item_answer v from to item = class_answer_in v from item (item_class_in v from to item)

-- the life is current, where no life of its port was
unfoldable pub with_source : Life → EndpointView → EndpointView
with_source from v = if is_none (current_in v from.port.0) then record v { currents = v.currents ++ from ∷ [] } else v

-- the first datagram from a life makes a handshake owed
unfoldable pub with_greeting : Life → EndpointView → EndpointView
with_greeting from v =
    if (peer_in v.peers from).greeted
    then v
    else record v { peers = with_peer greeted_peer from v.peers; owed = v.owed ++ from ∷ [] }

-- what was taken has its effect, where that number is the next one of its life
unfoldable pub with_item : (next : ℕ) → Life → Item → EndpointView → EndpointView
with_item next from (Spelled (Rtm number tag confirm opt (Eager bytes))) v = with_message (number.0 == next) (inbound from number.0 tag confirm opt bytes) v
with_item next from (Spelled (Handshake words connid raw)) v = record v { peers = with_peer (known_peer (slice_get words 0)) from v.peers }
with_item next from _ v = v

-- the endpoint after a datagram that was taken
unfoldable pub after_take : Life → Item → EndpointView → EndpointView
after_take from item v = with_item (next_in v from) from item (with_greeting from (with_source from v))

-- a datagram that was taken has its effect, and any other has none
unfoldable pub after_answer : HandleAnswer → Life → Item → EndpointView → EndpointView
after_answer (Took entered) from item v = after_take from item v
after_answer _ from item v = v

-- what the handling of a datagram answers; a note is none of the endpoint's
unfoldable pub body_answer : EndpointView → Datagram → Body → HandleAnswer
body_answer v d (Note note) = Took None
body_answer v d (Between from to load) = item_answer v (life d.src from) to (item_of load)

-- the endpoint after an answer to what a datagram has in it
unfoldable pub after_body : HandleAnswer → Datagram → Body → EndpointView → EndpointView
after_body answer d (Note note) v = v
after_body answer d (Between from to load) v = after_answer answer (life d.src from) (item_of load) v

-- the endpoint is as the answer to a datagram says
abbrev pub HandlesAs : EndpointView → EndpointView → Datagram → HandleAnswer → Type 0
HandlesAs old new d Memory = new ≡ old
HandlesAs old new d answer = (answer ≡ body_answer old d d.body) × (new ≡ after_body answer d d.body old)
