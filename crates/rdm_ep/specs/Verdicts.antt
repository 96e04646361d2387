-- What an endpoint decides on what came, and what the decision makes of it.
use Rattle.std.specs.Prelude.{◌≡◌, ℕ, Bool, not, ◌&&◌, if◌then◌else◌, List, [], ◌∷◌, ◌++◌, Option, Some, None, is_none, find, slice_get, ◌==◌}
use Rattle.rdm_lists.specs.Lists.{first_case}
use Rattle.rdm_num.specs.declared.numbers.Life.{Life}
use Rattle.rdm_num.specs.declared.numbers.Connid.{Connid}
use Rattle.rdm_pkt.specs.declared.Packet.TheVariants.{Rtm, Handshake}
use Rattle.rdm_pkt.specs.declared.Form.TheVariants.{Eager}
use Rattle.rdm_model.specs.declared.answer.Class.{Class}
use Rattle.rdm_model.specs.declared.answer.Class.TheVariants.{Malformed, Unknown}
use Rattle.rdm_model.specs.Deeds.{Item, Spelled}
use Rattle.rdm_model.specs.Sources.{is_malformed, has_raw}
use Rattle.rdm_ep.specs.declared.state.Peer.{Peer}
use Rattle.rdm_ep.specs.declared.state.Inbound.{Inbound}
use Rattle.rdm_ep.specs.declared.state.Verdict.{Verdict}
use Rattle.rdm_ep.specs.declared.state.Verdict.TheVariants.{Refuse, Message, Features}
use Rattle.rdm_ep.specs.declared.answer.HandleAnswer.{HandleAnswer}
use Rattle.rdm_ep.specs.declared.answer.HandleAnswer.TheVariants.{Took, Dropped, AgainEarly, Memory}
use Rattle.rdm_ep.specs.View.{EndpointView, current_in}
use Rattle.rdm_ep.specs.Peers.{peer_in, with_peer, greeted_peer, known_peer}
use Rattle.rdm_ep.specs.Entering.{next_in, with_message, entered_by}
use Rattle.rdm_ep.specs.Handling.{load_class, item_class_in, inbound, early_is_full, enters_at_once, with_source, with_greeting}

-- what is taken: a message in one packet, or a handshake
unfoldable pub accepted_of : Life → Item → Verdict
accepted_of from (Spelled (Rtm number tag confirm opt (Eager bytes))) = Message (inbound from number.0 tag confirm opt bytes)
accepted_of from (Spelled (Handshake words connid raw)) = Features (slice_get words 0)
accepted_of from _ = Refuse Malformed

-- what has a class is refused
unfoldable pub verdict_of : Life → Item → Option Class → Verdict
verdict_of from item (Some class') = Refuse class'
verdict_of from item None = accepted_of from item

-- what an endpoint decides on a datagram from one life to another
unfoldable pub verdict_in : EndpointView → Life → (to : Connid) → Item → Verdict
verdict_in v from to item = verdict_of from item (item_class_in v from to item)

-- the class of what is for this life, from a life whose port has no other one
unfoldable pub known_class : EndpointView → Life → Item → Option Class
known_class v from item =
    first_case
    ((is_malformed from item, Some Malformed)
    ∷ (is_none (current_in v from.port.0) && not (has_raw item), Some Unknown)
    ∷ [])
    (load_class v from item)

-- what an endpoint decides on that
unfoldable pub known_verdict : EndpointView → Life → Item → Verdict
known_verdict v from item = verdict_of from item (known_class v from item)

-- a message that came from a life is one of that life
abbrev pub IsFrom : Life → Verdict → Type 0
IsFrom from (Message i) = i.life ≡ from
IsFrom from _ = Unit {0}

-- the message would wait, and as many wait as may
unfoldable pub waits_in : EndpointView → Inbound → Bool
waits_in v i = not (enters_at_once v i) && early_is_full v

-- the message is the next one of its life
abbrev pub is_next_in : EndpointView → Inbound → Bool
is_next_in v i = i.no.0 == next_in v i.life

-- what a decision answers
unfoldable pub verdict_answer : EndpointView → Verdict → HandleAnswer
verdict_answer v (Refuse class') = Dropped class'
verdict_answer v (Message i) = if waits_in v i then AgainEarly else Took (entered_by (is_next_in v i) i v.held)
verdict_answer v (Features word) = Took None

-- the features of a life are known
unfoldable pub with_features : Life → Option ℕ → EndpointView → EndpointView
with_features from word v = record v { peers = with_peer (known_peer word) from v.peers }

-- what a decision makes of the endpoint
unfoldable pub verdict_effect : Life → Verdict → EndpointView → EndpointView
verdict_effect from (Refuse class') v = v
verdict_effect from (Message i) v = with_message (is_next_in v i) i (with_greeting from (with_source from v))
verdict_effect from (Features word) v = with_features from word (with_greeting from (with_source from v))

-- the endpoint is as the answer to a decision says
abbrev pub VerdictAs : EndpointView → EndpointView → Life → Verdict → HandleAnswer → Type 0
VerdictAs old new from verdict Memory = new ≡ old
VerdictAs old new from verdict (Took entered) = (Took entered ≡ verdict_answer old verdict) × (new ≡ verdict_effect from verdict old)
VerdictAs old new from verdict answer = (answer ≡ verdict_answer old verdict) × (new ≡ old)

-- the current lives, with a life where none of its port was current
unfoldable pub currents_with : Life → List Life → List Life
currents_with from currents = if is_none (find (λ (l : Life). l.port.0 == from.port.0) currents) then currents ++ from ∷ [] else currents

-- what is known of lives, where a datagram of that one was taken
unfoldable pub peers_with : Life → List Peer → List Peer
peers_with from peers = if (peer_in peers from).greeted then peers else with_peer greeted_peer from peers

-- the lives that are owed a handshake: the first datagram of a life makes one owed
unfoldable pub owed_with : Life → List Peer → List Life → List Life
owed_with from peers owed = if (peer_in peers from).greeted then owed else owed ++ from ∷ []
