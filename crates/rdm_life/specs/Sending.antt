-- Sends that are accepted, granted, asked and answered, and what goes out.
use Rattle.std.specs.Prelude.{ℕ, ◌+◌, ◌-◌, min, Bool, false, not, ◌&&◌, ◌||◌, ◌==◌, nat_lt, nat_le, if◌then◌else◌, List, [], ◌∷◌, ◌++◌, length, take, drop, find, filter, map, flat_map, Option, Some, None, option_map, is_some, slice_get}
use Rattle.rdm_lists.specs.Lists.{or_else}
use Rattle.rdm_num.specs.Pieces.{piece_bytes}
use Rattle.rdm_num.specs.Lives.{same_life, op_id}
use Rattle.rdm_num.specs.declared.numbers.Life.{Life}
use Rattle.rdm_num.specs.declared.request.SendReq.{SendReq}
use Rattle.rdm_num.specs.declared.completion.Completion.{Completion}
use Rattle.rdm_num.specs.declared.completion.Completion.TheVariants.{Send}
use Rattle.rdm_pkt.specs.declared.Packet.{Packet}
use Rattle.rdm_pkt.specs.declared.Packet.TheVariants.{CtsData}
use Rattle.rdm_pkt.specs.declared.Kind.{Kind}
use Rattle.rdm_pkt.specs.declared.Kind.TheVariants.{LongCts}
use Rattle.rdm_pkt.specs.Openings.{openings}
use Rattle.rdm_wire.specs.declared.ReadAsk.{ReadAsk}
use Rattle.rdm_model.specs.Beginnings.{Own}
use Rattle.rdm_model.specs.Deeds.{Item, Spelled}
use Rattle.rdm_model.specs.Going.{Going, Goes}
use Rattle.rdm_model.specs.Dues.{pieces_in, is_read}
use Rattle.rdm_model.specs.Grants.{data_room}
use Rattle.rdm_model.specs.Replies.{Reply, given_of}
use Rattle.rdm_model.specs.Sends.{Sent, new_sent}
use Rattle.rdm_life.specs.Kept.{Kept, Peer, LiveSend, with_peer, change_where, is_send, send_numbered}
use Rattle.rdm_life.specs.Memory.{bytes_home}

-- how many bytes open a send's message
abbrev pub opening_bytes : Own → Sent → ℕ
opening_bytes own s = piece_bytes (pieces_in (openings own.limits s.message s.kind))

-- a send of which nothing was pushed
abbrev pub begun : Own → Sent → LiveSend
begun own s =
    record {
      sent = s;
      opened = 0;
      done = opening_bytes own s;
      allowed = opening_bytes own s;
      granted_by = None;
      was_asked = λ place. false;
      owes = 0;
    }

-- the next send, to that life
abbrev pub sent_in : Kept → SendReq → Life → Sent
sent_in v req to = new_sent v.own (v.peers to).known v.send_count (v.peers to).messages req to (bytes_home v req.parts)

-- after a send to a life was accepted
unfoldable pub send_to : SendReq → Option Life → Kept → Kept
send_to req None v = v
send_to req (Some to) v =
    record (with_peer to (λ (p : Peer). record p { messages = p.messages + 1 }) v) {
      sends = v.sends ++ begun v.own (sent_in v req to) ∷ [];
      send_count = v.send_count + 1;
    }

-- a send goes to the current life of its port
abbrev pub after_send : SendReq → Kept → Kept
after_send req v = send_to req (v.current req.to.0) v

-- ---- what goes out

-- the next granted bytes of a send
unfoldable pub data_next : Own → LiveSend → Option ℕ → Option Packet
data_next own s None = None
data_next own s (Some recv) =
    if nat_lt s.done s.allowed
    then Some (CtsData (op_id recv) s.done own.life.connid (take (min (s.allowed - s.done) (data_room own.limits)) (drop s.done s.sent.message.bytes)))
    else None

-- granted bytes of a send by grants
unfoldable pub granted_next : Own → LiveSend → Kind → Option Packet
granted_next own s LongCts = data_next own s s.granted_by
granted_next own s _ = None

-- the first opening of a send that was not pushed, or the next of its granted bytes
unfoldable pub packet_next : Own → LiveSend → Option Packet
packet_next own s = or_else (slice_get (openings own.limits s.sent.message s.sent.kind) s.opened) (granted_next own s s.sent.kind)

-- the live send with the least number that has something to push
abbrev pub send_next : Kept → Option LiveSend
send_next v = find (λ (s : LiveSend). is_some (packet_next v.own s)) v.sends

-- what a send sends to its life
unfoldable pub item_of_send : Own → LiveSend → Option Packet → Option (Life × Item)
item_of_send own s None = None
item_of_send own s (Some p) = Some (s.sent.to, Spelled p)

-- what that send sends, if there is one
unfoldable pub item_of_found : Own → Option LiveSend → Option (Life × Item)
item_of_found own None = None
item_of_found own (Some s) = item_of_send own s (packet_next own s)

-- the first reply, or what the sends have
unfoldable pub first_of : Option Reply → Option (Life × Item) → Option (Life × Item)
first_of None others = others
first_of (Some r) others = Some (r.to, r.item)

-- what goes out next, and to which life
unfoldable pub goes_out : Kept → Option (Life × Item)
goes_out v = first_of (slice_get v.owed 0) (item_of_found v.own (send_next v))

-- the same as it goes from a port
abbrev pub going_to : Option (Life × Item) → Option Going
going_to o = option_map (λ (x : Life × Item). Goes x.0 x.1) o

-- ---- what a push leaves

-- every opening was pushed
abbrev pub is_opened : Own → LiveSend → Bool
is_opened own s = nat_le (length (openings own.limits s.sent.message s.sent.kind)) s.opened

-- the whole message was pushed
abbrev pub is_sent : Own → LiveSend → Bool
is_sent own s = is_opened own s && s.done == length s.sent.message.bytes

-- one packet more was pushed
unfoldable pub pushed : Own → LiveSend → LiveSend
pushed own s =
    if is_opened own s then record s { done = s.done + min (s.allowed - s.done) (data_room own.limits) } else record s { opened = s.opened + 1 }

-- a send that neither its receiver ends nor a receipt is over once it was pushed
abbrev pub ends_by_push : Own → LiveSend → Bool
ends_by_push own s = not (is_read s.sent.kind) && not s.sent.message.confirm && is_sent own s

-- a packet of a send went out: it has come further, or it is over
unfoldable pub after_packet : Own → LiveSend → List LiveSend
after_packet own s = if ends_by_push own (pushed own s) then [] else pushed own s ∷ []

-- the completion of a send that is over, of which a packet went out
unfoldable pub completion_of_send : Own → LiveSend → List Completion
completion_of_send own s = if ends_by_push own (pushed own s) then Send (record { 0 = s.sent.number }) false ∷ [] else []

-- a packet of that send went out, where there is one
unfoldable pub push_send : Option LiveSend → Kept → Kept
push_send None v = v
push_send (Some s) v =
    record v {
      sends = flat_map (λ (t : LiveSend). if is_send s.sent.number t then after_packet v.own t else t ∷ []) v.sends;
      completions = v.completions ++ completion_of_send v.own s;
    }

-- an answer of a send went out
abbrev pub with_answer : LiveSend → LiveSend
with_answer s = record s { owes = s.owes - 1 }

-- the send has the number that a reply gives bytes of, if it gives any
unfoldable pub gives_of : Option ℕ → LiveSend → Bool
gives_of None s = false
gives_of (Some number) s = is_send number s

-- a reply went out, or else a packet of a send
unfoldable pub push_first : Option Reply → Kept → Kept
push_first None v = push_send (send_next v) v
push_first (Some r) v = record v { owed = drop 1 v.owed; sends = change_where (gives_of r.gives) with_answer v.sends }

-- what was next went out
abbrev pub after_push : Kept → Kept
after_push v = push_first (slice_get v.owed 0) v

-- ---- what comes for a send

-- its receiver grants so many bytes more
abbrev pub with_grant : (recv size : ℕ) → LiveSend → LiveSend
with_grant recv size s = record s { allowed = s.allowed + size; granted_by = or_else s.granted_by (Some recv) }

-- after a grant
unfoldable pub after_grant : (send recv size : ℕ) → Kept → Kept
after_grant send recv size v = record v { sends = change_where (is_send send) (with_grant recv size) v.sends }

-- the place was asked for
unfoldable pub is_asked : ReadAsk → (place : ℕ) → Bool
is_asked ask place = nat_le ask.at place && nat_lt place (ask.at + ask.length)

-- it was asked for those places, and owes an answer
abbrev pub with_ask : ReadAsk → LiveSend → LiveSend
with_ask ask s = record s { was_asked = λ place. s.was_asked place || is_asked ask place; owes = s.owes + 1 }

-- an ask is answered by those bytes of the message of its send
unfoldable pub after_ask : Life → ReadAsk → Kept → Kept
after_ask from ask v =
    record v {
      sends = change_where (is_send ask.send_id.0) (with_ask ask) v.sends;
      owed = v.owed ++ given_of from ask (option_map (λ (s : LiveSend). s.sent) (send_numbered v ask.send_id.0));
    }

-- the send is of the message of that number to that life
abbrev pub is_send_of : Life → (number : ℕ) → LiveSend → Bool
is_send_of to number s = same_life s.sent.to to && s.sent.message.no.0 == number

-- the sends that pass are over
unfoldable pub end_sends : (LiveSend → Bool) → Kept → Kept
end_sends test v =
    record v {
      sends = filter (λ (s : LiveSend). not (test s)) v.sends;
      completions = v.completions ++ map (λ (s : LiveSend). Send (record { 0 = s.sent.number }) false) (filter test v.sends);
    }
