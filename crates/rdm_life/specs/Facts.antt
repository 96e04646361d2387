-- What answers and classes depend on, as it is kept.
use Rattle.std.specs.Prelude.{ℕ, ◌+◌, ◌-◌, if◌then◌else◌, List, [], Bool, true, false, not, ◌&&◌, ◌||◌, ◌==◌, nat_lt, nat_le, length, find, Option, Some, None, option_map, is_some}
use Rattle.std.specs.List.{list_any}
use Rattle.rdm_lists.specs.Lists.{each_below}
use Rattle.rdm_num.specs.Lives.{same_life}
use Rattle.rdm_num.specs.Pieces.{overlaps}
use Rattle.rdm_num.specs.declared.numbers.Life.{Life}
use Rattle.rdm_num.specs.declared.parts.Span.{Span}
use Rattle.rdm_num.specs.declared.head.Head.{Head}
use Rattle.rdm_wire.specs.declared.ReadAsk.{ReadAsk}
use Rattle.rdm_match.specs.declared.PostedRecv.{PostedRecv}
use Rattle.rdm_match.specs.Matcher.{accepts, is_recv}
use Rattle.rdm_model.specs.ClassFacts.{ClassFacts}
use Rattle.rdm_model.specs.Dues.{is_read}
use Rattle.rdm_model.specs.Facts.{Facts}
use Rattle.rdm_model.specs.Takes.{PlaceFacts}
use Rattle.rdm_model.specs.Targets.{is_long, is_long_shape, is_read_shape, read_from, is_in_iov}
use Rattle.rdm_life.specs.Kept.{Kept, EarlyMessage, LiveSend, LiveReceive, Matched}
use Rattle.rdm_life.specs.Sending.{is_sent, is_send_of}
use Rattle.rdm_life.specs.Handling.{receive_of, opened_by}
use Rattle.rdm_life.specs.Receiving.{numbers_in, hear}
use Rattle.rdm_pkt.specs.declared.Packet.TheVariants.{Rtm}
use Rattle.rdm_pkt.specs.Heads.{head_of}
use Rattle.rdm_model.specs.Deeds.{Item, Spelled}

-- the range shares a place with that of a live receive
unfoldable pub meets_receive_in : Kept → (region at len : ℕ) → Bool
meets_receive_in v region at len =
    list_any (λ (r : LiveReceive). r.receive.req.region.0 == region && overlaps at len r.receive.req.at r.receive.req.len) v.receives

-- the range shares a place with one of a live send
unfoldable pub meets_send_in : Kept → (region at len : ℕ) → Bool
meets_send_in v region at len =
    list_any (λ (s : LiveSend). list_any (λ (p : Span). p.region.0 == region && overlaps at len p.at p.len) s.sent.req.parts) v.sends

-- what answers depend on
abbrev pub facts_in : Kept → Facts
facts_in v =
    record {
      own = v.own;
      region_count = v.region_count;
      region_size = v.region_size;
      meets_receive = λ region at len. meets_receive_in v region at len;
      meets_send = λ region at len. meets_send_in v region at len;
      current = v.current;
      known = λ life. (v.peers life).known;
      is_superseded = v.superseded;
      sends = v.send_count;
      receives = v.receive_count;
      messages_to = λ life. (v.peers life).messages;
      polls = v.poll_count;
      tx = length v.sends;
      rx = length v.receives;
      cq = v.send_count + v.receive_count - v.poll_count;
      is_posted = λ recv. is_some (find (is_recv recv) v.posted);
    }

-- ---- of a message

-- the head of a message that a receive takes, if there is one
unfoldable pub head_in_receive : Option LiveReceive → Option Head
head_in_receive None = None
head_in_receive (Some r) = option_map (λ (m : Matched). m.head) r.matched

-- the head of an early message, or of one that a receive takes
unfoldable pub head_or_matched : Option EarlyMessage → Option LiveReceive → Option Head
head_or_matched (Some e) r = Some e.head
head_or_matched None r = head_in_receive r

-- some bytes of a message of that length came already or lie outside it
unfoldable pub came_or_outside : (came : ℕ → Bool) → (size offset len : ℕ) → Bool
came_or_outside came size offset len = not (nat_le (offset + len) size && each_below (λ k. not (came (offset + k))) len)

-- the same of a message that a receive takes; one that no receive takes any more has all its bytes
unfoldable pub came_in_matched : Option Matched → (offset len : ℕ) → Bool
came_in_matched None offset len = true
came_in_matched (Some m) offset len = came_or_outside m.came m.head.length offset len

-- the same of a live receive
unfoldable pub came_in_receive : Option LiveReceive → (offset len : ℕ) → Bool
came_in_receive None offset len = true
came_in_receive (Some r) offset len = came_in_matched r.matched offset len

-- the same of an early message, or of one that a receive takes
unfoldable pub came_in_early : Option EarlyMessage → Option LiveReceive → (offset len : ℕ) → Bool
came_in_early (Some e) r offset len = came_or_outside (λ place. is_some (e.came place)) e.head.length offset len
came_in_early None r offset len = came_in_receive r offset len

-- ---- of live operations

-- the send, where it goes to that life
unfoldable pub send_to_life : Kept → Life → (number : ℕ) → Option LiveSend
send_to_life v to number = find (λ (s : LiveSend). same_life s.sent.to to && s.sent.number == number) v.sends

-- there is a send, and it passes
unfoldable pub send_passes : (LiveSend → Bool) → Option LiveSend → Bool
send_passes test None = false
send_passes test (Some s) = test s

-- the number is there, and is another one
unfoldable pub is_other_number : ℕ → Option ℕ → Bool
is_other_number n None = false
is_other_number n (Some m) = not (m == n)

-- a grant of more than what is not granted, or for another receive than before
unfoldable pub is_wrong_for : (recv size : ℕ) → LiveSend → Bool
is_wrong_for recv size s = nat_lt (length s.sent.message.bytes - s.allowed) size || is_other_number recv s.granted_by

-- the ask is for places that are to be read and were not asked for, where the read list has them
unfoldable pub may_be_asked_by : ReadAsk → LiveSend → Bool
may_be_asked_by a s =
    is_read s.sent.kind && nat_lt 0 a.length && nat_le (read_from s.sent.kind) a.at && each_below (λ k. not (s.was_asked (a.at + k))) a.length
    && is_in_iov a 0 s.sent.message.iov

-- some place that is to be read was not asked for, or some answer was not pushed
unfoldable pub ends_early : LiveSend → Bool
ends_early s =
    not (each_below (λ place. nat_lt place (read_from s.sent.kind) || s.was_asked place) (length s.sent.message.bytes)) || nat_lt 0 s.owes

-- the message is of that life
unfoldable pub is_of : Life → Option Matched → Bool
is_of life None = false
is_of life (Some m) = same_life m.source life

-- the receive of that number, where it was matched to a message of that life
unfoldable pub receive_from : Kept → Life → (recv : ℕ) → Option LiveReceive
receive_from v source recv = find (λ (r : LiveReceive). r.receive.number == recv && is_of source r.matched) v.receives

-- there is a message, and it passes
unfoldable pub passes : (Matched → Bool) → Option Matched → Bool
passes test None = false
passes test (Some m) = test m

-- there is a receive with a message that passes
unfoldable pub matched_passes : (Matched → Bool) → Option LiveReceive → Bool
matched_passes test None = false
matched_passes test (Some r) = passes test r.matched

-- what the class of a datagram depends on
abbrev pub class_facts_in : Kept → ClassFacts
class_facts_in v =
    record {
      now = Some v.own.life.connid;
      first = v.own.limits.first;
      current = v.current;
      known = λ life. (v.peers life).known;
      head = λ source number. head_or_matched (v.early source number) (receive_of v source number);
      is_heard = λ source number. (v.peers source).heard number;
      came_in_part = λ source number offset len. came_in_early (v.early source number) (receive_of v source number) offset len;
      takes_grants = λ to send. send_passes (λ (s : LiveSend). is_long s.sent.kind) (send_to_life v to send);
      takes_end = λ to send. send_passes (λ (s : LiveSend). is_read s.sent.kind) (send_to_life v to send);
      takes_receipt = λ to number. send_passes (λ (s : LiveSend). s.sent.message.confirm && not (is_read s.sent.kind)) (find (is_send_of to number) v.sends);
      may_be_asked = λ to ask. send_passes (may_be_asked_by ask) (send_to_life v to ask.send_id.0);
      is_wrong_grant = λ to send recv size. send_passes (is_wrong_for recv size) (send_to_life v to send);
      is_early_end = λ to send. send_passes ends_early (send_to_life v to send);
      is_early_receipt = λ to number. send_passes (λ (s : LiveSend). not (is_sent v.own s)) (find (is_send_of to number) v.sends);
      takes_granted = λ source recv. matched_passes (λ (m : Matched). is_long_shape m.head.shape) (receive_from v source recv);
      takes_read = λ source recv. matched_passes (λ (m : Matched). is_read_shape m.head.shape) (receive_from v source recv);
      passes_grants = λ source recv end'. matched_passes (λ (m : Matched). nat_lt m.granted end') (receive_from v source recv);
      came_in_part_of = λ source recv offset len. matched_passes (λ (m : Matched). came_or_outside m.came m.head.length offset len) (receive_from v source recv);
    }

-- ---- early places

-- the message is next, and a posted receive accepts it
unfoldable pub is_met_in : Kept → Life → (number : ℕ) → Option ℕ → Bool
is_met_in v from number tag =
    (v.peers from).next == number
    && list_any (λ (r : PostedRecv). accepts r (record { life = from; no = record { 0 = number }; tag = tag })) v.posted

-- what it depends on whether a datagram has to wait
abbrev pub place_facts_in : Kept → PlaceFacts
place_facts_in v =
    record {
      is_heard = λ source number. (v.peers source).heard number;
      is_met = λ source number tag. is_met_in v source number tag;
      is_full = nat_le v.own.limits.early v.early_count;
    }

-- the numbers that enter by what is taken from a life: a new message lets all enter that were heard of, up to the first number that was not
unfoldable pub entered_in : Kept → Life → Item → List ℕ
entered_in v from (Spelled (Rtm number tag confirm opt form)) =
    if (v.peers from).heard number.0 then [] else numbers_in (hear from number.0 (opened_by (head_of tag confirm opt form) form) v) from
entered_in v from _ = []
