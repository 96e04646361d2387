-- What each call of a live send comes to, in the words of an endpoint's record.
use Rattle.std.specs.Prelude.{◌≡◌, ◌↔◌, ℕ, ◌+◌, ◌<◌, Bool, true, false, not, ◌&&◌, if◌then◌else◌, IsTrue, List, [], ◌∷◌, ◌++◌, Some, is_some, IfSome, slice_get, None}
use Rattle.rdm_num.specs.Lives.{same_life, op_id}
use Rattle.rdm_num.specs.declared.numbers.Life.{Life}
use Rattle.rdm_num.specs.declared.request.SendReq.{SendReq}
use Rattle.rdm_num.specs.declared.completion.Completion.TheVariants.{Send}
use Rattle.rdm_pkt.specs.declared.Packet.{Packet}
use Rattle.rdm_wire.specs.declared.ReadAsk.{ReadAsk}
use Rattle.rdm_model.specs.Beginnings.{Own}
use Rattle.rdm_model.specs.Deeds.{Spelled, Gives}
use Rattle.rdm_model.specs.Dues.{is_read}
use Rattle.rdm_model.specs.Going.{Goes}
use Rattle.rdm_model.specs.Replies.{given_of}
use Rattle.rdm_model.specs.Targets.{is_long}
use Rattle.rdm_tx.specs.Asks.{with_room, with_reserved_ask, with_answer}
use Rattle.rdm_tx.specs.Sends.{part}
use Rattle.rdm_life.specs.Kept.{Kept, LiveSend}
use Rattle.rdm_life.specs.Facts.{is_wrong_for, may_be_asked_by, ends_early}
use Rattle.rdm_life.specs.Sending as life
use Rattle.rdm_sends.specs.declared.begin.Own.{Own as Sender}
use Rattle.rdm_sends.specs.declared.begin.Place.{Place}
use Rattle.rdm_sends.specs.Beginning.{new_sending}
use Rattle.rdm_sends.specs.Sending.{SendingView}
use Rattle.rdm_sends.specs.Pushing.{span_next, packet_next, is_sent, HasNext, IsPacketNext, IsPushed, EndsByPush}
use Rattle.rdm_sends.specs.Coming.{may_grant, with_grant, TakesAsk, OwesAnswer, with_asks, ends_early_by, is_confirmed, given_span}
use Rattle.rdm_sent.specs.Shows.{IsSend}

-- ---- what it begins as

-- the life that sends, as a call is told of it
abbrev pub sender : Own → Sender
sender own = record { life = own.life; features = own.features; limits = own.limits }

-- where the next send to that life goes, and the numbers of the send and of its message
abbrev pub place_in : Kept → (to : Life) → Place
place_in v to =
    record { to = to; known = (v.peers to).known; number = op_id v.send_count; no = record { 0 = v.own.limits.first + (v.peers to).messages } }

-- a new send to the current life of its port is what the record has last of its sends then
abbrev pub BeginsAsKept : Type 0
BeginsAsKept =
    (v : Kept) (req : SendReq) (to : Life)
    → v.current req.to.0 ≡ Some to
    → (s : LiveSend) × ((life.after_send req v).sends ≡ v.sends ++ s ∷ []) × IsSend (new_sending (sender v.own) (place_in v to) req) s

-- ---- what goes out of it

-- its next packet is the record's, and it has one where the record's send has
abbrev pub NextIsKept : Type 0
NextIsKept =
    (own : Own) (x : SendingView) (s : LiveSend) (next : Bool)
    → IsSend x s
    → HasNext own.limits x next
    → (packet_next own.life.connid own.limits x s.sent.message.bytes ≡ life.packet_next own s) × (next ≡ is_some (life.packet_next own s))

-- where no reply is owed, and it is the first that has something to push, the packet made of the bytes at its span goes to its life
abbrev pub GoesOut : Type 0
GoesOut =
    (v : Kept) (x : SendingView) (s : LiveSend) (piece : List ℕ) (p : Packet)
    → slice_get v.owed 0 ≡ None
    → life.send_next v ≡ Some s
    → IsSend x s
    → IfSome (span_next v.own.limits x s.sent.message.bytes) (λ t. piece ≡ part t s.sent.message.bytes)
    → IsPacketNext v.own.life.connid v.own.limits x piece (Some p)
    → life.going_to (life.goes_out v) ≡ Some (Goes x.to (Spelled p))

-- once its packet was pushed it is what the record makes of it, and over where the record drops and completes it
abbrev pub PushesAsKept : Type 0
PushesAsKept =
    (own : Own) (x y : SendingView) (s : LiveSend) (over : Bool)
    → IsSend x s
    → IsPushed own.limits x y
    → EndsByPush own.limits y over
    → IsSend y (life.pushed own s)
    × (life.after_packet own s ≡ (if over then [] else life.pushed own s ∷ []))
    × (life.completion_of_send own s ≡ (if over then Send (record { 0 = y.message.send_id.0 }) false ∷ [] else []))

-- ---- what comes for it

-- it takes a grant where the record's is granted and the grant is not wrong for it
abbrev pub MayBeGranted : Type 0
MayBeGranted = (x : SendingView) (s : LiveSend) (recv size : ℕ) → IsSend x s → may_grant recv size x ≡ (is_long s.sent.kind && not (is_wrong_for recv size s))

-- and then is what the record makes of it
abbrev pub GrantsAsKept : Type 0
GrantsAsKept =
    (x : SendingView) (s : LiveSend) (recv size : ℕ)
    → IsSend x s
    → IsTrue (may_grant recv size x)
    → IsSend (with_grant recv size x) (life.with_grant recv size s)

-- it may be asked for what the record's may
abbrev pub MayBeAsked : Type 0
MayBeAsked = (x : SendingView) (s : LiveSend) (ask : ReadAsk) → IsSend x s → TakesAsk ask x.protocol ↔ IsTrue (may_be_asked_by ask s)

-- room for an ask changes nothing of the record
abbrev pub RoomIsKept : Type 0
RoomIsKept = (x : SendingView) (s : LiveSend) → IsSend x s → IsSend (with_asks with_room x) s

-- an ask makes of it what the record does
abbrev pub AsksAsKept : Type 0
AsksAsKept =
    (x : SendingView) (s : LiveSend) (ask : ReadAsk)
    → IsSend x s
    → TakesAsk ask x.protocol
    → IsSend (with_asks (λ a. with_reserved_ask a ask) x) (life.with_ask ask s)

-- and it is answered by the bytes that stand at the ask's span
abbrev pub GivesAsKept : Type 0
GivesAsKept =
    (x : SendingView) (s : LiveSend) (from : Life) (ask : ReadAsk)
    → IsSend x s
    → given_of from ask (Some s.sent)
    ≡ (record {
      to = from;
      item = Gives (record { recv_id = ask.recv_id; at = ask.at; bytes = part (given_span ask) s.sent.message.bytes });
      gives = Some x.message.send_id.0;
    }) ∷ []

-- an answer that went out is owed no more
abbrev pub AnswersAsKept : Type 0
AnswersAsKept =
    (x : SendingView) (s : LiveSend)
    → IsSend x s
    → OwesAnswer x.protocol
    → (0 < s.owes) × IsSend (with_asks with_answer x) (life.with_answer s)

-- ---- what is told of it

-- what the record's facts ask of one send; of its end, where it is read, and of its receipt, where it is not
pub record Tells (own : Own) (x : SendingView) (s : LiveSend) : Type 0 where
  pub to : (other : Life) → same_life x.to other ≡ same_life s.sent.to other
  pub number : x.message.send_id.0 ≡ s.sent.number
  pub message_number : x.message.no.0 ≡ s.sent.message.no.0
  pub takes_grants : is_long x.message.kind ≡ is_long s.sent.kind
  pub takes_end : is_read x.message.kind ≡ is_read s.sent.kind
  pub takes_receipt : is_confirmed x ≡ (s.sent.message.confirm && not (is_read s.sent.kind))
  pub is_early_end : is_read s.sent.kind ≡ true → ends_early_by x.protocol ≡ ends_early s
  pub is_sent : is_read s.sent.kind ≡ false → is_sent own.limits x s.sent.message.bytes ≡ life.is_sent own s

-- it tells them of the record's send
abbrev pub FactsAreKept : Type 0
FactsAreKept = (own : Own) (x : SendingView) (s : LiveSend) → IsSend x s → Tells own x s
