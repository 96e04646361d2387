-- That a live send is the one that an endpoint's record keeps.
use Rattle.std.specs.Prelude.{◌≡◌, ℕ, ◌+◌, ◌<◌, true, false, not, [], length, get_or, IsSome}
use Rattle.rdm_pkt.specs.declared.Kind.TheVariants.{Eager, LongCts}
use Rattle.rdm_model.specs.Dues.{is_read}
use Rattle.rdm_model.specs.Sends.{Sent, read_list}
use Rattle.rdm_model.specs.Targets.{is_long, read_from}
use Rattle.rdm_tx.specs.Asks.{Asks}
use Rattle.rdm_tx.specs.Granting.{Granting}
use Rattle.rdm_tx.specs.declared.message.Message.{Message}
use Rattle.rdm_life.specs.Kept.{LiveSend}
use Rattle.rdm_sends.specs.Beginning.{some_range}
use Rattle.rdm_sends.specs.Sending.{SendingView, range_bytes}
use Rattle.rdm_sends.specs.declared.protocol.Protocol.{Protocol}
use Rattle.rdm_sends.specs.declared.protocol.Protocol.TheVariants.{Whole, Granted, Read}

-- its packets say what the record's message says; a read list without a range has an empty one, and is in no packet then
pub record IsMessage (m : Message) (s : Sent) : Type 0 where
  pub no : m.no ≡ s.message.no
  pub tag : m.tag ≡ s.message.tag
  pub confirm : m.confirm ≡ s.message.confirm
  pub opt : m.opt ≡ s.message.opt
  pub send_id : m.send_id ≡ s.message.send
  pub number : m.send_id.0 ≡ s.number
  pub iov : m.iov ≡ some_range s.message.iov
  pub whole : s.message.iov ≡ [] → s.kind ≡ Eager
  pub kind : m.kind ≡ s.kind

-- the message has the bytes of the ranges that its request names, and its read list names them
pub record IsOfRanges (s : Sent) : Type 0 where
  pub iov : s.message.iov ≡ read_list s.req.parts
  pub long : length s.message.bytes ≡ range_bytes s.req.parts

-- how far the record's send was granted and pushed
abbrev pub granting_of : LiveSend → Granting
granting_of s = record { total = length s.sent.message.bytes; done = s.done; allowed = s.allowed; granted_by = s.granted_by }

-- the same places were asked for, from the first that is read up to the last of the message, and as many answers are owed
pub record AreAsks (a : Asks) (s : LiveSend) : Type 0 where
  pub from : a.from ≡ read_from s.sent.kind
  pub iov : a.iov ≡ s.sent.message.iov
  pub long : a.from + length a.unasked.places ≡ length s.sent.message.bytes
  pub asked : (k : ℕ) → k < length a.unasked.places → s.was_asked (a.from + k) ≡ not (get_or a.unasked.places k false)
  pub owes : a.owes ≡ s.owes

-- what came for it, by its protocol: openings that have the whole message leave no byte to grant, and bytes that may be pushed
-- were granted by a receive
abbrev pub IsProtocol : Protocol → LiveSend → Type 0
IsProtocol Whole s = (is_read s.sent.kind ≡ false) × (is_long s.sent.kind ≡ false) × (s.done ≡ length s.sent.message.bytes) × (s.allowed ≡ s.done)
IsProtocol (Granted g) s = (s.sent.kind ≡ LongCts) × (g ≡ granting_of s) × (s.done < s.allowed → IsSome s.granted_by)
IsProtocol (Read a) s = (is_read s.sent.kind ≡ true) × AreAsks a s

-- the send goes to the same life, with the same message of the same ranges; as many openings were pushed, and the same came for it
pub record IsSend (x : SendingView) (s : LiveSend) : Type 0 where
  pub to : x.to ≡ s.sent.to
  pub message : IsMessage x.message s.sent
  pub parts : x.parts ≡ s.sent.req.parts
  pub total : x.total ≡ length s.sent.message.bytes
  pub ranges : IsOfRanges s.sent
  pub given : x.given ≡ s.opened
  pub protocol : IsProtocol x.protocol s
