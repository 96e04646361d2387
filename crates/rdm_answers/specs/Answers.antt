-- What one answer goes out as.
use Rattle.std.specs.Prelude.{◌≡◌, ℕ, Bool, true, nat_lt, List, [], ◌∷◌, ◌++◌, length, map, take, drop, Option, Some, None, option_map, slice_get}
use Rattle.rdm_num.specs.declared.numbers.Connid.{Connid}
use Rattle.rdm_num.specs.declared.numbers.Life.{Life}
use Rattle.rdm_pkt.specs.declared.Packet.{Packet}
use Rattle.rdm_pkt.specs.declared.Packet.TheVariants.{Cts, Eor, Receipt}
use Rattle.rdm_wire.specs.declared.ReadAsk.{ReadAsk}
use Rattle.rdm_model.specs.Beginnings.{Own}
use Rattle.rdm_model.specs.Deeds.{Spelled, Asks, Gives}
use Rattle.rdm_model.specs.Replies.{Reply, reply, greeting}
use Rattle.rdm_owed.specs.declared.Owed.{Owed}
use Rattle.rdm_rx.specs.Left.{left}
use Rattle.rdm_answers.specs.declared.answer.Answer.{Answer}
use Rattle.rdm_answers.specs.declared.answer.Answer.TheVariants as A
use Rattle.rdm_answers.specs.declared.answer.Dues.{Dues}
use Rattle.rdm_answers.specs.declared.answer.First.{First}
use Rattle.rdm_answers.specs.declared.answer.Outgoing.{Outgoing}
use Rattle.rdm_answers.specs.declared.answer.Outgoing.TheVariants as Goes

-- the bytes of the messages of sends, by the number of the send
abbrev pub BytesOf : Type 0
BytesOf = (send : ℕ) → List ℕ

-- an ask is answered by those bytes of the message of its send
abbrev pub given : BytesOf → Life → ReadAsk → Reply
given bytes_of to ask =
    record {
      to = to;
      item = Gives (record { recv_id = ask.recv_id; at = ask.at; bytes = take ask.length (drop ask.at (bytes_of ask.send_id.0)) });
      gives = Some ask.send_id.0;
    }

-- what an answer goes out as: each ask that is left by itself, all else at once
unfoldable pub replies_for : Own → BytesOf → Life → Answer → List Reply
replies_for own bytes_of to (A.Greeting raw) = reply to (greeting own raw) ∷ []
replies_for own bytes_of to (A.Asks asks) = map (λ (ask : ReadAsk). reply to (Asks ask)) (left asks)
replies_for own bytes_of to (A.Grant send recv size) = reply to (Spelled (Cts send recv size own.life.connid)) ∷ []
replies_for own bytes_of to (A.End send recv) = reply to (Spelled (Eor send recv own.life.connid)) ∷ []
replies_for own bytes_of to (A.Receipt no') = reply to (Spelled (Receipt no' own.life.connid)) ∷ []
replies_for own bytes_of to (A.Given ask) = given bytes_of to ask ∷ []

-- the same where there may be none
unfoldable pub replies_by : Own → BytesOf → Life → Option Answer → List Reply
replies_by own bytes_of to None = []
replies_by own bytes_of to (Some answer) = replies_for own bytes_of to answer

-- something of the answer has to go out
unfoldable pub has_item : Answer → Bool
has_item (A.Asks asks) = nat_lt 0 (length (left asks))
has_item _ = true

-- the answer that goes out as a packet, if there is a packet that one goes out as
unfoldable pub answer_of : Option Packet → Option Answer
answer_of (Some (Cts send recv size connid)) = Some (A.Grant send recv size)
answer_of (Some (Eor send recv connid)) = Some (A.End send recv)
answer_of (Some (Receipt number connid)) = Some (A.Receipt number)
answer_of _ = None

-- what a receive makes owed: asks, then a grant, then an end
unfoldable pub replies_of_dues : Own → BytesOf → Life → Dues → List Reply
replies_of_dues own bytes_of to dues =
    replies_by own bytes_of to (option_map A.Asks dues.asks) ++ replies_by own bytes_of to (answer_of dues.grant) ++ replies_by own bytes_of to (answer_of dues.end)

-- what goes out to a life
unfoldable pub goes_as : BytesOf → Life → Outgoing → Reply
goes_as bytes_of to (Goes.Packet packet) = reply to (Spelled packet)
goes_as bytes_of to (Goes.Ask ask) = reply to (Asks ask)
goes_as bytes_of to (Goes.Given ask) = given bytes_of to ask

-- the reply that goes out
abbrev pub reply_of : BytesOf → First → Reply
reply_of bytes_of first = goes_as bytes_of first.to first.item

-- whatever else a life of that identifier and those features is, that is the first of those replies
abbrev pub IsFirst : Connid → (features : ℕ) → Option First → (Own → BytesOf → List Reply) → Type 0
IsFirst connid features first replies =
    (own : Own) (bytes_of : BytesOf)
    → own.life.connid ≡ connid
    → own.features ≡ features
    → option_map (reply_of bytes_of) first ≡ slice_get (replies own bytes_of) 0

-- it is the first that an answer goes out as
abbrev pub IsFirstOf : Connid → (features : ℕ) → Owed Answer → Option First → Type 0
IsFirstOf connid features o first = IsFirst connid features first (λ own bytes_of. replies_for own bytes_of o.to o.answer)

-- it is what is left of an answer once the first of it went out
abbrev pub IsLeftOf : Answer → Option Answer → Type 0
IsLeftOf answer left' = (own : Own) (bytes_of : BytesOf) (to : Life) → replies_by own bytes_of to left' ≡ drop 1 (replies_for own bytes_of to answer)
