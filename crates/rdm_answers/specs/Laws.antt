-- How answers are what the record of an endpoint owes, as statements.
use Rattle.std.specs.Prelude.{◌≡◌, ℕ, Bool, if◌then◌else◌, List, [], ◌∷◌, Option, Some, IfNone, IfSome}
use Rattle.rdm_lists.specs.Lists.{Member, each_below}
use Rattle.rdm_num.specs.declared.numbers.Life.{Life}
use Rattle.rdm_num.specs.declared.numbers.OpId.{OpId}
use Rattle.rdm_num.specs.declared.numbers.PortNo.{PortNo}
use Rattle.rdm_wire.specs.declared.ReadAsk.{ReadAsk}
use Rattle.rdm_model.specs.Beginnings.{Own}
use Rattle.rdm_model.specs.Replies.{Reply, reply, greeting, asks_for, grant_for, end_for, given_of}
use Rattle.rdm_model.specs.Sends.{Sent}
use Rattle.rdm_owed.specs.declared.Owed.{Owed}
use Rattle.rdm_rx.specs.Left.{left}
use Rattle.rdm_rx.specs.Owing.{IsOnlyPacket}
use Rattle.rdm_rx.specs.Receiving.{ReceivingView, window_if}
use Rattle.rdm_life.specs.Kept.{Matched}
use Rattle.rdm_life.specs.Landing.{has_all, next_window, replies_of}
use Rattle.rdm_answers.specs.declared.answer.Answer.{Answer}
use Rattle.rdm_answers.specs.declared.answer.Answer.TheVariants as A
use Rattle.rdm_answers.specs.declared.answer.Dues.{Dues}
use Rattle.rdm_answers.specs.Answers.{BytesOf, replies_for, replies_of_dues}
use Rattle.rdm_answers.specs.Owing.{owed_in}

-- what `rdm_rx::Receiving` gives of a receive of a message: its asks, where it was just matched and has any; the packet of its
-- next grant; and the packet that ends the message, where all of it came
pub record AreDues (own : Own) (is_new : Bool) (recv : OpId) (m : Matched) (dues : Dues) : Type 0 where
  pub no_asks : IfNone dues.asks ((if is_new then asks_for m.head.shape recv else []) ≡ [])
  pub asks : IfSome dues.asks (λ a. left a ≡ (if is_new then asks_for m.head.shape recv else []))
  pub grant : IsOnlyPacket own.life.connid dues.grant (λ life. grant_for life m.head.shape recv (next_window own m))
  pub end : IsOnlyPacket own.life.connid dues.end (λ life. if has_all m then end_for life m.head.shape m.head.confirm (record { 0 = m.number }) recv else [])

-- they go out as what the message makes owed
abbrev pub DuesAreOwed : Type 0
DuesAreOwed =
    (own : Own) (bytes_of : BytesOf) (is_new : Bool) (recv : OpId) (m : Matched) (dues : Dues)
    → AreDues own is_new recv m dues
    → replies_of_dues own bytes_of m.source dues ≡ replies_of own is_new recv (Some m)

-- the window that a receive grants is the one that the record grants
abbrev pub WindowsAgree : Type 0
WindowsAgree =
    (own : Own) (m : Matched) (r : ReceivingView)
    → r.head ≡ m.head
    → r.granted ≡ m.granted
    → window_if (each_below m.came m.granted) own.limits r ≡ next_window own m

-- a greeting is that of the record
abbrev pub GreetingsGreet : Type 0
GreetingsGreet = (own : Own) (bytes_of : BytesOf) (to : Life) (raw : Option PortNo) → replies_for own bytes_of to (A.Greeting raw) ≡ reply to (greeting own raw) ∷ []

-- the answer to an ask gives the bytes of its send, where that is there
abbrev pub GivensGive : Type 0
GivensGive =
    (own : Own) (bytes_of : BytesOf) (to : Life) (ask : ReadAsk) (s : Sent)
    → s.number ≡ ask.send_id.0
    → bytes_of s.number ≡ s.message.bytes
    → replies_for own bytes_of to (A.Given ask) ≡ given_of to ask (Some s)

-- what is owed stays where only the bytes of sends change that it gives none of
abbrev pub OnlyGivenBytesCount : Type 0
OnlyGivenBytesCount =
    (own : Own) (before after : BytesOf) (owed : List (Owed Answer))
    → ((r : Reply) (send : ℕ) → Member r (owed_in own before owed) → r.gives ≡ Some send → before send ≡ after send)
    → owed_in own after owed ≡ owed_in own before owed
