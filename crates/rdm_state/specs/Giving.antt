-- What is owed that gives bytes of a send, and the sends that it gives bytes of.
use Rattle.std.specs.Prelude.{◌≡◌, ℕ, false, true, List, length, filter, find, Some}
use Rattle.rdm_lists.specs.Lists.{Member}
use Rattle.rdm_pkt.specs.declared.Packet.TheVariants.{Eor, Receipt}
use Rattle.rdm_model.specs.Beginnings.{Own}
use Rattle.rdm_model.specs.ClassFacts.{is_number}
use Rattle.rdm_model.specs.Deeds.{Deed, Took, Spelled, Asks}
use Rattle.rdm_model.specs.Dues.{is_read}
use Rattle.rdm_model.specs.Replies.{Reply}
use Rattle.rdm_life.specs.Handling.{after}
use Rattle.rdm_life.specs.Kept.{Kept, LiveSend, is_send, send_numbered, nothing_kept}
use Rattle.rdm_life.specs.Sending.{is_send_of}
use Rattle.rdm_sound.specs.Orders.{IsAllowed}
use Rattle.rdm_sound.specs.Premises.{IsOrderly}
use Rattle.rdm_state.specs.SendLaws.{GivesNone}

-- the live send that a reply gives bytes of, which goes to the reply's life
pub record Source (sends : List LiveSend) (r : Reply) (number : ℕ) : Type 0 where
  pub send : LiveSend
  pub live : find (is_send number) sends ≡ Some send
  pub to : send.sent.to ≡ r.to

-- each reply that gives bytes has its send, each send owes as many answers as there are replies that give its bytes, and only one
-- that is read owes any
pub record AreGiven (owed : List Reply) (sends : List LiveSend) : Type 0 where
  pub source : (r : Reply) (number : ℕ) → Member r owed → r.gives ≡ Some number → Source sends r number
  pub owes : (s : LiveSend) → Member s sends → s.owes ≡ length (filter (λ (r : Reply). is_number s.sent.number r.gives) owed)
  pub read : (s : LiveSend) → Member s sends → is_read s.sent.kind ≡ false → s.owes ≡ 0

-- the same of a record
abbrev pub IsGiving : Kept → Type 0
IsGiving v = AreGiven v.owed v.sends

-- What ends a send comes where it owes no answer, and what asks for bytes asks for those of a live send that goes to its life
-- and is read.
abbrev pub EndsWell : List LiveSend → Deed → Type 0
EndsWell sends (Took from (Spelled (Eor send recv connid))) = (s : LiveSend) → find (is_send send.0) sends ≡ Some s → s.owes ≡ 0
EndsWell sends (Took from (Spelled (Receipt number connid))) = (s : LiveSend) → Member s sends → is_send_of from number.0 s ≡ true → is_read s.sent.kind ≡ false
EndsWell sends (Took from (Asks ask)) = (s : LiveSend) × (find (is_send ask.send_id.0) sends ≡ Some s) × (s.sent.to ≡ from) × (is_read s.sent.kind ≡ true)
EndsWell sends _ = Unit {0}

-- A send that owes no answer is one of which nothing that is owed gives bytes.
abbrev pub OwesNone : Type 0
OwesNone = (v : Kept) (s : LiveSend) → IsGiving v → send_numbered v s.sent.number ≡ Some s → s.owes ≡ 0 → GivesNone v s.sent.number

-- Before any deed nothing is owed.
abbrev pub BeginsGiving : Type 0
BeginsGiving = (own : Own) → IsGiving (nothing_kept own)

-- It stays so by each deed that may be done.
abbrev pub StaysGiving : Type 0
StaysGiving = (d : Deed) (v : Kept) → IsOrderly v → IsGiving v → IsAllowed v d → EndsWell v.sends d → IsGiving (after d v)
