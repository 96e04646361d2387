-- What goes out first of one answer.
use Rattle.std.proofs.Common.{◌≡◌, ℕ, List, [], ◌∷◌, Option, Some, None, option_map, slice_get, refl, ap, ap₂, sym, ◌∙◌}
use Rattle.std.proofs.lemmas.Option.{slice_get-map}
use Rattle.rdm_num.specs.declared.numbers.Connid.{Connid}
use Rattle.rdm_num.specs.declared.numbers.MsgNo.{MsgNo}
use Rattle.rdm_num.specs.declared.numbers.OpId.{OpId}
use Rattle.rdm_num.specs.declared.numbers.PortNo.{PortNo}
use Rattle.rdm_pkt.specs.declared.Packet.TheVariants.{Cts, Eor, Handshake, Receipt}
use Rattle.rdm_wire.specs.declared.ReadAsk.{ReadAsk}
use Rattle.rdm_model.specs.Deeds.{Spelled, Asks}
use Rattle.rdm_model.specs.Replies.{reply}
use Rattle.rdm_owed.specs.declared.Owed.{Owed}
use Rattle.rdm_rx.specs.declared.asks.Asks.{Asks as Left}
use Rattle.rdm_rx.specs.Left.{left}
use Rattle.rdm_answers.specs.declared.answer.Answer.{Answer}
use Rattle.rdm_answers.specs.declared.answer.Answer.TheVariants as A
use Rattle.rdm_answers.specs.declared.answer.Outgoing.{Outgoing}
use Rattle.rdm_answers.specs.declared.answer.Outgoing.TheVariants as Goes
use Rattle.rdm_answers.specs.Answers.{replies_for, goes_as, IsFirstOf}

-- that goes out first of an answer to a life
abbrev pub Leads : Connid → (features : ℕ) → Owed Answer → Outgoing → Type 0
Leads connid features o item = IsFirstOf connid features o (Some (record { to = o.to; item = item }))

pub greeting_leads : (connid : Connid) (features : ℕ) (o : Owed Answer) (words : List ℕ) (raw : Option PortNo) → o.answer ≡ A.Greeting raw → words ≡ features ∷ []
    → Leads connid features o (Goes.Packet (Handshake words connid raw))
unfolding replies_for goes_as
greeting_leads connid features o words raw a w own bytes_of h f =
    rw (a, w) (ap₂ (λ c n. Some (reply o.to (Spelled (Handshake (n ∷ []) c raw)))) (sym h) (sym f))

pub grant_leads : (connid : Connid) (features : ℕ) (o : Owed Answer) (send recv : OpId) (size : ℕ) → o.answer ≡ A.Grant send recv size
    → Leads connid features o (Goes.Packet (Cts send recv size connid))
unfolding replies_for goes_as
grant_leads connid features o send recv size a own bytes_of h f = rw a (ap (λ c. Some (reply o.to (Spelled (Cts send recv size c)))) (sym h))

pub end_leads : (connid : Connid) (features : ℕ) (o : Owed Answer) (send recv : OpId) → o.answer ≡ A.End send recv
    → Leads connid features o (Goes.Packet (Eor send recv connid))
unfolding replies_for goes_as
end_leads connid features o send recv a own bytes_of h f = rw a (ap (λ c. Some (reply o.to (Spelled (Eor send recv c)))) (sym h))

pub receipt_leads : (connid : Connid) (features : ℕ) (o : Owed Answer) (number : MsgNo) → o.answer ≡ A.Receipt number
    → Leads connid features o (Goes.Packet (Receipt number connid))
unfolding replies_for goes_as
receipt_leads connid features o number a own bytes_of h f = rw a (ap (λ c. Some (reply o.to (Spelled (Receipt number c)))) (sym h))

pub given_leads : (connid : Connid) (features : ℕ) (o : Owed Answer) (ask : ReadAsk) → o.answer ≡ A.Given ask → Leads connid features o (Goes.Given ask)
unfolding replies_for goes_as
given_leads connid features o ask a own bytes_of h f = rw a refl

-- the first ask that is left
pub ask_leads : (connid : Connid) (features : ℕ) (o : Owed Answer) (asks : Left) (ask : ReadAsk) → o.answer ≡ A.Asks asks → Some ask ≡ slice_get (left asks) 0
    → Leads connid features o (Goes.Ask ask)
unfolding replies_for goes_as
ask_leads connid features o asks ask a e own bytes_of h f =
    rw a (ap (option_map (λ (x : ReadAsk). reply o.to (Asks x))) e ∙ sym (slice_get-map (λ (x : ReadAsk). reply o.to (Asks x)) (left asks) 0))

-- where none is left, nothing goes out
pub no_ask_leads : (connid : Connid) (features : ℕ) (o : Owed Answer) (asks : Left) → o.answer ≡ A.Asks asks → None ≡ slice_get (left asks) 0
    → IsFirstOf connid features o None
unfolding replies_for goes_as
no_ask_leads connid features o asks a e own bytes_of h f =
    rw a (ap (option_map (λ (x : ReadAsk). reply o.to (Asks x))) e ∙ sym (slice_get-map (λ (x : ReadAsk). reply o.to (Asks x)) (left asks) 0))
