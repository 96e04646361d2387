-- Which send a grant, an ask or granted bytes are for.
use Rattle.std.proofs.Common.{◌≡◌, ℕ, ◌+◌, ◌<◌, ◌≤◌, true, List, length, Some, refl, arith, inl, inr, sym, ◌∙◌, ap, subst}
use Rattle.rdm_lists.specs.Lists.{Member}
use Rattle.rdm_num.specs.Lives.{op_id}
use Rattle.rdm_num.specs.declared.numbers.Life.{Life}
use Rattle.rdm_num.specs.declared.numbers.OpId.{OpId}
use Rattle.rdm_num.specs.declared.numbers.Connid.{Connid}
use Rattle.rdm_num.specs.declared.limits.EpLimits.{EpLimits}
use Rattle.rdm_num.specs.declared.head.Head.{Head}
use Rattle.rdm_num.specs.declared.head.Shape.TheVariants as S
use Rattle.rdm_pkt.specs.declared.Packet.{Packet}
use Rattle.rdm_pkt.specs.declared.Packet.TheVariants.{Rtm, Cts, CtsData, Eor, Handshake, Receipt}
use Rattle.rdm_pkt.specs.declared.Kind.{Kind}
use Rattle.rdm_pkt.specs.declared.Kind.TheVariants.{Eager, Medium, LongCts, LongRead, Runt}
use Rattle.rdm_pkt.specs.Openings.{Message, shape_by, message_head}
use Rattle.rdm_match.specs.Matcher.{Pair}
use Rattle.rdm_wire.specs.declared.Datagram.{Datagram}
use Rattle.rdm_wire.specs.declared.ReadAsk.{ReadAsk}
use Rattle.rdm_wire.specs.declared.ReadData.{ReadData}
use Rattle.rdm_model.specs.declared.job.Job.{Job}
use Rattle.rdm_model.specs.declared.entry.Entry.{Entry}
use Rattle.rdm_model.specs.Deeds.{Deed, Took, Spelled, Asks, Gives}
use Rattle.rdm_model.specs.Beginnings.{Own, own_of}
use Rattle.rdm_model.specs.Heard.{heard_head}
use Rattle.rdm_model.specs.Matches.{pairs}
use Rattle.rdm_model.specs.Sends.{Sent}
use Rattle.rdm_model.specs.Replies.{asks_for}
use Rattle.rdm_model.specs.Dues.{Sends, is_read}
use Rattle.rdm_model.specs.Targets.{read_from, is_in_iov}
use Rattle.rdm_model.specs.Local.{heard_by}
use Rattle.rdm_model.specs.Lawful.{life_deeds}
use Rattle.rdm_model.proofs.Matches.{pair_heard}
use Rattle.rdm_model.proofs.Grows.{heads_by_heard}
use Rattle.rdm_model.proofs.Numbers.{made, sent_is_of, sends_one}
use Rattle.rdm_model.proofs.Opens.{opening_is}
use Rattle.rdm_law.proofs.Replies.Asks.{iov_bytes, asks_from_parts}
use Rattle.rdm_law.proofs.Replies.Causes.{OfAsk, OfCts, owed_ask, owed_cts}
use Rattle.rdm_law.proofs.Lives.Lives.{WasDueAt}
use Rattle.rdm_law.proofs.Accounts.WasDue.{due_is}
use Rattle.rdm_law.proofs.Accounts.Wired.{Played, TakenDue, taken_pushed}
use Rattle.rdm_law.proofs.Accounts.Went.{RepliedIt, went}
use Rattle.rdm_law.proofs.Accounts.Known.{account, sends_of, Known, known_head}

-- the pairs of a life, by what it took itself
abbrev pub pairs_of : Job → List Entry → Life → List Pair
pairs_of job history life' = pairs (own_of job life').limits.first (account job history life').head (life_deeds job history life')

-- the message of a pair was sent, and the head that the life knows of it is that of the send
pub record PairKnown (job : Job) (history : List Entry) (life' : Life) (p : Pair) : Type 0 where
  pub known : Known job history life' p.message.life p.message.no.0
  pub head_is : (account job history life').head p.message.life p.message.no.0 ≡ message_head job.limits known.sent.message known.sent.kind

-- the head of a message that was heard of, by what was taken
account_head : (first : ℕ) (log : List Deed) (source : Life) (n : ℕ) (h : Head) → heard_head log source n ≡ Some h → (heard_by first log).head source n ≡ h
unfolding heard_by
account_head first log source n h is = heads_by_heard log source n h is

-- the message of a pair was sent
pub pair_known : (job : Job) (history : List Entry) (life' : Life) (p : Pair) → Played job history → Member p (pairs_of job history life') → PairKnown job history life' p
pair_known job history life' p played m =
    let log = life_deeds job history life' in
    let first = (own_of job life').limits.first in
    let h = pair_heard first (account job history life').head log p m in
    let k = known_head job history life' p.message.life p.message.no.0 h.0 played h.1 in
    record { known = k.known; head_is = account_head first log p.message.life p.message.no.0 h.0 h.1 ∙ k.head_is }

-- what is pushed of a send opens its message, or is granted
abbrev pub IsOfSend : Packet → Type 0
IsOfSend (Rtm number tag confirm opt form) = Unit {0}
IsOfSend (CtsData recv offset connid bytes) = Unit {0}
IsOfSend (Cts send recv size connid) = ⊥
IsOfSend (Eor send recv connid) = ⊥
IsOfSend (Handshake words connid raw) = ⊥
IsOfSend (Receipt number connid) = ⊥

-- what is pushed of a send opens its message or is granted
pub of_send : (own : Own) (s : Sent) (p : Packet) (k : ℕ) (log : List Deed) → WasDueAt own (Sends s p) k log → IsOfSend p
of_send own s p k log h =
    let P : Packet → Type 0 = λ x. IsOfSend x in
    elim (due_is own s p k log h) [
      | inl a ↦ subst P (sym (opening_is own.limits s.message s.kind p a).is) tt
      | inr a ↦ subst P (sym a.is) tt
    ]

-- what is no packet of a send was a reply
pub went_reply : (job : Job) (history : List Entry) (life' from : Life) (p : Packet) (d : Datagram) (t : TakenDue job history life' from (Spelled p) d) → (IsOfSend p → ⊥)
    → RepliedIt (own_of job from) (life_deeds job history from) life' (Spelled p) t.place
went_reply job history life' from p d t no' =
    elim (went job history life' from (Spelled p) d t) [
      | inl s ↦
          let is = s.is in
          let e : s.packet ≡ p = cc in
          let P : Packet → Type 0 = λ x. IsOfSend x in
          absurd (no' (subst P e (of_send (own_of job from) s.sent s.packet t.place (life_deeds job history from) s.was_due)))
      | inr r ↦ r
    ]

-- no packet is an ask or an answer to one
pub went_ask : (job : Job) (history : List Entry) (life' from : Life) (a : ReadAsk) (d : Datagram) (t : TakenDue job history life' from (Asks a) d)
    → RepliedIt (own_of job from) (life_deeds job history from) life' (Asks a) t.place
went_ask job history life' from a d t = elim (went job history life' from (Asks a) d t) [ inl s ↦ (let is = s.is in cc) | inr r ↦ r ]

-- so is what is given
pub went_given : (job : Job) (history : List Entry) (life' from : Life) (g : ReadData) (d : Datagram) (t : TakenDue job history life' from (Gives g) d)
    → RepliedIt (own_of job from) (life_deeds job history from) life' (Gives g) t.place
went_given job history life' from g d t = elim (went job history life' from (Gives g) d t) [ inl s ↦ (let is = s.is in cc) | inr r ↦ r ]

-- a grant that a life took is of a pair of the life that it names
pub grant_pair : (job : Job) (history : List Entry) (j i : Life) (send recv : OpId) (size : ℕ) (connid : Connid) → Played job history
    → Member (Took i (Spelled (Cts send recv size connid))) (life_deeds job history j)
    → OfCts (own_of job i) (account job history i).head (life_deeds job history i) j send recv size connid
grant_pair job history j i send recv size connid played m =
    let p = taken_pushed job history j i (Spelled (Cts send recv size connid)) played m in
    let r = went_reply job history j i (Cts send recv size connid) p.datagram p.taken (λ x. x) in
    subst (λ (x : Life). OfCts (own_of job i) (account job history i).head (life_deeds job history i) x send recv size connid) r.to_is
    (owed_cts (own_of job i) (account job history i) (life_deeds job history i) r.reply send recv size connid r.owed r.is)

-- an ask that a life took is of a pair of the life that it names
pub ask_pair : (job : Job) (history : List Entry) (j i : Life) (a : ReadAsk) → Played job history
    → Member (Took i (Asks a)) (life_deeds job history j)
    → OfAsk (own_of job i).limits.first (account job history i).head (life_deeds job history i) j a
ask_pair job history j i a played m =
    let p = taken_pushed job history j i (Asks a) played m in
    let r = went_ask job history j i a p.datagram p.taken in
    subst (λ (x : Life). OfAsk (own_of job i).limits.first (account job history i).head (life_deeds job history i) x a) r.to_is
    (owed_ask (own_of job i) (account job history i) (life_deeds job history i) r.reply a r.owed r.is)

-- the shape that a head tells, and the length
pub head_shape : (limits : EpLimits) (m : Message) (kind : Kind) → (message_head limits m kind).shape ≡ shape_by limits m kind
unfolding message_head
head_shape limits m kind = refl

-- the length that a head tells
pub head_length : (limits : EpLimits) (m : Message) (kind : Kind) → (message_head limits m kind).length ≡ length m.bytes
unfolding message_head
head_length limits m kind = refl

-- a message that is granted names its send
pub long_send : (limits : EpLimits) (m : Message) (kind : Kind) (send : OpId) (credits : ℕ) → shape_by limits m kind ≡ S.LongCts send credits → (m.send ≡ send) × (kind ≡ LongCts)
unfolding shape_by
long_send limits m Eager send credits h = cc
long_send limits m Medium send credits h = cc
long_send limits m LongCts send credits h = (cc, refl)
long_send limits m LongRead send credits h = cc
long_send limits m (Runt runt) send credits h = cc

-- an ask of a message names its send, and lies in what is read
pub record AskOf (m : Message) (kind : Kind) (a : ReadAsk) : Type 0 where
  pub send_is : a.send_id ≡ m.send
  pub read : is_read kind ≡ true
  pub from : read_from kind ≤ a.at
  pub to : a.at + a.length ≤ iov_bytes m.iov
  pub has_byte : 0 < a.length
  pub listed : is_in_iov a 0 m.iov ≡ true

-- an ask of a message, by the kind of its send
pub ask_of : (limits : EpLimits) (m : Message) (kind : Kind) (recv : OpId) (a : ReadAsk) → Member a (asks_for (shape_by limits m kind) recv) → AskOf m kind a
unfolding shape_by asks_for read_from is_read
ask_of limits m Eager recv a h = elim h [ ]
ask_of limits m Medium recv a h = elim h [ ]
ask_of limits m LongCts recv a h = elim h [ ]
ask_of limits m LongRead recv a h =
    let q = asks_from_parts m.send recv m.iov 0 0 a h in
    let p = q.0 in
    let f = p.from in
    let t = p.to in
    record { send_is = p.send_is; read = refl; from = omega arith; to = omega arith; has_byte = p.has_byte; listed = q.1 }
ask_of limits m (Runt runt) recv a h =
    let q = asks_from_parts m.send recv m.iov 0 runt a h in
    let p = q.0 in
    let f = p.from in
    let t = p.to in
    record { send_is = p.send_is; read = refl; from = omega arith; to = omega arith; has_byte = p.has_byte; listed = q.1 }

-- the number of a send is the one that its packets carry
pub send_number : (job : Job) (history : List Entry) (j : Life) (s : Sent) → Member s (sends_of job history j) → s.message.send ≡ op_id s.number
send_number job history j s m =
    (sent_is_of (own_of job j) (account job history j) (life_deeds job history j) s (made (own_of job j) (account job history j) (life_deeds job history j) s m)).0

-- sends of one number are one
pub one_send : (job : Job) (history : List Entry) (j : Life) (s t : Sent) → Member s (sends_of job history j) → Member t (sends_of job history j) → s.message.send ≡ t.message.send → s ≡ t
one_send job history j s t m n e =
    let a = send_number job history j s m in
    let b = send_number job history j t n in
    let k : s.number ≡ t.number = ap (λ (x : OpId). x.0) (sym a ∙ e ∙ b) in
    sends_one (own_of job j) (account job history j) (life_deeds job history j) s t m n k
