-- What goes out of an eager life: messages in one packet each, and handshakes, all to the one life of a port.
use Rattle.std.proofs.Common.{◌≡◌, ℕ, Bool, true, false, nat_le, ◌&&◌, List, [], ◌∷◌, length, is_some, unwrap_or, Option, Some, None, refl, true≢false, inl, inr, sym, ◌∙◌, ap, subst}
use Rattle.std.specs.Prelude.{◌==◌}
use Rattle.rdm_lists.specs.Lists.{Member}
use Rattle.rdm_num.specs.Lives.{same_life}
use Rattle.rdm_num.specs.declared.numbers.Connid.{Connid}
use Rattle.rdm_num.specs.declared.numbers.Life.{Life}
use Rattle.rdm_num.specs.declared.numbers.MsgNo.{MsgNo}
use Rattle.rdm_num.specs.declared.numbers.PortNo.{PortNo}
use Rattle.rdm_num.specs.declared.numbers.OpId.{OpId}
use Rattle.rdm_num.specs.declared.head.Head.{Head}
use Rattle.rdm_num.specs.declared.head.Shape.{Shape}
use Rattle.rdm_num.specs.declared.head.Shape.TheVariants as S
use Rattle.rdm_num.specs.declared.request.SendReq.{SendReq}
use Rattle.rdm_num.specs.declared.limits.EpLimits.{EpLimits}
use Rattle.rdm_wire.specs.declared.ReadAsk.{ReadAsk}
use Rattle.rdm_pkt.specs.declared.Packet.TheVariants.{Rtm, Eor}
use Rattle.rdm_pkt.specs.declared.Form.TheVariants as F
use Rattle.rdm_pkt.specs.declared.Kind.TheVariants.{Eager}
use Rattle.rdm_pkt.specs.Heads.{head_of, shape_of}
use Rattle.rdm_pkt.specs.Choice.{choose, eager_room}
use Rattle.rdm_model.specs.declared.job.Instr.TheVariants.{Insert, Send}
use Rattle.rdm_model.specs.Deeds.{Deed, Did, Took, Item, Spelled, Asks}
use Rattle.rdm_model.specs.Beginnings.{Own, Messages, Heads, no_head}
use Rattle.rdm_model.specs.Heard.{head_by, heard_head}
use Rattle.rdm_model.specs.Regions.{regions}
use Rattle.rdm_model.specs.Sends.{Sent, sends_to, new_sent, bytes_of, sends, known_word}
use Rattle.rdm_model.specs.Replies.{Reply, asks_for, receipt_for, end_for}
use Rattle.rdm_model.specs.Local.{heads_by}
use Rattle.rdm_model.proofs.Numbers.{sends_keep}
use Rattle.rdm_law.proofs.Replies.Owed.{MetBy, NewReply, OwedIn, shape_in, recv_in, confirm_in}
use Rattle.rdm_law.proofs.Fits.Spans.{spans_total}
use Rattle.rdm_law.proofs.Fits.SentFits.{SentFits}
use Rattle.rdm_law.proofs.Eager.EagerDeeds.{FitsOnePacket, IsEagerLoad, IsTheLife, IsEagerDeed, AreEagerDeeds, current_the}
use Rattle.rdm_lists.proofs.Options.{or_else_cases, then_some_parts}

-- the head of a message in one packet that asks for no receipt
abbrev pub IsEagerHead : Head → Type 0
IsEagerHead h = (h.shape ≡ S.Eager) × (h.confirm ≡ false)

-- a head that an eager packet tells is of one packet
eager_head : (first : ℕ) (source : Life) (n : ℕ) (from : Life) (item : Item) (h : Head) → IsEagerLoad first item → head_by source n (Took from item) ≡ Some h → IsEagerHead h
unfolding head_by head_of shape_of
eager_head first source n from (Spelled (Rtm number tag confirm opt (F.Eager bytes))) h k is =
    let e = (then_some_parts (same_life from source && number.0 == n) (head_of tag confirm opt (F.Eager bytes)) h is).1 in
    (sym (ap (λ (x : Head). x.shape) e), sym (ap (λ (x : Head). x.confirm) e) ∙ k.0)
eager_head first source n from (Spelled (Rtm number tag confirm opt (F.Medium size offset bytes))) h k is = elim k [ ]
eager_head first source n from (Spelled (Rtm number tag confirm opt (F.LongCts size send credits bytes))) h k is = elim k [ ]
eager_head first source n from (Spelled (Rtm number tag confirm opt (F.LongRead size send iov))) h k is = elim k [ ]
eager_head first source n from (Spelled (Rtm number tag confirm opt (F.Runt size send iov runt offset bytes))) h k is = elim k [ ]
eager_head first source n from _ h k is = cc

-- so is one that a deed tells
deed_head : (own : Own) (lives : ℕ → Connid) (source : Life) (n : ℕ) (d : Deed) (h : Head) → IsEagerDeed own.limits lives d → head_by source n d ≡ Some h → IsEagerHead h
unfolding head_by
deed_head own lives source n (Took from item) h k is = eager_head own.limits.first source n from item h k.1 is
deed_head own lives source n _ h k is = cc

-- so is one that was heard
heard_eager : (own : Own) (lives : ℕ → Connid) (source : Life) (n : ℕ) (log : List Deed) (h : Head) → AreEagerDeeds own.limits lives log → heard_head log source n ≡ Some h → IsEagerHead h
unfolding heard_head
heard_eager own lives source n [] h k is = cc
heard_eager own lives source n (d ∷ before) h k is =
    elim (or_else_cases (heard_head before source n) (head_by source n d) h is) [
      | inl a ↦ heard_eager own lives source n before h k.0 a
      | inr a ↦ deed_head own lives source n d h k.1 a.1
    ]

-- so is a head, or none
eager_or_none : (o : Option Head) → ((h : Head) → o ≡ Some h → IsEagerHead h) → IsEagerHead (unwrap_or o no_head)
eager_or_none None f = (refl, refl)
eager_or_none (Some h) f = f h refl

-- each message that an eager life heard of goes in one packet
pub all_eager : (own : Own) (lives : ℕ → Connid) (log : List Deed) → AreEagerDeeds own.limits lives log → (source : Life) (n : ℕ) → IsEagerHead (heads_by log source n)
unfolding heads_by
all_eager own lives log k source n = eager_or_none (heard_head log source n) (λ h is. heard_eager own lives source n log h k is)

-- what can be said of what goes out: to the one life of a port, a message in one packet, or a handshake
abbrev pub IsEagerGoing : Own → (lives : ℕ → Connid) → (to : Life) → Item → Type 0
IsEagerGoing own lives to item = IsTheLife lives to × IsEagerLoad own.limits.first item

-- a whole message owes no ask
no_ask : (shape : Shape) (recv : OpId) (ask : ReadAsk) → shape ≡ S.Eager → Member ask (asks_for shape recv) → ⊥
unfolding asks_for
no_ask S.Eager recv ask is m = m
no_ask S.Medium recv ask is m = m
no_ask (S.LongCts send credits) recv ask is m = m
no_ask (S.LongRead send iov) recv ask is m = cc
no_ask (S.Runt send iov runt) recv ask is m = cc

-- a whole message owes no end
no_end : (own : Own) (shape : Shape) (confirm : Bool) (number : MsgNo) (recv send : OpId) → shape ≡ S.Eager
    → end_for own shape confirm number recv ≡ Spelled (Eor send recv own.life.connid) ∷ [] → ⊥
unfolding end_for receipt_for
no_end own S.Eager true number recv send is h = cc
no_end own S.Eager false number recv send is h = cc
no_end own S.Medium confirm number recv send is h = cc
no_end own (S.LongCts s credits) confirm number recv send is h = cc
no_end own (S.LongRead s iov) confirm number recv send is h = cc
no_end own (S.Runt s iov runt) confirm number recv send is h = cc

-- a whole message is not granted
no_long : (send : OpId) (credits : ℕ) → S.Eager ≡ S.LongCts send credits → ⊥
no_long send credits h = cc

-- what is met is the one life of its port
met_the : (own : Own) (lives : ℕ → Connid) (d : Deed) (life : Life) (raw : Option PortNo) → IsEagerDeed own.limits lives d → MetBy own d life raw → IsTheLife lives life
met_the own lives d life raw k (inl a) =
    let took : IsEagerDeed own.limits lives (Took life a.0) = subst (IsEagerDeed own.limits lives) a.1 k in
    took.0
met_the own lives d life raw k (inr a) =
    let did : IsEagerDeed own.limits lives (Did (Insert life)) = subst (IsEagerDeed own.limits lives) a.0 k in
    did

-- what an eager life owes is a handshake
eager_reply : (own : Own) (lives : ℕ → Connid) (heads : Heads) (sents : List Sent) (d : Deed) (before : List Deed) (r : Reply) → ((source : Life) (n : ℕ) → IsEagerHead (heads source n))
    → IsEagerDeed own.limits lives d → NewReply own heads sents d before r → IsEagerGoing own lives r.to r.item
eager_reply own lives heads sents d before r eager k (inl new) =
    let P : Item → Type 0 = λ x. IsEagerLoad own.limits.first x in
    (met_the own lives d r.to new.raw k new.how, subst P (sym new.is) tt)
eager_reply own lives heads sents d before r eager k (inr (inl new)) =
    absurd (no_ask (shape_in heads new.pair) (recv_in new.pair) new.ask (eager new.pair.message.life new.pair.message.no.0).0 new.of)
eager_reply own lives heads sents d before r eager k (inr (inr (inl new))) =
    absurd (no_long new.send new.credits (sym (eager new.pair.message.life new.pair.message.no.0).0 ∙ new.shape_is))
eager_reply own lives heads sents d before r eager k (inr (inr (inr (inl new)))) =
    absurd (no_end own (shape_in heads new.pair) (confirm_in heads new.pair) new.pair.message.no (recv_in new.pair) new.send (eager new.pair.message.life new.pair.message.no.0).0 new.shape_is)
eager_reply own lives heads sents d before r eager k (inr (inr (inr (inr (inl new))))) =
    absurd (true≢false (sym new.confirm ∙ (eager new.pair.message.life new.pair.message.no.0).1))
eager_reply own lives heads sents d before r eager k (inr (inr (inr (inr (inr new))))) =
    let took : IsEagerDeed own.limits lives (Took r.to (Asks new.ask)) = subst (IsEagerDeed own.limits lives) new.took k in
    elim took.1 [ ]

-- each reply that was owed is a handshake
pub eager_owed : (own : Own) (lives : ℕ → Connid) (ms : Messages) (log : List Deed) (r : Reply) → ((source : Life) (n : ℕ) → IsEagerHead (ms.head source n)) → AreEagerDeeds own.limits lives log
    → OwedIn own ms r log → IsEagerGoing own lives r.to r.item
eager_owed own lives ms [] r eager k i = elim i [ ]
eager_owed own lives ms (d ∷ before) r eager k (inl new) = eager_reply own lives ms.head (sends own ms before) d before r eager k.1 new
eager_owed own lives ms (d ∷ before) r eager k (inr i) = eager_owed own lives ms before r eager k.0 i

-- a send of an eager life: to the one life of a port, and with room in one packet
pub record EagerSent (own : Own) (lives : ℕ → Connid) (s : Sent) : Type 0 where
  pub to : IsTheLife lives s.to
  pub fits : FitsOnePacket own.limits s.req
  pub silent : s.message.confirm ≡ false

-- a new send of such a request is eager
new_eager : (own : Own) (lives : ℕ → Connid) (before : List Deed) (count messages : ℕ) (req : SendReq) (to : Life) (bytes : List ℕ) → IsTheLife lives to → FitsOnePacket own.limits req
    → EagerSent own lives (new_sent own (known_word before to) count messages req to bytes)
unfolding new_sent
new_eager own lives before count messages req to bytes is fits = record { to = is; fits = fits; silent = fits.0 }

-- each send of an eager life is eager
pub eager_sends : (own : Own) (lives : ℕ → Connid) (ms : Messages) (log : List Deed) → AreEagerDeeds own.limits lives log → (s : Sent) → Member s (sends own ms log) → EagerSent own lives s
unfolding sends
eager_sends own lives ms [] k s m = elim m [ ]
eager_sends own lives ms (d ∷ before) k s m =
    sends_keep own ms d before (λ xs x. EagerSent own lives x)
    (λ x old. eager_sends own lives ms before k.0 x old)
    (λ x t old n was. was)
    (λ t n.
    let did : IsEagerDeed own.limits lives (Did (Send n.req)) = subst (IsEagerDeed own.limits lives) n.by k.1 in
    subst (EagerSent own lives) (sym n.is)
    (new_eager own lives before (length (sends own ms before)) (length (sends_to (sends own ms before) n.to)) n.req n.to
    (bytes_of (regions own.limits.first ms before) n.req.parts)
    (current_the own.limits lives n.req.to.0 before n.to k.0 n.current) did))
    s m

-- a message that has room in one packet goes in one
eager_chosen : (n : ℕ) (tagged cq_data raw : Bool) (features : ℕ) (known : Option ℕ) (limits : EpLimits) → nat_le n (eager_room tagged cq_data raw limits) ≡ true
    → choose n tagged cq_data raw features known limits ≡ Eager
unfolding choose
eager_chosen n tagged cq_data raw features known limits h = rw h refl

-- its message goes in one packet
pub eager_kind : (own : Own) (lives : ℕ → Connid) (s : Sent) → EagerSent own lives s → SentFits own s → s.kind ≡ Eager
eager_kind own lives s p f =
    f.kind_is ∙ eager_chosen (length s.message.bytes) (is_some s.req.tag) (is_some s.req.cq_data) f.raw own.features f.known own.limits
    (subst (λ (n : ℕ). nat_le n (eager_room (is_some s.req.tag) (is_some s.req.cq_data) f.raw own.limits) ≡ true) (spans_total s.req.parts ∙ sym f.size) (p.fits.1 f.raw))
