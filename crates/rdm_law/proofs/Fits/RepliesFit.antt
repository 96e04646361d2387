-- What a life owes for what it took can go.
use Rattle.std.proofs.Common.{◌≡◌, ℕ, Bool, ◌+◌, ◌<◌, ◌≤◌, true, false, ◌&&◌, ltb-true, List, [], ◌∷◌, drop, unwrap_or, Option, Some, None, refl, arith, inl, inr, sym, subst}
use Rattle.std.specs.Prelude.{◌==◌}
use Rattle.std.specs.List.{list_all}
use Rattle.std.proofs.lemmas.Bool.{and_parts}
use Rattle.rdm_lists.specs.Lists.{Member}
use Rattle.rdm_num.specs.Pieces.{covers}
use Rattle.rdm_num.specs.Lives.{same_life}
use Rattle.rdm_num.specs.declared.numbers.Life.{Life}
use Rattle.rdm_num.specs.declared.numbers.OpId.{OpId}
use Rattle.rdm_num.specs.declared.numbers.PortNo.{PortNo}
use Rattle.rdm_num.specs.declared.numbers.MsgNo.{MsgNo}
use Rattle.rdm_num.specs.declared.limits.EpLimits.{EpLimits}
use Rattle.rdm_num.specs.declared.head.Head.{Head}
use Rattle.rdm_num.specs.declared.head.Shape.{Shape}
use Rattle.rdm_num.specs.declared.head.Shape.TheVariants as S
use Rattle.rdm_hdr.specs.Fields.{Number, field_fits}
use Rattle.rdm_pkt.specs.declared.Packet.TheVariants.{Rtm, Eor}
use Rattle.rdm_pkt.specs.declared.Form.{Form}
use Rattle.rdm_pkt.specs.declared.Form.TheVariants.{Eager, Medium, LongCts, LongRead, Runt}
use Rattle.rdm_pkt.specs.Heads.{shape_of, size_of, head_of}
use Rattle.rdm_pkt.specs.Grammar.{form_fields}
use Rattle.rdm_match.specs.Matcher.{Pair, is_pair}
use Rattle.rdm_model.specs.Deeds.{Deed, Took, Spelled}
use Rattle.rdm_model.specs.Beginnings.{Own, Messages, Heads, no_head}
use Rattle.rdm_model.specs.Heard.{head_by, heard_head}
use Rattle.rdm_model.specs.Matches.{pairs}
use Rattle.rdm_model.specs.Parts.{carried_pieces}
use Rattle.rdm_model.specs.Sends.{sends}
use Rattle.rdm_model.specs.Grants.{first_part, window_of, window, granted_bytes}
use Rattle.rdm_model.specs.Replies.{Reply, greeting, receipt_for, end_for}
use Rattle.rdm_model.specs.Dues.{progress}
use Rattle.rdm_model.specs.Local.{heads_by}
use Rattle.rdm_law.proofs.Matching.Numbered.{matching_numbered}
use Rattle.rdm_law.proofs.Replies.Owed.{MetBy, NewReply, OwedIn, owed_in, shape_in, confirm_in, recv_in}
use Rattle.rdm_law.proofs.Accounts.Known.{heard_taken}
use Rattle.rdm_model.proofs.Matches.{pair_heard}
use Rattle.rdm_law.proofs.Replies.Queue.{owed}
use Rattle.rdm_law.proofs.Replies.Answered.{waits_owed}
use Rattle.rdm_law.proofs.Fits.Fitting.{CanGo}
use Rattle.rdm_law.proofs.Fits.SmallBytes.{taken_member, AllTakenFit, TakenFits, rtm_fits, bytes_front, bytes_rest}
use Rattle.rdm_law.proofs.Fits.RegionsFit.{MessagesFit}
use Rattle.rdm_law.proofs.Fits.SentFits.{DeedsFit, deeds_fit_before, sent_fits, receives_count}
use Rattle.rdm_law.proofs.Fits.PacketsFit.{cond_below, cts_fits, eor_fits, receipt_fits, handshake_fits, raw_handshake_fits}
use Rattle.rdm_lists.proofs.Options.{or_else_cases, then_some_parts}
use Rattle.rdm_lists.proofs.Places.{slice_get-member}

-- the numbers of a shape are in their ranges
abbrev pub ShapeFits : Shape → ℕ → Type 0
ShapeFits S.Eager size = Unit {0}
ShapeFits S.Medium size = Unit {0}
ShapeFits (S.LongCts send credits) size = (send.0 < 4294967296) × (size < 18446744073709551616)
ShapeFits (S.LongRead send iov) size = send.0 < 4294967296
ShapeFits (S.Runt send iov runt) size = send.0 < 4294967296

-- the numbers of each head are
abbrev pub HeadsFit : Heads → Type 0
HeadsFit heads = (source : Life) (n : ℕ) → ShapeFits (heads source n).shape (heads source n).length

-- the numbers of a form's shape are in their ranges
form_shape : (form : Form) → list_all field_fits (form_fields form) ≡ true → ShapeFits (shape_of form) (size_of form)
unfolding form_fields shape_of size_of field_fits
form_shape (Eager bytes) h = tt
form_shape (Medium size offset bytes) h = tt
form_shape (LongCts size send credits bytes) h =
    let a = and_parts (field_fits (Number 8 size)) _ h in
    let b = and_parts (field_fits (Number 4 send.0)) _ a.1 in
    (ltb-true send.0 4294967296 b.0, ltb-true size 18446744073709551616 a.0)
form_shape (LongRead size send iov) h =
    let a = and_parts (field_fits (Number 8 size)) _ h in
    let b = and_parts (field_fits (Number 4 send.0)) _ a.1 in
    ltb-true send.0 4294967296 b.0
form_shape (Runt size send iov runt offset bytes) h =
    let a = and_parts (field_fits (Number 8 size)) _ h in
    let b = and_parts (field_fits (Number 4 send.0)) _ a.1 in
    ltb-true send.0 4294967296 b.0

-- so are those of a head that a deed tells
head_by_fits : (source : Life) (n : ℕ) (d : Deed) (h : Head) → TakenFits d → head_by source n d ≡ Some h → ShapeFits h.shape h.length
unfolding head_by head_of
head_by_fits source n (Took from (Spelled (Rtm number tag confirm opt form))) h fit is =
    subst (λ (x : Head). ShapeFits x.shape x.length) (then_some_parts (same_life from source && number.0 == n) (head_of tag confirm opt form) h is).1
    (form_shape form (rtm_fits number tag confirm opt form fit).header)
head_by_fits source n _ h fit is = cc

-- so are those of a head that was heard
heard_fits : (log : List Deed) (source : Life) (n : ℕ) (h : Head) → AllTakenFit log → heard_head log source n ≡ Some h → ShapeFits h.shape h.length
unfolding heard_head
heard_fits [] source n h fit is = cc
heard_fits (d ∷ before) source n h fit is =
    elim (or_else_cases (heard_head before source n) (head_by source n d) h is) [
      | inl a ↦ heard_fits before source n h fit.0 a
      | inr a ↦ head_by_fits source n d h fit.1 a.1
    ]

-- so are those of a head, or of none
head_or_none : (o : Option Head) → ((h : Head) → o ≡ Some h → ShapeFits h.shape h.length) → ShapeFits (unwrap_or o no_head).shape (unwrap_or o no_head).length
head_or_none None f = tt
head_or_none (Some h) f = f h refl

-- the numbers of the heads that were heard
pub heads_fit : (log : List Deed) → AllTakenFit log → HeadsFit (heads_by log)
unfolding heads_by
heads_fit log fit source n = head_or_none (heard_head log source n) (λ h is. heard_fits log source n h fit is)

-- a window is no longer than its message
window_of_bound : (limits : EpLimits) (head : Head) (shape : Shape) (granted : ℕ) → window_of limits head shape granted ≤ head.length
unfolding window_of
window_of_bound limits head (S.LongCts send credits) granted = omega arith
window_of_bound limits head S.Eager granted = omega arith
window_of_bound limits head S.Medium granted = omega arith
window_of_bound limits head (S.LongRead send iov) granted = omega arith
window_of_bound limits head (S.Runt send iov runt) granted = omega arith

-- a window is no longer than its message
pub window_bound : (limits : EpLimits) (heads : Heads) (log : List Deed) (p : Pair) (granted : ℕ) → window limits heads log p granted ≤ (heads p.message.life p.message.no.0).length
unfolding window
window_bound limits heads log p granted =
    let source = p.message.life in
    let n = p.message.no.0 in
    let so_far : ℕ = first_part log source n + granted in
    cond_below (is_pair (pairs limits.first heads log) p.recv.id.0 source n && covers (carried_pieces limits.first heads log source n) so_far)
    (window_of limits (heads source n) (heads source n).shape so_far) 0 (heads source n).length (window_of_bound limits (heads source n) (heads source n).shape so_far) (omega arith)

-- what an endpoint begins with has its numbers in their ranges
pub record OwnFits (own : Own) : Type 0 where
  pub port : own.life.port.0 < 4294967296
  pub connid : own.life.connid.0 < 4294967296
  pub features : own.features < 18446744073709551616

-- the number of a pair's receive is in its range
pair_recv : (ports : ℕ) (own : Own) (heads : Heads) (log : List Deed) (p : Pair) → DeedsFit ports own.limits.first log → Member p (pairs own.limits.first heads log)
    → p.recv.id.0 < 4294967296
pair_recv ports own heads log p fit m =
    let a = (matching_numbered own.limits.first heads log).pairs_below p m in
    let b = receives_count log in
    let c = fit.count in
    omega arith

-- so is the number of the send that an end names
end_send : (own : Own) (shape : Shape) (confirm : Bool) (number : MsgNo) (recv send : OpId) (size : ℕ) → end_for own shape confirm number recv ≡ Spelled (Eor send recv own.life.connid) ∷ [] → ShapeFits shape size → send.0 < 4294967296
unfolding end_for receipt_for
end_send own (S.LongRead s iov) confirm number recv send size is h = (let e : s ≡ send = cc in subst (λ (x : OpId). x.0 < 4294967296) e h)
end_send own (S.Runt s iov runt) confirm number recv send size is h = (let e : s ≡ send = cc in subst (λ (x : OpId). x.0 < 4294967296) e h)
end_send own S.Eager true number recv send size is h = cc
end_send own S.Eager false number recv send size is h = cc
end_send own S.Medium true number recv send size is h = cc
end_send own S.Medium false number recv send size is h = cc
end_send own (S.LongCts s credits) true number recv send size is h = cc
end_send own (S.LongCts s credits) false number recv send size is h = cc

-- a greeting, with the raw address or without
greeting_fits : (own : Own) (d : Deed) (life : Life) (raw : Option PortNo) → OwnFits own → MetBy own d life raw → CanGo (greeting own raw)
greeting_fits own d life raw o (inl a) = subst (λ (x : Option PortNo). CanGo (greeting own x)) (sym a.2) (handshake_fits own.features own.life.connid o.features o.connid)
greeting_fits own d life raw o (inr a) = subst (λ (x : Option PortNo). CanGo (greeting own x)) (sym a.1) (raw_handshake_fits own.features own.life o.features o.port o.connid)

-- the number of a pair's message
pair_number : (first : ℕ) (heads : Heads) (log : List Deed) (p : Pair) → AllTakenFit log → Member p (pairs first heads log) → p.message.no.0 < 4294967296
pair_number first heads log p fit m =
    let h = pair_heard first heads log p m in
    let t = heard_taken log p.message.life p.message.no.0 h.0 h.1 in
    let taken = taken_member p.message.life (Spelled (Rtm t.number t.tag t.confirm t.opt t.form)) log fit t.took in
    subst (λ (x : ℕ). x < 4294967296) t.number_is (rtm_fits t.number t.tag t.confirm t.opt t.form taken).number_fits

-- what a deed makes owed
new_reply_fits : (ports : ℕ) (own : Own) (ms : Messages) (d : Deed) (before : List Deed) (r : Reply) → OwnFits own → MessagesFit ms → HeadsFit ms.head
    → DeedsFit ports own.limits.first (d ∷ before) → AllTakenFit (d ∷ before) → NewReply own ms.head (sends own ms before) d before r → CanGo r.item
new_reply_fits ports own ms d before r o h k fit taken (inl new) = subst CanGo (sym new.is) (greeting_fits own d r.to new.raw o new.how)
new_reply_fits ports own ms d before r o h k fit taken (inr (inl new)) = subst CanGo (sym new.is) tt
new_reply_fits ports own ms d before r o h k fit taken (inr (inr (inl new))) =
    let p = new.pair in
    let size = window own.limits ms.head (d ∷ before) p (granted_bytes own.limits ms.head before p) in
    let shape : ShapeFits (S.LongCts new.send new.credits) (ms.head p.message.life p.message.no.0).length =
    subst (λ (x : Shape). ShapeFits x (ms.head p.message.life p.message.no.0).length) new.shape_is (k p.message.life p.message.no.0) in
    let bound = window_bound own.limits ms.head (d ∷ before) p (granted_bytes own.limits ms.head before p) in
    let short = shape.1 in
    subst CanGo (sym new.is) (cts_fits new.send (recv_in p) size own.life.connid shape.0 (pair_recv ports own ms.head (d ∷ before) p fit new.member) new.has_byte (omega arith) o.connid)
new_reply_fits ports own ms d before r o h k fit taken (inr (inr (inr (inl new)))) =
    let p = new.pair in
    let send = end_send own (shape_in ms.head p) (confirm_in ms.head p) p.message.no (recv_in p) new.send (ms.head p.message.life p.message.no.0).length new.shape_is (k p.message.life p.message.no.0) in
    subst CanGo (sym new.is) (eor_fits new.send (recv_in p) own.life.connid send (pair_recv ports own ms.head (d ∷ before) p fit new.member) o.connid)
new_reply_fits ports own ms d before r o h k fit taken (inr (inr (inr (inr (inl new))))) =
    subst CanGo (sym new.is) (receipt_fits new.pair.message.no own.life.connid (pair_number own.limits.first ms.head (d ∷ before) new.pair taken new.member) o.connid)
new_reply_fits ports own ms d before r o h k fit taken (inr (inr (inr (inr (inr new))))) =
    let s = sent_fits ports own ms before h (deeds_fit_before ports own.limits.first d before fit) new.sent new.member in
    subst CanGo (sym new.is) (bytes_front new.ask.length (drop new.ask.at new.sent.message.bytes) (bytes_rest new.ask.at new.sent.message.bytes s.bytes))

-- each reply that was owed can go
owed_fits : (ports : ℕ) (own : Own) (ms : Messages) (log : List Deed) (r : Reply) → OwnFits own → MessagesFit ms → HeadsFit ms.head → DeedsFit ports own.limits.first log
    → AllTakenFit log → OwedIn own ms r log → CanGo r.item
owed_fits ports own ms [] r o h k fit taken i = elim i [ ]
owed_fits ports own ms (d ∷ before) r o h k fit taken (inl new) = new_reply_fits ports own ms d before r o h k fit taken new
owed_fits ports own ms (d ∷ before) r o h k fit taken (inr i) = owed_fits ports own ms before r o h k (deeds_fit_before ports own.limits.first d before fit) taken.0 i

-- each reply that waits can go
pub replies_fit : (ports : ℕ) (own : Own) (ms : Messages) (log : List Deed) (r : Reply) → OwnFits own → MessagesFit ms → HeadsFit ms.head → DeedsFit ports own.limits.first log
    → AllTakenFit log → Member r (progress own ms log).replies → CanGo r.item
replies_fit ports own ms log r o h k fit taken m =
    let w = waits_owed own ms log r m in
    owed_fits ports own ms log r o h k fit taken (owed_in own ms log r (slice_get-member (owed own ms log) w.0.place r w.3))
