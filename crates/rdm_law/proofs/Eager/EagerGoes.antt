-- What goes out next from an eager life.
use Rattle.std.proofs.Common.{◌≡◌, ℕ, List, ◌∷◌, Some, refl, inl, inr, sym, ◌∙◌, ap, subst}
use Rattle.rdm_lists.specs.Lists.{Member}
use Rattle.rdm_num.specs.declared.numbers.Connid.{Connid}
use Rattle.rdm_num.specs.declared.numbers.Life.{Life}
use Rattle.rdm_pkt.specs.declared.Packet.{Packet}
use Rattle.rdm_pkt.specs.declared.Form.TheVariants as F
use Rattle.rdm_pkt.specs.declared.Kind.{Kind}
use Rattle.rdm_pkt.specs.declared.Kind.TheVariants.{Eager, LongCts}
use Rattle.rdm_pkt.specs.Openings.{rtm, openings}
use Rattle.rdm_model.specs.Deeds.{Deed, Item, Spelled}
use Rattle.rdm_model.specs.Beginnings.{Own, Messages, Heads}
use Rattle.rdm_model.specs.Sends.{Sent, sends}
use Rattle.rdm_model.specs.Replies.{Reply}
use Rattle.rdm_model.specs.Dues.{Due, Replies, Sends, progress, due}
use Rattle.rdm_model.specs.Going.{Goes, due_going}
use Rattle.rdm_model.specs.Local.{heads_by}
use Rattle.rdm_model.proofs.Numbers.{placed}
use Rattle.rdm_model.proofs.Dues.{SendDue, due_cases, next_is}
use Rattle.rdm_model.proofs.Pushes.{pushed_of, underway}
use Rattle.rdm_law.proofs.Replies.Owed.{owed_in}
use Rattle.rdm_law.proofs.Replies.Queue.{owed}
use Rattle.rdm_law.proofs.Replies.Answered.{waits_owed}
use Rattle.rdm_law.proofs.Fits.SentFits.{SentFits}
use Rattle.rdm_law.proofs.Fits.DuesFit.{reply_no_send}
use Rattle.rdm_law.proofs.Eager.EagerDeeds.{IsEagerPacket, IsEagerLoad, IsTheLife, AreEagerDeeds}
use Rattle.rdm_law.proofs.Eager.EagerDues.{IsEagerHead, IsEagerGoing, all_eager, eager_owed, eager_sends, eager_kind}
use Rattle.rdm_lists.proofs.Members.{member-append_right}
use Rattle.rdm_lists.proofs.Places.{slice_get-member}

-- the one packet of a whole message
only_opening : (own : Own) (s : Sent) (p : Packet) → s.kind ≡ Eager → Member p (openings own.limits s.message s.kind) → rtm s.message (F.Eager s.message.bytes) ≡ p
unfolding openings
only_opening own s p is m =
    let one : Member p (openings own.limits s.message Eager) = subst (λ (k : Kind). Member p (openings own.limits s.message k)) is m in
    elim one [ inl same ↦ same | inr never ↦ elim never [ ] ]

-- a whole message is not a granted one
eager_no_long : Eager ≡ LongCts → ⊥
eager_no_long h = cc

-- the next packet of an eager send is its message's
eager_send : (own : Own) (lives : ℕ → Connid) (ms : Messages) (log : List Deed) (t : Due) → AreEagerDeeds own.limits lives log → ((s : Sent) → Member s (sends own ms log) → SentFits own s)
    → (r : SendDue own log (pushed_of own ms log) (sends own ms log) t) → IsTheLife lives r.sent.to × IsEagerPacket own.limits.first r.packet
eager_send own lives ms log t k fit r =
    let s = r.sent in
    let p = eager_sends own lives ms log k s r.member in
    let kind = eager_kind own lives s p (fit s r.member) in
    elim (next_is own log s (pushed_of own ms log s.number) r.packet (underway own ms log s r.member) r.next) [
      | inl a ↦
          let m : Member r.packet (openings own.limits s.message s.kind) =
          subst (λ (ps : List Packet). Member r.packet ps) (sym a.1) (member-append_right r.packet (pushed_of own ms log s.number) (r.packet ∷ a.0) (inl refl)) in
          (p.to, subst (IsEagerPacket own.limits.first) (only_opening own s r.packet kind m) (p.silent, (placed own ms log s r.member).0))
      | inr a ↦ (let long = a.3.long in absurd (eager_no_long (sym kind ∙ long)))
    ]

-- what goes out next from an eager life goes to the one life of a port: a message in one packet, or a handshake
pub eager_due : (own : Own) (lives : ℕ → Connid) (ms : Messages) (log : List Deed) (t : Due) (to : Life) (item : Item) → AreEagerDeeds own.limits lives log → ms.head ≡ heads_by log
    → ((s : Sent) → Member s (sends own ms log) → SentFits own s)
    → due own ms log ≡ Some t → due_going (Some t) ≡ Some (Goes to item) → IsEagerGoing own lives to item
unfolding due_going
eager_due own lives ms log (Replies r) to item k heads fit is goes =
    elim (due_cases own ms log (Replies r) is) [
      | inl a ↦
          let same : a.0 ≡ r = (let e = a.2 in cc) in
          let waits : Member r (progress own ms log).replies = subst (λ (x : Reply). Member x (progress own ms log).replies) same (slice_get-member (progress own ms log).replies 0 a.0 a.1) in
          let w = waits_owed own ms log r waits in
          let plain = eager_owed own lives ms log r (λ source n. subst (λ (hs : Heads). IsEagerHead (hs source n)) (sym heads) (all_eager own lives log k source n)) k
          (owed_in own ms log r (slice_get-member (owed own ms log) w.0.place r w.3)) in
          let to_is : r.to ≡ to = cc in
          let item_is : r.item ≡ item = cc in
          (subst (IsTheLife lives) to_is plain.0, subst (IsEagerLoad own.limits.first) item_is plain.1)
      | inr a ↦ (let e = a.1.is in absurd (reply_no_send r a.1.sent a.1.packet e))
    ]
eager_due own lives ms log (Sends s p) to item k heads fit is goes =
    elim (due_cases own ms log (Sends s p) is) [
      | inl a ↦ absurd (reply_no_send a.0 s p (sym a.2))
      | inr a ↦
          let plain = eager_send own lives ms log (Sends s p) k fit a.1 in
          let sent : a.1.sent ≡ s = (let e = a.1.is in cc) in
          let packet : a.1.packet ≡ p = (let e = a.1.is in cc) in
          let to_is : s.to ≡ to = cc in
          let item_is : Spelled p ≡ item = cc in
          (subst (IsTheLife lives) to_is (subst (λ (x : Sent). IsTheLife lives x.to) sent plain.0), subst (IsEagerLoad own.limits.first) item_is (subst (IsEagerPacket own.limits.first) packet plain.1))
    ]
