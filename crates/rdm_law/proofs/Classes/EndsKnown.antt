-- An end that a life took is of the pair of its send's message, whose receive is filled.
use Rattle.std.proofs.Common.{◌≡◌, ℕ, Bool, true, false, List, [], ◌∷◌, refl, sym, ◌∙◌, ap, subst}
use Rattle.std.specs.Prelude.{nat_eq}
use Rattle.std.specs.List.{list_any}
use Rattle.std.proofs.lemmas.Bool.{and_parts, eqb-true}
use Rattle.rdm_lists.specs.Lists.{Member}
use Rattle.rdm_num.specs.Lives.{same_life, op_id}
use Rattle.rdm_num.specs.declared.numbers.Life.{Life}
use Rattle.rdm_num.specs.declared.numbers.OpId.{OpId}
use Rattle.rdm_num.specs.declared.numbers.MsgNo.{MsgNo}
use Rattle.rdm_num.specs.declared.numbers.Connid.{Connid}
use Rattle.rdm_num.specs.declared.limits.EpLimits.{EpLimits}
use Rattle.rdm_num.specs.declared.head.Head.{Head}
use Rattle.rdm_num.specs.declared.head.Shape.{Shape}
use Rattle.rdm_pkt.specs.declared.Packet.TheVariants.{Eor}
use Rattle.rdm_pkt.specs.declared.Kind.{Kind}
use Rattle.rdm_pkt.specs.declared.Kind.TheVariants.{Eager, Medium, LongCts, LongRead, Runt}
use Rattle.rdm_pkt.specs.Openings.{Message, shape_by, message_head}
use Rattle.rdm_match.specs.Matcher.{Pair}
use Rattle.rdm_wire.specs.declared.Datagram.{Datagram}
use Rattle.rdm_model.specs.declared.job.Job.{Job}
use Rattle.rdm_model.specs.declared.entry.Entry.{Entry}
use Rattle.rdm_model.specs.Deeds.{Deed, Took, Spelled}
use Rattle.rdm_model.specs.Beginnings.{Own, own_of}
use Rattle.rdm_model.specs.Replies.{receipt_for, end_for}
use Rattle.rdm_model.specs.Receives.{is_filled}
use Rattle.rdm_model.specs.Dues.{is_read, ends_send}
use Rattle.rdm_model.specs.Lawful.{life_deeds}
use Rattle.rdm_law.proofs.Replies.Owed.{shape_in, confirm_in, ends_in, recv_in}
use Rattle.rdm_law.proofs.Replies.Causes.{owed_end}
use Rattle.rdm_law.proofs.Accounts.Wired.{Played, TakenDue, Taken, taken_pushed}
use Rattle.rdm_law.proofs.Accounts.Known.{account, sends_of, Known}
use Rattle.rdm_law.proofs.Accounts.Named.{pairs_of, pair_known, went_reply, head_shape, send_number}
use Rattle.rdm_lists.proofs.Members.{list_any_member}
use Rattle.rdm_num.proofs.Lives.{same_life-true}

-- a message whose receive owes an end is read, and the end names its send
end_shape : (own : Own) (limits : EpLimits) (m : Message) (kind : Kind) (confirm : Bool) (number : MsgNo) (recv send recv' : OpId) (connid : Connid)
    → end_for own (shape_by limits m kind) confirm number recv ≡ Spelled (Eor send recv' connid) ∷ [] → (m.send ≡ send) × (is_read kind ≡ true)
unfolding end_for receipt_for shape_by is_read
end_shape own limits m Eager true number recv send recv' connid h = cc
end_shape own limits m Eager false number recv send recv' connid h = cc
end_shape own limits m Medium true number recv send recv' connid h = cc
end_shape own limits m Medium false number recv send recv' connid h = cc
end_shape own limits m LongCts true number recv send recv' connid h = cc
end_shape own limits m LongCts false number recv send recv' connid h = cc
end_shape own limits m LongRead confirm number recv send recv' connid h = (cc, refl)
end_shape own limits m (Runt runt) confirm number recv send recv' connid h = (cc, refl)

-- the pair of an end, and the send that it ends
pub record EndSend (job : Job) (history : List Entry) (i j : Life) (send recv : ℕ) : Type 0 where
  pub pair : Pair
  pub member : Member pair (pairs_of job history i)
  pub recv_is : pair.recv.id.0 ≡ recv
  pub life_is : pair.message.life ≡ j
  pub known : Known job history i j pair.message.no.0
  pub sent_member : Member known.sent (sends_of job history j)
  pub number_is : known.sent.number ≡ send
  pub read : is_read known.sent.kind ≡ true
  pub filled : is_filled (own_of job i).limits.first (account job history i).head (life_deeds job history i) pair ≡ true
  pub head_is : (account job history i).head pair.message.life pair.message.no.0 ≡ message_head job.limits known.sent.message known.sent.kind

-- an end of a pair names the send of its message
end_send_at : (job : Job) (history : List Entry) (i j source : Life) (send recv : OpId) (connid : Connid) (p : Pair) → source ≡ j → Member p (pairs_of job history i)
    → p.message.life ≡ source → (k : Known job history i source p.message.no.0)
    → (account job history i).head p.message.life p.message.no.0 ≡ message_head job.limits k.sent.message k.sent.kind
    → is_filled (own_of job i).limits.first (account job history i).head (life_deeds job history i) p ≡ true
    → ends_in (own_of job i) (account job history i).head p ≡ Spelled (Eor send recv connid) ∷ [] → recv.0 ≡ p.recv.id.0 → EndSend job history i j send.0 recv.0
end_send_at job history i j source send recv connid p e m l k head filled shape r =
    let member : Member k.sent (sends_of job history j) = subst (λ (x : Life). Member k.sent (sends_of job history x)) e k.member in
    let s : shape_in (account job history i).head p ≡ shape_by job.limits k.sent.message k.sent.kind =
    ap (λ (x : Head). x.shape) head ∙ head_shape job.limits k.sent.message k.sent.kind in
    let is = end_shape (own_of job i) job.limits k.sent.message k.sent.kind (confirm_in (account job history i).head p) p.message.no (recv_in p) send recv connid
    (subst (λ (x : Shape). end_for (own_of job i) x (confirm_in (account job history i).head p) p.message.no (recv_in p) ≡ Spelled (Eor send recv connid) ∷ []) s shape) in
    record {
      pair = p;
      member = m;
      recv_is = sym r;
      life_is = l ∙ e;
      known = record { sent = k.sent; member = member; to_is = k.to_is; number_is = k.number_is };
      sent_member = member;
      number_is = ap (λ (x : OpId). x.0) (sym (send_number job history j k.sent member) ∙ is.0);
      read = is.1;
      filled = filled;
      head_is = head;
    }

-- an end that a life pushed is of a filled pair
pub end_went : (job : Job) (history : List Entry) (j i : Life) (send recv : OpId) (connid : Connid) (d : Datagram) → Played job history
    → TakenDue job history j i (Spelled (Eor send recv connid)) d → EndSend job history i j send.0 recv.0
end_went job history j i send recv connid d played t =
    let r = went_reply job history j i (Eor send recv connid) d t (λ x. x) in
    let o = owed_end (own_of job i) (account job history i) (life_deeds job history i) r.reply send recv connid r.owed r.is in
    let k = pair_known job history i o.pair played o.member in
    end_send_at job history i j o.pair.message.life send recv connid o.pair (o.to_is ∙ r.to_is) o.member refl k.known k.head_is o.filled o.shape_is
    (ap (λ (x : OpId). x.0) o.recv_is)

-- the deed that took the end of a send
pub ends_send_took : (peer : Life) (send : ℕ) (d : Deed) → ends_send peer send d ≡ true
    → (recv : OpId) × (connid : Connid) × (d ≡ Took peer (Spelled (Eor (op_id send) recv connid)))
unfolding ends_send
ends_send_took peer send (Took from (Spelled (Eor s recv connid))) h =
    let p = and_parts (same_life from peer) (nat_eq s.0 send) h in
    let l = same_life-true from peer p.0 in
    let n : s ≡ op_id send = ap (λ (x : ℕ). op_id x) (eqb-true s.0 send p.1) in
    (recv, connid, ap (λ (x : Life). Took x (Spelled (Eor s recv connid))) l ∙ ap (λ (x : OpId). Took peer (Spelled (Eor x recv connid))) n)
ends_send_took peer send _ h = cc

-- an end of a send that was taken is of a filled pair
pub record EndTaken (job : Job) (history : List Entry) (j i : Life) (send : ℕ) : Type 0 where
  pub recv : OpId
  pub connid : Connid
  pub taken : Taken job history j i (Spelled (Eor (op_id send) recv connid))
  pub of : EndSend job history i j send recv.0

-- so is one that was taken
pub end_taken : (job : Job) (history : List Entry) (j i : Life) (send : ℕ) → Played job history → list_any (ends_send i send) (life_deeds job history j) ≡ true
    → EndTaken job history j i send
end_taken job history j i send played h =
    let r = list_any_member (ends_send i send) (life_deeds job history j) h in
    let e = ends_send_took i send r.0 r.2 in
    let took : Member (Took i (Spelled (Eor (op_id send) e.0 e.1))) (life_deeds job history j) = subst (λ (x : Deed). Member x (life_deeds job history j)) e.2 r.1 in
    let t = taken_pushed job history j i (Spelled (Eor (op_id send) e.0 e.1)) played took in
    record { recv = e.0; connid = e.1; taken = t; of = end_went job history j i (op_id send) e.0 e.1 t.datagram played t.taken }
