-- At a settled end a matched message between standing lives has come whole, and its send is over.
use Rattle.std.proofs.Common.{◌≡◌, ℕ, ◌<◌, ◌≤◌, Bool, true, false, List, [], ◌∷◌, length, None, refl, arith, ◌⊎◌, inl, inr, sym, ◌∙◌, ap, subst}
use Rattle.std.specs.Prelude.{is_some, ◌==◌}
use Rattle.std.specs.List.{list_any}
use Rattle.std.proofs.lemmas.Bool.{cases_Bool, and_from, cases_lt, eq-eqb}
use Rattle.std.proofs.lemmas.List.{length-take}
use Rattle.rdm_lists.specs.Lists.{Member}
use Rattle.rdm_num.specs.Lives.{same_life, op_id}
use Rattle.rdm_num.specs.Pieces.{byte_at, covers}
use Rattle.rdm_num.specs.declared.numbers.Life.{Life}
use Rattle.rdm_num.specs.declared.numbers.OpId.{OpId}
use Rattle.rdm_num.specs.declared.numbers.MsgNo.{MsgNo}
use Rattle.rdm_num.specs.declared.numbers.Connid.{Connid}
use Rattle.rdm_num.specs.declared.limits.EpLimits.{EpLimits}
use Rattle.rdm_num.specs.declared.head.Head.{Head}
use Rattle.rdm_num.specs.declared.head.Shape.{Shape}
use Rattle.rdm_pkt.specs.declared.Packet.TheVariants.{Eor, Receipt}
use Rattle.rdm_pkt.specs.declared.Kind.{Kind}
use Rattle.rdm_pkt.specs.declared.Kind.TheVariants.{Eager, Medium, LongCts, LongRead, Runt}
use Rattle.rdm_pkt.specs.Openings.{Message, shape_by, message_head}
use Rattle.rdm_match.specs.Matcher.{Pair, is_pair}
use Rattle.rdm_model.specs.declared.job.Job.{Job}
use Rattle.rdm_model.specs.declared.entry.Entry.{Entry}
use Rattle.rdm_model.specs.Deeds.{Deed, Took, Item, Spelled}
use Rattle.rdm_model.specs.Beginnings.{Own, Messages, own_of}
use Rattle.rdm_model.specs.Parts.{carried_pieces, has_landed}
use Rattle.rdm_model.specs.Receives.{is_filled}
use Rattle.rdm_model.specs.Replies.{reply, receipt_for, end_for}
use Rattle.rdm_model.specs.Sends.{Sent, sends}
use Rattle.rdm_model.specs.Targets.{read_from}
use Rattle.rdm_model.specs.Currents.{is_forgotten}
use Rattle.rdm_model.specs.Dues.{is_read, is_over, ends_send, confirms, next_packet}
use Rattle.rdm_model.specs.Lawful.{life_deeds}
use Rattle.rdm_model.specs.Local.{heard_by}
use Rattle.rdm_model.proofs.Matches.{member_is_pair}
use Rattle.rdm_model.proofs.Opens.{opened_bytes}
use Rattle.rdm_model.proofs.Numbers.{sends_one}
use Rattle.rdm_model.proofs.Pushes.{pushed_of, underway}
use Rattle.rdm_model.proofs.Served.{done_bytes}
use Rattle.rdm_law.proofs.Accounts.Known.{account}
use Rattle.rdm_law.proofs.Accounts.Named.{pairs_of, send_number, head_length, head_shape}
use Rattle.rdm_law.proofs.Classes.ClassAsks.{message_one}
use Rattle.rdm_law.proofs.Classes.EndsKnown.{end_taken}
use Rattle.rdm_law.proofs.Replies.Owed.{shape_in, recv_in, confirm_in, ends_in}
use Rattle.rdm_law.proofs.Lives.Lives.{LifeLocal}
use Rattle.rdm_law.proofs.Accounts.Wired.{own_life}
use Rattle.rdm_law.proofs.Ends.Overs.{over_by, over_from, read_by}
use Rattle.rdm_law.proofs.Settled.AllEnters.{stands, rest_pushed}
use Rattle.rdm_law.proofs.Settled.OwedBack.{end_owed}
use Rattle.rdm_law.proofs.Settled.PushedLands.{pushed_landed}
use Rattle.rdm_law.proofs.Settled.WholePushed.{opened_done, IsAtOnce, at_once_done, whole_over}
use Rattle.rdm_law.proofs.Settled.ReadLands.{IsReplied, Matched, rest_of, owed_taken, asked_landed}
use Rattle.rdm_lists.proofs.Members.{member_list_any}
use Rattle.rdm_num.proofs.Lives.{same_life-refl}
use Rattle.rdm_lists.proofs.Below.{each_below_from}

-- a matched message of which all bytes are there is filled
filled_from : (job : Job) (history : List Entry) (i j : Life) (p : Pair) (s : Sent) → Matched job history i j p s
    → ((place : ℕ) → place < length s.message.bytes → is_some (byte_at (carried_pieces (own_of job i).limits.first (account job history i).head (life_deeds job history i) j p.message.no.0) place) ≡ true)
    → is_filled (own_of job i).limits.first (account job history i).head (life_deeds job history i) p ≡ true
unfolding is_filled has_landed covers
filled_from job history i j p s m all =
    let first = (own_of job i).limits.first in
    let heads = (account job history i).head in
    let log = life_deeds job history i in
    let size : (heads p.message.life p.message.no.0).length ≡ length s.message.bytes = ap (λ (h : Head). h.length) m.head_is ∙ head_length job.limits s.message s.kind in
    let here : (place : ℕ) → place < (heads p.message.life p.message.no.0).length → is_some (byte_at (carried_pieces first heads log p.message.life p.message.no.0) place) ≡ true = λ place lt.
    subst (λ (l : Life). is_some (byte_at (carried_pieces first heads log l p.message.no.0) place) ≡ true) (sym m.life_is) (all place (omega arith)) in
    and_from (is_pair (pairs_of job history i) p.recv.id.0 p.message.life p.message.no.0) _ (member_is_pair (pairs_of job history i) p m.member)
    (each_below_from (λ place. is_some (byte_at (carried_pieces first heads log p.message.life p.message.no.0) place)) (heads p.message.life p.message.no.0).length here)

-- bytes that were pushed of a matched message are there
there_at : (job : Job) (history : List Entry) (i j : Life) (p : Pair) (s : Sent) (place : ℕ) → Matched job history i j p s
    → place < done_bytes (own_of job j) (account job history j) (life_deeds job history j) s.number
    → is_some (byte_at (carried_pieces (own_of job i).limits.first (account job history i).head (life_deeds job history i) j p.message.no.0) place) ≡ true
there_at job history i j p s place m lt =
    subst (λ (n : ℕ). is_some (byte_at (carried_pieces (own_of job i).limits.first (account job history i).head (life_deeds job history i) j n) place) ≡ true) m.number_is
    (pushed_landed job history i j s place m.here m.sent m.to_is m.heard lt)

-- a message that was pushed whole is filled
pub pushed_filled : (job : Job) (history : List Entry) (i j : Life) (p : Pair) (s : Sent) → Matched job history i j p s
    → length s.message.bytes ≤ done_bytes (own_of job j) (account job history j) (life_deeds job history j) s.number
    → is_filled (own_of job i).limits.first (account job history i).head (life_deeds job history i) p ≡ true
pushed_filled job history i j p s m le = filled_from job history i j p s m (λ place lt. there_at job history i j p s place m (omega arith))

-- what comes ahead of a read is opened
ahead_opened : (own : Own) (s : Sent) (kind : Kind) (place : ℕ) → is_read kind ≡ true → place < read_from kind → place < length s.message.bytes → place < opened_bytes own.limits s.message kind
unfolding is_read read_from opened_bytes
ahead_opened own s LongRead place r low high = omega arith
ahead_opened own s (Runt runt) place r low high = let t = length-take runt s.message.bytes in omega arith
ahead_opened own s Eager place r low high = cc
ahead_opened own s Medium place r low high = cc
ahead_opened own s LongCts place r low high = cc

-- the receiver was not forgotten
kept_of : (job : Job) (history : List Entry) (i j : Life) (p : Pair) (s : Sent) → Matched job history i j p s → is_forgotten (life_deeds job history j) s.to ≡ false
kept_of job history i j p s m = subst (λ (l : Life). is_forgotten (life_deeds job history j) l ≡ false) (sym m.to_is) (stands job history i j m.here)

-- a message whose send was read to its end is filled
ended_filled : (job : Job) (history : List Entry) (i j : Life) (p : Pair) (s : Sent) → Matched job history i j p s → list_any (ends_send s.to s.number) (life_deeds job history j) ≡ true
    → is_filled (own_of job i).limits.first (account job history i).head (life_deeds job history i) p ≡ true
ended_filled job history i j p s m h =
    let log = life_deeds job history j in
    let e = (end_taken job history j i s.number m.here.played (subst (λ (l : Life). list_any (ends_send l s.number) log ≡ true) m.to_is h)).of in
    let same : e.known.sent ≡ s = sends_one (own_of job j) (account job history j) log e.known.sent s e.sent_member m.sent e.number_is in
    let number : e.pair.message.no.0 ≡ p.message.no.0 = sym e.known.number_is ∙ ap (λ (t : Sent). t.message.no.0) same ∙ m.number_is in
    let one : e.pair ≡ p = message_one job history i e.pair p e.member m.member (e.life_is ∙ sym m.life_is) number in
    subst (λ (q : Pair). is_filled (own_of job i).limits.first (account job history i).head (life_deeds job history i) q ≡ true) one e.filled

-- a matched message that is read is filled
read_filled : (job : Job) (history : List Entry) (i j : Life) (p : Pair) (s : Sent) → Matched job history i j p s → is_read s.kind ≡ true
    → is_filled (own_of job i).limits.first (account job history i).head (life_deeds job history i) p ≡ true
read_filled job history i j p s m r =
    let own = own_of job j in
    let ms = account job history j in
    let log = life_deeds job history j in
    elim ((rest_of job history i j m.here).each s m.sent) [
      | inl over ↦ ended_filled job history i j p s m (read_by log (pushed_of own ms log s.number) s r (over_by log (pushed_of own ms log s.number) s over (kept_of job history i j p s m)))
      | inr none ↦ (
          let done = opened_done own log s (pushed_of own ms log s.number) (underway own ms log s m.sent) none in
          filled_from job history i j p s m (λ place lt. elim (cases_lt place (read_from s.kind)) [
            | inl ahead ↦ (let o = ahead_opened own s s.kind place r ahead lt in there_at job history i j p s place m (omega arith))
            | inr read ↦ asked_landed job history i j p s place m r read lt
          ]))
    ]

-- the end that a read message owes
owes_end : (own : Own) (limits : EpLimits) (m : Message) (kind : Kind) (confirm : Bool) (number : MsgNo) (recv : OpId) → is_read kind ≡ true
    → Member (Spelled (Eor m.send recv own.life.connid)) (end_for own (shape_by limits m kind) confirm number recv)
unfolding is_read shape_by end_for
owes_end own limits m LongRead confirm number recv r = inl refl
owes_end own limits m (Runt runt) confirm number recv r = inl refl
owes_end own limits m Eager confirm number recv r = cc
owes_end own limits m Medium confirm number recv r = cc
owes_end own limits m LongCts confirm number recv r = cc

-- the receipt that a message owes which is not read
owes_receipt : (own : Own) (limits : EpLimits) (m : Message) (kind : Kind) (number : MsgNo) (recv : OpId) → is_read kind ≡ false → m.confirm ≡ true
    → Member (Spelled (Receipt number own.life.connid)) (end_for own (shape_by limits m kind) (message_head limits m kind).confirm number recv)
unfolding is_read shape_by end_for receipt_for message_head
owes_receipt own limits m Eager number recv r c = rw c (inl refl)
owes_receipt own limits m Medium number recv r c = rw c (inl refl)
owes_receipt own limits m LongCts number recv r c = rw c (inl refl)
owes_receipt own limits m LongRead number recv r c = cc
owes_receipt own limits m (Runt runt) number recv r c = cc

-- an end of a send ends it
ends_it : (i : Life) (n : ℕ) (recv : OpId) (connid : Connid) → ends_send i n (Took i (Spelled (Eor (op_id n) recv connid))) ≡ true
unfolding ends_send
ends_it i n recv connid = and_from (same_life i i) (n == n) (same_life-refl i) (eq-eqb n n refl)

-- a receipt of a message confirms it
confirms_it : (i : Life) (number : MsgNo) (connid : Connid) → confirms i number.0 (Took i (Spelled (Receipt number connid))) ≡ true
unfolding confirms
confirms_it i number connid = and_from (same_life i i) (number.0 == number.0) (same_life-refl i) (eq-eqb number.0 number.0 refl)

-- what a filled pair owes its sender was taken
end_came : (job : Job) (history : List Entry) (i j : Life) (p : Pair) (s : Sent) (item : Item) → Matched job history i j p s
    → is_filled (own_of job i).limits.first (account job history i).head (life_deeds job history i) p ≡ true
    → Member item (ends_in (own_of job i) (account job history i).head p) → IsReplied item → Member (Took i item) (life_deeds job history j)
end_came job history i j p s item m filled owes rep =
    owed_taken job history j i (reply p.message.life item) item m.there
    (end_owed (own_of job i) (account job history i) (life_deeds job history i) p item m.member filled owes) m.life_is refl rep

-- a matched message that is read has its send over
read_over : (job : Job) (history : List Entry) (i j : Life) (p : Pair) (s : Sent) → Matched job history i j p s → is_read s.kind ≡ true
    → is_over (life_deeds job history j) (pushed_of (own_of job j) (account job history j) (life_deeds job history j) s.number) s ≡ true
read_over job history i j p s m r =
    let own = own_of job i in
    let log = life_deeds job history j in
    let heads = (account job history i).head in
    let item : Item = Spelled (Eor s.message.send (recv_in p) own.life.connid) in
    let shape : shape_in heads p ≡ shape_by job.limits s.message s.kind = ap (λ (h : Head). h.shape) m.head_is ∙ head_shape job.limits s.message s.kind in
    let owes : Member item (ends_in own heads p) =
    subst (λ (h : Shape). Member item (end_for own h (confirm_in heads p) p.message.no (recv_in p))) (sym shape)
    (owes_end own job.limits s.message s.kind (confirm_in heads p) p.message.no (recv_in p) r) in
    let took = end_came job history i j p s item m (read_filled job history i j p s m r) owes tt in
    let send = send_number job history j s m.sent in
    let took' : Member (Took i (Spelled (Eor (op_id s.number) (recv_in p) own.life.connid))) log =
    subst (λ (x : OpId). Member (Took i (Spelled (Eor x (recv_in p) own.life.connid))) log) send took in
    let any : list_any (ends_send i s.number) log ≡ true =
    member_list_any (ends_send i s.number) (Took i (Spelled (Eor (op_id s.number) (recv_in p) own.life.connid))) log took' (ends_it i s.number (recv_in p) own.life.connid) in
    over_from log (pushed_of (own_of job j) (account job history j) log s.number) s
    (inl (r, subst (λ (l : Life). list_any (ends_send l s.number) log ≡ true) (sym m.to_is) any))

-- so has one that is confirmed and not read
confirmed_over : (job : Job) (history : List Entry) (i j : Life) (p : Pair) (s : Sent) → Matched job history i j p s → is_read s.kind ≡ false → s.message.confirm ≡ true
    → is_filled (own_of job i).limits.first (account job history i).head (life_deeds job history i) p ≡ true
    → is_over (life_deeds job history j) (pushed_of (own_of job j) (account job history j) (life_deeds job history j) s.number) s ≡ true
confirmed_over job history i j p s m r c filled =
    let own = own_of job i in
    let log = life_deeds job history j in
    let heads = (account job history i).head in
    let item : Item = Spelled (Receipt p.message.no own.life.connid) in
    let shape : shape_in heads p ≡ shape_by job.limits s.message s.kind = ap (λ (h : Head). h.shape) m.head_is ∙ head_shape job.limits s.message s.kind in
    let confirm : confirm_in heads p ≡ (message_head job.limits s.message s.kind).confirm = ap (λ (h : Head). h.confirm) m.head_is in
    let owes : Member item (ends_in own heads p) =
    subst (λ (h : Shape). Member item (end_for own h (confirm_in heads p) p.message.no (recv_in p))) (sym shape)
    (subst (λ (b : Bool). Member item (end_for own (shape_by job.limits s.message s.kind) b p.message.no (recv_in p))) (sym confirm)
    (owes_receipt own job.limits s.message s.kind p.message.no (recv_in p) r c)) in
    let took = end_came job history i j p s item m filled owes tt in
    let any : list_any (confirms i p.message.no.0) log ≡ true =
    member_list_any (confirms i p.message.no.0) (Took i item) log took (confirms_it i p.message.no own.life.connid) in
    let any' : list_any (confirms i s.message.no.0) log ≡ true = subst (λ (n : ℕ). list_any (confirms i n) log ≡ true) (sym m.number_is) any in
    over_from log (pushed_of (own_of job j) (account job history j) log s.number) s
    (inr (inl (r, c, subst (λ (l : Life). list_any (confirms l s.message.no.0) log ≡ true) (sym m.to_is) any')))

-- the message came whole, and its send is over
pub record Finished (job : Job) (history : List Entry) (i j : Life) (p : Pair) (s : Sent) : Type 0 where
  pub filled : is_filled (own_of job i).limits.first (account job history i).head (life_deeds job history i) p ≡ true
  pub over : is_over (life_deeds job history j) (pushed_of (own_of job j) (account job history j) (life_deeds job history j) s.number) s ≡ true

-- a matched message that is read is finished
pub read_finished : (job : Job) (history : List Entry) (i j : Life) (p : Pair) (s : Sent) → Matched job history i j p s → is_read s.kind ≡ true → Finished job history i j p s
read_finished job history i j p s m r = record { filled = read_filled job history i j p s m r; over = read_over job history i j p s m r }

-- a list with an element is not empty
member_some : {A : Type 0} (x : A) (xs : List A) → Member x xs → 0 < length xs
member_some x [] m = elim m [ ]
member_some x (y ∷ ys) m = omega arith

-- a send that is not read has pushed a packet, at rest
some_pushed : (own : Own) (log : List Deed) (s : Sent) → LifeLocal own log → Member s (sends own (heard_by own.limits.first log) log) → is_forgotten log s.to ≡ false → is_read s.kind ≡ false
    → (is_over log (pushed_of own (heard_by own.limits.first log) log s.number) s ≡ true) ⊎ (next_packet own log s (pushed_of own (heard_by own.limits.first log) log s.number) ≡ None)
    → 0 < length (pushed_of own (heard_by own.limits.first log) log s.number)
some_pushed own log s l m f r e =
    elim (rest_pushed own log s l m f e) [
      | inl a ↦ member_some a.0 (pushed_of own (heard_by own.limits.first log) log s.number) a.1
      | inr a ↦ (let x = a.0 in absurd (cc))
    ]

-- a message that was pushed whole is finished
pub pushed_finished : (job : Job) (history : List Entry) (i j : Life) (p : Pair) (s : Sent) → Matched job history i j p s → is_read s.kind ≡ false
    → length s.message.bytes ≤ done_bytes (own_of job j) (account job history j) (life_deeds job history j) s.number → Finished job history i j p s
pushed_finished job history i j p s m r le =
    let own = own_of job j in
    let ms = account job history j in
    let log = life_deeds job history j in
    let life = own_life job history m.here.played j in
    let filled = pushed_filled job history i j p s m le in
    record {
      filled = filled;
      over = elim (cases_Bool s.message.confirm) [
        | inl c ↦ confirmed_over job history i j p s m r c filled
        | inr c ↦ whole_over own ms log s m.sent r c (some_pushed own log s life m.sent (kept_of job history i j p s m) r ((rest_of job history i j m.here).each s m.sent)) le
      ];
    }

-- a message that goes at once is finished
pub at_once_finished : (job : Job) (history : List Entry) (i j : Life) (p : Pair) (s : Sent) → Matched job history i j p s → IsAtOnce s.kind → is_read s.kind ≡ false → Finished job history i j p s
at_once_finished job history i j p s m k r =
    pushed_finished job history i j p s m r
    (at_once_done (own_of job j) (life_deeds job history j) s (own_life job history m.here.played j) m.sent (kept_of job history i j p s m) k ((rest_of job history i j m.here).each s m.sent))
