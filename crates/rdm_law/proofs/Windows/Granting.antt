-- The windows whose grants a sender took have all bytes that it may push beyond its opening.
use Rattle.std.proofs.Common.{◌≡◌, ℕ, ◌+◌, ◌<◌, ◌≤◌, true, false, cond, List, [], ◌∷◌, Some, refl, ◌⊎◌, inl, inr, sym, ◌∙◌, ap, subst}
use Rattle.std.specs.Prelude.{◌==◌, ◌&&◌, slice_get}
use Rattle.std.proofs.lemmas.Bool.{and_parts, eqb-true}
use Rattle.rdm_lists.specs.Lists.{Member}
use Rattle.rdm_num.specs.Lives.{same_life, op_id}
use Rattle.rdm_num.specs.declared.numbers.Connid.{Connid}
use Rattle.rdm_num.specs.declared.numbers.Life.{Life}
use Rattle.rdm_num.specs.declared.numbers.OpId.{OpId}
use Rattle.rdm_pkt.specs.declared.Packet.TheVariants.{Cts}
use Rattle.rdm_num.specs.declared.head.Head.{Head}
use Rattle.rdm_num.specs.declared.head.Shape.TheVariants as S
use Rattle.rdm_pkt.specs.Openings.{message_head, shape_by}
use Rattle.rdm_match.specs.Matcher.{Pair}
use Rattle.rdm_wire.specs.declared.Datagram.{Datagram}
use Rattle.rdm_model.specs.declared.job.Job.{Job}
use Rattle.rdm_model.specs.declared.entry.Entry.{Entry}
use Rattle.rdm_model.specs.Deeds.{Deed, Took, Spelled, deed_of, log_of}
use Rattle.rdm_model.specs.Beginnings.{own_of, rank_of}
use Rattle.rdm_model.specs.Matches.{pairs}
use Rattle.rdm_model.specs.Grants.{grants_by}
use Rattle.rdm_model.specs.Sends.{Sent, sends}
use Rattle.rdm_model.specs.Lawful.{life_deeds}
use Rattle.rdm_model.specs.Local.{heard_by}
use Rattle.rdm_model.proofs.Matches.{pair_still}
use Rattle.rdm_model.proofs.SameMatches.{pairs_same}
use Rattle.rdm_model.proofs.SameRegions.{sends_same}
use Rattle.rdm_model.proofs.Grows.{agree_grows}
use Rattle.rdm_model.proofs.Pushes.{member_later}
use Rattle.rdm_law.proofs.Lives.Logs.{at_log_of}
use Rattle.rdm_law.proofs.Accounts.Wired.{Played, HandledBy, TakenDue}
use Rattle.rdm_law.proofs.Accounts.Pushed.{PlacedAt}
use Rattle.rdm_law.proofs.Accounts.Known.{Known, account, sends_of}
use Rattle.rdm_law.proofs.Accounts.Named.{pairs_of, pair_known, IsOfSend, went_reply, head_shape, long_send, one_send, send_number}
use Rattle.rdm_law.proofs.Matching.Distinct.{matching_distinct}
use Rattle.rdm_law.proofs.Replies.Queue.{owed, Placed}
use Rattle.rdm_law.proofs.Replies.Answered.{Answered, answered_owed}
use Rattle.rdm_law.proofs.Replies.Owed.{shape_in, recv_in}
use Rattle.rdm_law.proofs.Replies.ReplyDues.{was_due_answered}
use Rattle.rdm_law.proofs.Windows.WindowsAt.{WindowAt, window_member, owed_window}
use Rattle.rdm_law.proofs.Windows.WindowsSame.{window_stays, answered_stays}
use Rattle.rdm_law.proofs.Windows.Granted.{Granting}
use Rattle.rdm_law.proofs.Lives.Handled.{at_life}
use Rattle.rdm_num.proofs.Lives.{same_life-true}

-- a place lies in a window of a pair's message whose grant was pushed, and taken by the message's life
pub record TakenWindow (job : Job) (history : List Entry) (i j : Life) (p : Pair) (y : ℕ) : Type 0 where
  pub start : ℕ
  pub size : ℕ
  pub answer : Placed
  pub window' : WindowAt (own_of job i) (account job history i) p start size answer.place (life_deeds job history i)
  pub low : start ≤ y
  pub high : y < start + size
  pub push : ℕ
  pub answered : Answered (own_of job i) (account job history i) answer push (life_deeds job history i)
  pub datagram : Datagram
  pub pushed : PlacedAt job i.port.0 i.connid datagram push (log_of i.port.0 history)
  pub handled : HandledBy j.port.0 datagram history

-- a window stays as the history grows
pub window_longer : (job : Job) (e : Entry) (before : List Entry) (i : Life) (p : Pair) (start size place : ℕ)
    → WindowAt (own_of job i) (account job before i) p start size place (life_deeds job before i)
    → WindowAt (own_of job i) (account job (e ∷ before) i) p start size place (life_deeds job (e ∷ before) i)
window_longer job e before i p start size place w =
    let own = own_of job i in
    at_life (λ log. WindowAt own (heard_by own.limits.first log) p start size place log) job i e before
    (λ s o. window_stays own (deed_of (rank_of job i.port.0).ops e.act) (life_deeds job before i) p start size place w) w

-- a pushed reply stays
pub answered_longer : (job : Job) (e : Entry) (before : List Entry) (i : Life) (x : Placed) (k : ℕ)
    → Answered (own_of job i) (account job before i) x k (life_deeds job before i) → Answered (own_of job i) (account job (e ∷ before) i) x k (life_deeds job (e ∷ before) i)
answered_longer job e before i x k a =
    let own = own_of job i in
    at_life (λ log. Answered own (heard_by own.limits.first log) x k log) job i e before
    (λ s o. answered_stays own (deed_of (rank_of job i.port.0).ops e.act) (life_deeds job before i) x k a) a

-- the place of a push stays
pub placed_longer : (job : Job) (e : Entry) (before : List Entry) (port : ℕ) (c : Connid) (d : Datagram) (k : ℕ) → PlacedAt job port c d k (log_of port before)
    → PlacedAt job port c d k (log_of port (e ∷ before))
placed_longer job e before port c d k h = at_log_of (λ log. PlacedAt job port c d k log) port e before (λ s. inr h) (λ s. h)

-- a window that was taken stays so
pub taken_window_longer : (job : Job) (e : Entry) (before : List Entry) (i j : Life) (p : Pair) (y : ℕ) → TakenWindow job before i j p y → TakenWindow job (e ∷ before) i j p y
taken_window_longer job e before i j p y w =
    record {
      start = w.start;
      size = w.size;
      answer = w.answer;
      window' = window_longer job e before i p w.start w.size w.answer.place w.window';
      low = w.low;
      high = w.high;
      push = w.push;
      answered = answered_longer job e before i w.answer w.push w.answered;
      datagram = w.datagram;
      pushed = placed_longer job e before i.port.0 i.connid w.datagram w.push w.pushed;
      handled = inr w.handled;
    }

-- a deed takes a grant of that send, or none
abbrev pub GrantOrNone : Life → ℕ → Deed → Type 0
GrantOrNone to send d =
    ((send' : OpId) × (recv : OpId) × (size : ℕ) × (connid : Connid) × (d ≡ Took to (Spelled (Cts send' recv size connid))) × (send'.0 ≡ send)
    × (grants_by to send d ≡ record { recv = recv.0; size = size } ∷ []))
    ⊎ (grants_by to send d ≡ [])

-- a deed takes a grant of a send, or none
pub grant_or_none : (to : Life) (send : ℕ) (d : Deed) → GrantOrNone to send d
unfolding grants_by
grant_or_none to send (Took from (Spelled (Cts s recv size connid))) =
    (elim (same_life from to && s.0 == send) as (λ b. (same_life from to && s.0 == send) ≡ b → GrantOrNone to send (Took from (Spelled (Cts s recv size connid)))) [
      | true ↦ λ t.
          let parts = and_parts (same_life from to) (s.0 == send) t in (inl (
            s,
            recv,
            size,
            connid,
            ap (λ (l : Life). Took l (Spelled (Cts s recv size connid))) (same_life-true from to parts.0),
            eqb-true s.0 send parts.1,
            ap (λ b. cond b (record { recv = recv.0; size = size } ∷ []) []) t,
          ))
      | false ↦ λ t. inr (ap (λ b. cond b (record { recv = recv.0; size = size } ∷ []) []) t)
    ]) refl
grant_or_none to send _ = inr refl

-- a grant that was pushed is of a window of a pair, whose message is of a send
pub record CtsWent (job : Job) (history : List Entry) (i j : Life) (send recv : OpId) (size : ℕ) (k : ℕ) : Type 0 where
  pub pair : Pair
  pub sent : Sent
  pub granting : Granting job history i j pair sent
  pub send_is : sent.message.send ≡ send
  pub recv_is : recv ≡ recv_in pair
  pub start : ℕ
  pub answer : Placed
  pub window' : WindowAt (own_of job i) (account job history i) pair start size answer.place (life_deeds job history i)
  pub answered : Answered (own_of job i) (account job history i) answer k (life_deeds job history i)

-- a pair whose message is long is granting the send of that message
pub cts_granting : (job : Job) (history : List Entry) (i j source : Life) (p : Pair) (send : OpId) (credits : ℕ) → Member p (pairs_of job history i) → p.message.life ≡ source → source ≡ j
    → (k : Known job history i source p.message.no.0) → (account job history i).head p.message.life p.message.no.0 ≡ message_head job.limits k.sent.message k.sent.kind
    → shape_in (account job history i).head p ≡ S.LongCts send credits → Granting job history i j p k.sent × (k.sent.message.send ≡ send)
cts_granting job history i j source p send credits m l e k head shape =
    let by : shape_by job.limits k.sent.message k.sent.kind ≡ S.LongCts send credits =
    sym (head_shape job.limits k.sent.message k.sent.kind) ∙ ap (λ (x : Head). x.shape) (sym head) ∙ shape in
    let long = long_send job.limits k.sent.message k.sent.kind send credits by in (
      record {
        member = m;
        life_is = l ∙ e;
        sent = subst (λ (x : Life). Member k.sent (sends_of job history x)) e k.member;
        to_is = k.to_is;
        number_is = k.number_is;
        long = long.1;
        head_is = head;
      },
      long.0,
    )

-- a grant is no packet of a send
no_send : (send recv : OpId) (size : ℕ) (connid : Connid) → IsOfSend (Cts send recv size connid) → ⊥
no_send send recv size connid h = elim h [ ]

-- a grant that was pushed is of a window of a pair that grants a send
pub cts_went : (job : Job) (history : List Entry) (i j : Life) (send recv : OpId) (size : ℕ) (connid : Connid) (d : Datagram) → Played job history
    → (t : TakenDue job history j i (Spelled (Cts send recv size connid)) d) → CtsWent job history i j send recv size t.place
cts_went job history i j send recv size connid d played t =
    let own = own_of job i in
    let log = life_deeds job history i in
    let r = went_reply job history j i (Cts send recv size connid) d t (no_send send recv size connid) in
    let a = was_due_answered own r.reply t.place log r.was_due in
    let at : slice_get (owed own (account job history i) log) a.0.place ≡ Some r.reply = answered_owed own (account job history i) log a.0 t.place a.1 ∙ ap Some a.2 in
    let w = owed_window own (account job history i) log a.0.place r.reply send recv size connid at r.is in
    let m = window_member own (account job history i) log w.pair w.start size a.0.place w.window' in
    let k = pair_known job history i w.pair played m in
    let g = cts_granting job history i j w.pair.message.life w.pair send w.credits m refl (w.to_is ∙ r.to_is) k.known k.head_is w.shape_is in
    record { pair = w.pair; sent = k.known.sent; granting = g.0; send_is = g.1; recv_is = w.recv_is; start = w.start; answer = a.0; window' = w.window'; answered = a.1 }

-- a send stays one of the life's as the history grows
sends_longer : (job : Job) (e : Entry) (before : List Entry) (l : Life) (s : Sent) → Member s (sends_of job before l) → Member s (sends_of job (e ∷ before) l)
sends_longer job e before l s h =
    let own = own_of job l in
    let first = own.limits.first in
    at_life (λ log. Member s (sends own (heard_by first log) log)) job l e before
    (λ a o.
    let d = deed_of (rank_of job l.port.0).ops e.act in
    let log = life_deeds job before l in
    member_later own (heard_by first (d ∷ log)) d log s
    (subst (λ (x : List Sent). Member s x) (sends_same own (heard_by first log) (heard_by first (d ∷ log)) log (agree_grows first d log)) h)) h

-- and a pair one of the life's
pairs_longer : (job : Job) (e : Entry) (before : List Entry) (l : Life) (p : Pair) → Member p (pairs_of job before l) → Member p (pairs_of job (e ∷ before) l)
pairs_longer job e before l p h =
    let own = own_of job l in
    let first = own.limits.first in
    at_life (λ log. Member p (pairs first (heard_by first log).head log)) job l e before
    (λ a o.
    let d = deed_of (rank_of job l.port.0).ops e.act in
    let log = life_deeds job before l in
    pair_still first (heard_by first (d ∷ log)).head d log p
    (subst (λ (x : List Pair). Member p x) (pairs_same first (heard_by first log).head (heard_by first (d ∷ log)).head log (agree_grows first d log).heads) h)) h

-- a grant of a send that was pushed before is of the pair of the send's message
pub granting_earlier : (job : Job) (e : Entry) (before : List Entry) (i j : Life) (p : Pair) (s : Sent) (send recv : OpId) (size k : ℕ)
    → Granting job (e ∷ before) i j p s → (w : CtsWent job before i j send recv size k) → send.0 ≡ s.number → (w.pair ≡ p) × Granting job before i j p s
granting_earlier job e before i j p s send recv size k g w n =
    let first = (own_of job i).limits.first in
    let sent = sends_longer job e before j w.sent w.granting.sent in
    let number : op_id s.number ≡ send = ap (λ x. op_id x) (sym n) in
    let same : w.sent ≡ s = one_send job (e ∷ before) j w.sent s sent g.sent (w.send_is ∙ sym number ∙ sym (send_number job (e ∷ before) j s g.sent)) in
    let m = pairs_longer job e before i w.pair w.granting.member in
    let d = matching_distinct first (account job (e ∷ before) i).head (life_deeds job (e ∷ before) i) in
    let no' : w.pair.message.no.0 ≡ p.message.no.0 = sym w.granting.number_is ∙ ap (λ (x : Sent). x.message.no.0) same ∙ g.number_is in
    let pair : w.pair ≡ p = d.once w.pair p m g.member (w.granting.life_is ∙ sym g.life_is) no' in
    (pair, subst (λ (x : Pair). Granting job before i j x s) pair (subst (λ (x : Sent). Granting job before i j w.pair x) same w.granting))
