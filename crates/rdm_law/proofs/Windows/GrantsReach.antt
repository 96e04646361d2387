-- Where all grants of a message were taken, its sender may push all that was granted.
use Rattle.std.proofs.Common.{◌≡◌, ℕ, ◌+◌, ◌<◌, ◌≤◌, true, false, List, [], ◌∷◌, Some, refl, arith, inl, inr, sym, ◌∙◌, ap, subst}
use Rattle.std.proofs.lemmas.Bool.{cases_lt}
use Rattle.rdm_lists.specs.Lists.{Member}
use Rattle.rdm_num.specs.declared.numbers.Connid.{Connid}
use Rattle.rdm_num.specs.declared.numbers.Life.{Life}
use Rattle.rdm_num.specs.declared.numbers.OpId.{OpId}
use Rattle.rdm_pkt.specs.declared.Packet.TheVariants.{Cts}
use Rattle.rdm_match.specs.Matcher.{Pair}
use Rattle.rdm_wire.specs.declared.Datagram.{Datagram}
use Rattle.rdm_model.specs.declared.job.Job.{Job}
use Rattle.rdm_model.specs.declared.entry.Entry.{Entry}
use Rattle.rdm_model.specs.Deeds.{Deed, Spelled, log_of}
use Rattle.rdm_model.specs.Beginnings.{Own, own_of}
use Rattle.rdm_model.specs.Sends.{Sent}
use Rattle.rdm_model.specs.Lawful.{life_deeds}
use Rattle.rdm_law.proofs.Accounts.Pushed.{PlacedAt}
use Rattle.rdm_law.proofs.Accounts.Known.{account}
use Rattle.rdm_law.proofs.Replies.Queue.{Placed}
use Rattle.rdm_law.proofs.Replies.Answered.{Answered}
use Rattle.rdm_law.proofs.Windows.WindowsAt.{WindowAt, windows_in_order}
use Rattle.rdm_law.proofs.Windows.Granted.{Granting, allowed_of, own_tells}
use Rattle.rdm_law.proofs.Windows.FirstPart.{first_part_opened}
use Rattle.rdm_law.proofs.Windows.WindowsAt.{window_in}
use Rattle.rdm_model.specs.Beginnings.{Messages}
use Rattle.rdm_law.proofs.Settled.Delivered.{numbered}
use Rattle.std.specs.Prelude.{slice_get}
use Rattle.rdm_num.specs.declared.head.Head.{Head}
use Rattle.rdm_num.specs.declared.head.Shape.TheVariants as S
use Rattle.std.proofs.lemmas.Bool.{cases_lt}
use Rattle.rdm_match.specs.Matcher.{is_pair}
use Rattle.rdm_model.specs.Beginnings.{Heads}
use Rattle.rdm_model.specs.Matches.{pairs}
use Rattle.rdm_model.specs.Grants.{first_part, window, with_window, granted_bytes}
use Rattle.rdm_model.proofs.Matches.{is_pair_member, pair_still}
use Rattle.rdm_law.proofs.Accounts.Wired.{Played, HandledBy, TakenAs}
use Rattle.rdm_law.proofs.Matching.Numbered.{matching_numbered}
use Rattle.rdm_law.proofs.Replies.Queue.{owed}
use Rattle.rdm_law.proofs.Replies.Owed.{shape_in, recv_in}
use Rattle.rdm_law.proofs.Windows.Windows.{Tells, tells_before, first_stays, granted_none, reach}
use Rattle.rdm_law.proofs.Windows.GrantsEnd.{window_opens}
use Rattle.rdm_law.proofs.Windows.Granted.{own_tells}
use Rattle.rdm_law.proofs.Accounts.Named.{head_shape, send_number}
use Rattle.rdm_law.proofs.Windows.FirstPart.{long_shape}
use Rattle.rdm_law.proofs.Windows.GrantsTaken.{placed_same, answered_one, grant_within}

-- a place in a window of a pair's message
pub record InWindow (own : Own) (ms : Messages) (log : List Deed) (p : Pair) (y : ℕ) : Type 0 where
  pub start : ℕ
  pub size : ℕ
  pub place : ℕ
  pub window' : WindowAt own ms p start size place log
  pub low : start ≤ y
  pub high : y < start + size

-- the pair that a test names is one of the older pairs
older_pair : (first : ℕ) (heads : Heads) (d : Deed) (before : List Deed) (p : Pair) → Member p (pairs first heads (d ∷ before))
    → is_pair (pairs first heads before) p.recv.id.0 p.message.life p.message.no.0 ≡ true → Member p (pairs first heads before)
older_pair first heads d before p m t =
    let q = is_pair_member (pairs first heads before) p.recv.id.0 p.message.life p.message.no.0 t in
    let same : q.0 ≡ p = (matching_numbered first heads (d ∷ before)).once q.0 p (pair_still first heads d before q.0 q.1) m q.2 in
    subst (λ (x : Pair). Member x (pairs first heads before)) same q.1

-- all that was granted beyond the first part lies in windows
reached : (own : Own) (ms : Messages) (log : List Deed) (p : Pair) (y : ℕ) (send : OpId) (credits : ℕ) → Tells ms.head log → Member p (pairs own.limits.first ms.head log)
    → shape_in ms.head p ≡ S.LongCts send credits → first_part log p.message.life p.message.no.0 ≤ y → y < reach own.limits ms.head log p → InWindow own ms log p y
unfolding granted_bytes with_window
reached own ms [] p y send credits tells m shape low high = absurd (omega arith)
reached own ms (d ∷ before) p y send credits tells m shape low high =
    let first = own.limits.first in
    let source = p.message.life in
    let n = p.message.no.0 in
    let granted = granted_bytes own.limits ms.head before p in
    let size = window own.limits ms.head (d ∷ before) p granted in
    let tells' = tells_before ms.head d before tells in
    elim (cases_lt y (first_part (d ∷ before) source n + granted)) [
      | inr now ↦
          let w = window_opens own ms d before p send credits m shape (omega arith) in
          record { start = first_part (d ∷ before) source n + granted; size = size; place = w.0; window' = inl w.2; low = now; high = omega arith }
      | inl older ↦
          (elim (is_pair (pairs first ms.head before) p.recv.id.0 source n) as (λ b. is_pair (pairs first ms.head before) p.recv.id.0 source n ≡ b → InWindow own ms (d ∷ before) p y) [
            | false ↦ λ t. absurd (let z = granted_none own.limits ms.head before p t in omega arith)
            | true ↦ λ t.
                let f = first_stays first ms.head d before p send credits tells' t shape in
                let w = reached own ms before p y send credits tells' (older_pair first ms.head d before p m t) shape (omega arith) (omega arith) in
                record { start = w.start; size = w.size; place = w.place; window' = inr w.window'; low = w.low; high = w.high }
          ]) refl
    ]

-- the grants that a life owes another were pushed, and the other handled them
pub record AllTaken (job : Job) (history : List Entry) (i j : Life) : Type 0 where
  pub pushed : (x : Placed) → slice_get (owed (own_of job i) (account job history i) (life_deeds job history i)) x.place ≡ Some x.reply → x.reply.to ≡ j
      → (k : ℕ) × Answered (own_of job i) (account job history i) x k (life_deeds job history i)
  pub handled : (x : Placed) (k : ℕ) (send recv : OpId) (size : ℕ) (connid : Connid) → Answered (own_of job i) (account job history i) x k (life_deeds job history i) → x.reply.to ≡ j
      → x.reply.item ≡ Spelled (Cts send recv size connid)
      → (d : Datagram) × TakenAs i j.connid (Spelled (Cts send recv size connid)) d × (d.dst.0 ≡ j.port.0) × PlacedAt job i.port.0 i.connid d k (log_of i.port.0 history)
      × HandledBy j.port.0 d history

-- a window whose grant was taken ends within what its sender may push
window_taken : (job : Job) (history : List Entry) (i j : Life) (p : Pair) (s : Sent) (start size place : ℕ) → Played job history → Granting job history i j p s → AllTaken job history i j
    → WindowAt (own_of job i) (account job history i) p start size place (life_deeds job history i)
    → start + size ≤ allowed_of (own_of job j) (life_deeds job history j) s
window_taken job history i j p s start size place played g taken w =
    let own = own_of job i in
    let ms = account job history i in
    let log = life_deeds job history i in
    let tells = own_tells own.limits.first log in
    let in' = window_in own ms log p start size place tells w in
    let x : Placed = record { place = place; reply = in'.reply' } in
    let to : in'.reply'.to ≡ j = sym in'.to_is ∙ g.life_is in
    let a = taken.pushed x in'.stands to in
    let d = taken.handled x a.0 in'.send (recv_in p) size own.life.connid a.1 to in'.is in
    let shape : S.LongCts s.message.send job.limits.credits ≡ S.LongCts in'.send in'.credits =
    sym (ap (λ (h : Head). h.shape) g.head_is ∙ head_shape job.limits s.message s.kind ∙ long_shape job.limits s.message s.kind g.long) ∙ in'.shape_is in
    let send : s.message.send ≡ in'.send = cc in
    let number : in'.send.0 ≡ s.number = ap (λ (y : OpId). y.0) (sym send ∙ send_number job history j s g.sent) in
    let v = grant_within job history i j p s in'.send (recv_in p) size own.life.connid d.0 played g number d.1 d.2 d.4 in
    let push = placed_same job i.port.0 i.connid d.0 v.push a.0 (log_of i.port.0 history) (numbered job i.port.0 (log_of i.port.0 history) (played.locals i.port.0)) v.pushed d.3 in
    let mine = subst (λ n. Answered own ms v.answer n log) push v.answered in
    let same : v.answer ≡ x = answered_one own ms v.answer x a.0 log mine a.1 in
    let at : v.answer.place ≡ place = ap (λ (y : Placed). y.place) same in
    let l = v.within in
    let b = in'.has_byte in
    elim (windows_in_order own ms log p v.start v.size v.answer.place start size place tells v.window' w) [
      | inl e ↦ (let e1 = e.1 in let e2 = e.2 in omega arith)
      | inr apart ↦ absurd (elim apart [ inl y ↦ (let z = y.0 in omega arith) | inr y ↦ (let z = y.0 in omega arith) ])
    ]

-- where all grants were taken, all that was granted may be pushed
pub reach_allowed : (job : Job) (history : List Entry) (i j : Life) (p : Pair) (s : Sent) → Played job history → Granting job history i j p s → AllTaken job history i j
    → reach (own_of job i).limits (account job history i).head (life_deeds job history i) p ≤ allowed_of (own_of job j) (life_deeds job history j) s
reach_allowed job history i j p s played g taken =
    let own = own_of job i in
    let ms = account job history i in
    let log = life_deeds job history i in
    let allowed = allowed_of (own_of job j) (life_deeds job history j) s in
    let first = first_part_opened job history i j p s played g in
    let shape : shape_in ms.head p ≡ S.LongCts s.message.send job.limits.credits =
    ap (λ (h : Head). h.shape) g.head_is ∙ head_shape job.limits s.message s.kind ∙ long_shape job.limits s.message s.kind g.long in
    elim (cases_lt allowed (reach own.limits ms.head log p)) [
      | inr all ↦ all
      | inl less ↦ absurd (
          let w = reached own ms log p allowed s.message.send job.limits.credits (own_tells own.limits.first log) g.member shape (omega arith) less in
          let e = window_taken job history i j p s w.start w.size w.place played g taken w.window' in
          let h = w.high in
          omega arith)
    ]
