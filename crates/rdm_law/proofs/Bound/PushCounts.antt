-- Each push of a life is of a reply that was owed, or of a packet of a send.
use Rattle.std.proofs.Common.{◌≡◌, ℕ, ◌+◌, ◌<◌, ◌≤◌, not, List, [], ◌∷◌, length, Option, Some, refl, arith, ◌⊎◌, inl, inr, sym, ◌∙◌, ap, subst}
use Rattle.std.specs.Prelude.{slice_get}
use Rattle.std.proofs.lemmas.List.{length-append, length-drop}
use Rattle.std.specs.List.{list_any}
use Rattle.rdm_num.specs.Lives.{same_life}
use Rattle.rdm_lists.specs.Lists.{Member}
use Rattle.rdm_model.specs.Deeds.{Deed, Did, PushedNote, Pushed, TookNote, Took, Polled, Nothing, deed_count}
use Rattle.rdm_model.specs.Currents.{forgotten_by}
use Rattle.rdm_model.specs.Beginnings.{Own, Messages}
use Rattle.rdm_model.specs.Replies.{Reply, replies_by, without_lives, without_forgotten}
use Rattle.rdm_model.specs.Sends.{Sent, sent_by, with_sent, sends}
use Rattle.rdm_model.specs.Dues.{Progress, Due, Replies, Sends, after_due, after_push, after_deed, progress, due}
use Rattle.rdm_model.specs.Local.{heard_by}
use Rattle.rdm_model.proofs.SameRegions.{Agree, agree_before}
use Rattle.rdm_model.proofs.SameDues.{due_same}
use Rattle.rdm_model.proofs.Grows.{agree_grows}
use Rattle.rdm_model.proofs.Dues.{due_cases}
use Rattle.rdm_model.proofs.Pushes.{pushed_of}
use Rattle.rdm_model.proofs.Served.{next_send_due, pushed_last, pushed_longer}
use Rattle.rdm_law.proofs.Lives.Lives.{LifeStep, LifeLocal}
use Rattle.rdm_law.proofs.Replies.Queue.{owed}
use Rattle.rdm_law.proofs.Bound.Totals.{pushes_of}
use Rattle.rdm_law.proofs.Settled.OwedBack.{agree_trans}
use Rattle.rdm_law.proofs.Settled.ReadLands.{agree_refl}
use Rattle.rdm_lists.proofs.Sums.{total, total-append, total_le}
use Rattle.rdm_lists.proofs.Filters.{filter_length}

-- each push of the life was due
abbrev AllWereDue : Own → Messages → List Deed → Type 0
AllWereDue own ms [] = Unit {0}
AllWereDue own ms (d ∷ before) = AllWereDue own ms before × (d ≡ Pushed → (t : Due) × (due own ms before ≡ Some t))

-- so had each push of a life
all_were_due : (own : Own) (ms : Messages) (log : List Deed) → LifeLocal own log → Agree own.limits.first (heard_by own.limits.first log) ms log → AllWereDue own ms log
all_were_due own ms [] local g = tt
all_were_due own ms (d ∷ before) local g =
    let earlier = agree_trans own.limits.first (heard_by own.limits.first before) (heard_by own.limits.first (d ∷ before)) ms before (agree_grows own.limits.first d before) (agree_before own.limits.first (heard_by own.limits.first (d ∷ before)) ms d before g) in (
      all_were_due own ms before local.0 earlier,
      λ e.
          let step : LifeStep own before Pushed = subst (λ (x : Deed). LifeStep own before x) e local.1 in
          (step.0, sym (due_same own (heard_by own.limits.first before) ms before earlier) ∙ step.1),
    )

-- how many packets were pushed of these sends
abbrev packet_total : Own → Messages → List Deed → List Sent → ℕ
packet_total own ms log ss = total (λ (s : Sent). length (pushed_of own ms log s.number)) ss

-- no more replies stay
kept_less : (before : List Deed) (d : Deed) (rs : List Reply) → length (without_forgotten before d rs) ≤ length rs
unfolding without_forgotten without_lives
kept_less before d rs = filter_length (λ (r : Reply). not (list_any (same_life r.to) (forgotten_by before d))) rs

-- more replies wait only by what a deed makes owed
waits_step : (own : Own) (ms : Messages) (d : Deed) (before : List Deed)
    → length (progress own ms (d ∷ before)).replies ≤ length (after_push own ms before d (progress own ms before)).replies + length (replies_by own ms.head (sends own ms before) d before)
unfolding progress after_deed
waits_step own ms d before =
    let rs = (after_push own ms before d (progress own ms before)).replies in
    let kept = without_forgotten before d rs in
    let f = kept_less before d rs in
    let l = length-append kept (replies_by own ms.head (sends own ms before) d before) in
    omega arith

-- a deed adds what it makes owed
owed_step : (own : Own) (ms : Messages) (d : Deed) (before : List Deed) → length (owed own ms (d ∷ before)) ≡ length (owed own ms before) + length (replies_by own ms.head (sends own ms before) d before)
unfolding owed
owed_step own ms d before = length-append (owed own ms before) (replies_by own ms.head (sends own ms before) d before)

-- packets are only added
total_rises : (own : Own) (ms : Messages) (d : Deed) (before : List Deed) (ss : List Sent) → packet_total own ms before ss ≤ packet_total own ms (d ∷ before) ss
total_rises own ms d before ss =
    total_le (λ (s : Sent). length (pushed_of own ms before s.number)) (λ (s : Sent). length (pushed_of own ms (d ∷ before) s.number)) ss
    (λ s m. let r = pushed_longer own ms d before s.number in let e = ap length r.1 in let l = length-append (pushed_of own ms before s.number) r.0 in omega arith)

-- a push of a packet adds one to the packets of its send
pub total_more : (f g : Sent → ℕ) (s : Sent) (ss : List Sent) → ((t : Sent) → f t ≤ g t) → f s + 1 ≤ g s → Member s ss → total f ss + 1 ≤ total g ss
unfolding total
total_more f g s [] h k m = elim m [ ]
total_more f g s (t ∷ ts) h k (inl e) =
    let a : f t + 1 ≤ g t = subst (λ (x : Sent). f x + 1 ≤ g x) (sym e) k in
    let b = total_le f g ts (λ x n. h x) in
    omega arith
total_more f g s (t ∷ ts) h k (inr m) = let a = h t in let b = total_more f g s ts h k m in omega arith

-- a list with a first element is not empty
first_some : {A : Type 0} (xs : List A) (x : A) → slice_get xs 0 ≡ Some x → 0 < length xs
first_some [] x h = cc
first_some (y ∷ ys) x h = omega arith

-- what is left after a push
after_at : (own : Own) (ms : Messages) (before : List Deed) (t : Due) → due own ms before ≡ Some t → after_push own ms before Pushed (progress own ms before) ≡ after_due (Some t) (progress own ms before)
unfolding after_push due
after_at own ms before t h = ap (λ (o : Option Due). after_due o (progress own ms before)) h

-- a push takes a reply that waits, or adds a packet
push_step : (own : Own) (ms : Messages) (before : List Deed) (t : Due) → due own ms before ≡ Some t
    → length (after_push own ms before Pushed (progress own ms before)).replies + 1 + packet_total own ms before (sends own ms before)
    ≤ length (progress own ms before).replies + packet_total own ms (Pushed ∷ before) (sends own ms before)
unfolding after_due
push_step own ms before (Replies r) h =
    elim (due_cases own ms before (Replies r) h) [
      | inl a ↦ (
          let some = first_some (progress own ms before).replies a.0 a.1 in
          let e = ap (λ (p : Progress). length p.replies) (after_at own ms before (Replies r) h) in
          let d = length-drop 1 (progress own ms before).replies in
          let t = total_rises own ms Pushed before (sends own ms before) in
          omega arith)
      | inr a ↦ (let x = a.1.is in absurd (cc))
    ]
push_step own ms before (Sends s p) h =
    let n = next_send_due own ms before s p h in
    let e = ap (λ (x : Progress). length x.replies) (after_at own ms before (Sends s p) h) in
    let last = ap length (pushed_last own ms before s p h) in
    let l = length-append (pushed_of own ms before s.number) (p ∷ []) in
    let t = total_more (λ (x : Sent). length (pushed_of own ms before x.number)) (λ (x : Sent). length (pushed_of own ms (Pushed ∷ before) x.number)) s (sends own ms before)
    (λ x. let r = pushed_longer own ms Pushed before x.number in let f = ap length r.1 in let k = length-append (pushed_of own ms before x.number) r.0 in omega arith) (omega arith) n.member in
    omega arith

-- more sends have more packets
sends_total : (own : Own) (ms : Messages) (d : Deed) (before : List Deed) → packet_total own ms (d ∷ before) (sends own ms before) ≤ packet_total own ms (d ∷ before) (sends own ms (d ∷ before))
unfolding sends with_sent
sends_total own ms d before =
    let e = total-append (λ (s : Sent). length (pushed_of own ms (d ∷ before) s.number)) (sends own ms before) (sent_by own ms before (sends own ms before) d) in
    omega arith

-- a deed that is no push takes nothing
still_waits : (own : Own) (ms : Messages) (d : Deed) (before : List Deed) → (d ≡ Pushed) ⊎ ((pushes_of d ≡ 0) × (length (after_push own ms before d (progress own ms before)).replies ≡ length (progress own ms before).replies))
unfolding pushes_of after_push
still_waits own ms Pushed before = inl refl
still_waits own ms (Did instr) before = inr (refl, refl)
still_waits own ms PushedNote before = inr (refl, refl)
still_waits own ms (TookNote from note) before = inr (refl, refl)
still_waits own ms (Took from item) before = inr (refl, refl)
still_waits own ms Polled before = inr (refl, refl)
still_waits own ms Nothing before = inr (refl, refl)

-- a push counts once
pushes_one : (before : List Deed) → deed_count pushes_of (Pushed ∷ before) ≡ deed_count pushes_of before + 1
unfolding deed_count pushes_of
pushes_one before = refl

-- nothing else counts
pushes_none : (d : Deed) (before : List Deed) → pushes_of d ≡ 0 → deed_count pushes_of (d ∷ before) ≡ deed_count pushes_of before
unfolding deed_count
pushes_none d before h = omega arith

-- a deed keeps the count
counted_step : (own : Own) (ms : Messages) (d : Deed) (before : List Deed) → (d ≡ Pushed → (t : Due) × (due own ms before ≡ Some t))
    → deed_count pushes_of before + length (progress own ms before).replies ≤ length (owed own ms before) + packet_total own ms before (sends own ms before)
    → length (progress own ms (d ∷ before)).replies ≤ length (after_push own ms before d (progress own ms before)).replies + length (replies_by own ms.head (sends own ms before) d before)
    → length (owed own ms (d ∷ before)) ≡ length (owed own ms before) + length (replies_by own ms.head (sends own ms before) d before)
    → packet_total own ms (d ∷ before) (sends own ms before) ≤ packet_total own ms (d ∷ before) (sends own ms (d ∷ before))
    → deed_count pushes_of (d ∷ before) + length (progress own ms (d ∷ before)).replies ≤ length (owed own ms (d ∷ before)) + packet_total own ms (d ∷ before) (sends own ms (d ∷ before))
counted_step own ms d before was_due was waits owes more =
    elim (still_waits own ms d before) [
      | inl e ↦ (
          let t = was_due e in
          let P : Deed → Type 0 = λ x. length (after_push own ms before x (progress own ms before)).replies + 1 + packet_total own ms before (sends own ms before)
          ≤ length (progress own ms before).replies + packet_total own ms (x ∷ before) (sends own ms before) in
          let step : P d = subst P (sym e) (push_step own ms before t.0 t.1) in
          let one : deed_count pushes_of (d ∷ before) ≡ deed_count pushes_of before + 1 = ap (λ (x : Deed). deed_count pushes_of (x ∷ before)) e ∙ pushes_one before in
          omega arith)
      | inr q ↦ (
          let none = pushes_none d before q.0 in
          let same = q.1 in
          let rises = total_rises own ms d before (sends own ms before) in
          omega arith)
    ]

-- pushes, and the replies that wait, are of what was owed and of packets
counted : (own : Own) (ms : Messages) (log : List Deed) → AllWereDue own ms log
    → deed_count pushes_of log + length (progress own ms log).replies ≤ length (owed own ms log) + packet_total own ms log (sends own ms log)
unfolding deed_count progress owed
counted own ms [] a = omega arith
counted own ms (d ∷ before) a =
    let was = counted own ms before a.0 in
    let waits = waits_step own ms d before in
    let owes = owed_step own ms d before in
    let more = sends_total own ms d before in
    counted_step own ms d before a.1 was waits owes more

-- each push of a life was of a reply that was owed, or of a packet of a send
pub pushes_counted : (own : Own) (log : List Deed) → LifeLocal own log
    → deed_count pushes_of log ≤ length (owed own (heard_by own.limits.first log) log)
    + total (λ (s : Sent). length (pushed_of own (heard_by own.limits.first log) log s.number)) (sends own (heard_by own.limits.first log) log)
pushes_counted own log local =
    let ms = heard_by own.limits.first log in
    let c = counted own ms log (all_were_due own ms log local (agree_refl own.limits.first ms log)) in
    omega arith
