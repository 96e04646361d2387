-- What eager deeds leave to push, by what the deeds themselves tell.
use Rattle.std.proofs.Common.{◌≡◌, ℕ, not, List, [], ◌∷◌, ◌++◌, length, drop, take, refl, arith, inl, inr, ap, ◌∙◌, sym}
use Rattle.std.specs.Prelude.{slice_get}
use Rattle.std.proofs.lemmas.List.{append-nil}
use Rattle.std.proofs.lemmas.List.Elements.{filter-append}
use Rattle.rdm_pkt.specs.declared.Packet.{Packet}
use Rattle.rdm_model.specs.Deeds.{Deed, Pushed}
use Rattle.rdm_model.specs.Beginnings.{Own, Messages}
use Rattle.rdm_model.specs.Sends.{Sent, sent_by, with_sent, sends}
use Rattle.rdm_model.specs.Replies.{Reply, handshake_by, without_forgotten, replies_by}
use Rattle.rdm_model.specs.Dues.{Progress, is_over, reply_due, next_due, after_push, after_deed, progress, due, live_of, live_sends}
use Rattle.rdm_model.specs.Local.{heard_by}
use Rattle.rdm_model.proofs.Numbers.{sent_by_is, new_number}
use Rattle.rdm_model.proofs.SameRegions.{sent_by_same, sends_same}
use Rattle.rdm_model.proofs.SameDues.{after_push_same, progress_same, live_sends_same}
use Rattle.rdm_model.proofs.Grows.{agree_grows}
use Rattle.rdm_ep.specs.Eager.{IsEager}
use Rattle.rdm_ep.proofs.Currents.{never_forgotten}
use Rattle.rdm_ep.proofs.EagerSends.{has_any, AreOfOne, unsent, ForgetsNone, over_is, first_due, next_send_is}
use Rattle.rdm_ep.proofs.Progress.{NoneBeyond, sends_left, push_left, sends_are}
use Rattle.rdm_ep.proofs.Greetings.{replies_are, none_taken_back}
use Rattle.rdm_lists.proofs.Same.{filter_where}

-- the sends of a life, what it has left to push, and its live sends
abbrev pub own_sends : Own → List Deed → List Sent
own_sends own log = sends own (heard_by own.limits.first log) log

abbrev pub own_progress : Own → List Deed → Progress
own_progress own log = progress own (heard_by own.limits.first log) log

abbrev pub own_live_sends : Own → List Deed → List Sent
own_live_sends own log = live_sends own (heard_by own.limits.first log) log

-- the send that a deed makes
abbrev pub new_sends : Own → List Deed → Deed → List Sent
new_sends own before d = sent_by own (heard_by own.limits.first before) before (own_sends own before) d

-- the sends after a deed
pub own_sends_step : (own : Own) (d : Deed) (before : List Deed) → own_sends own (d ∷ before) ≡ own_sends own before ++ new_sends own before d
unfolding sends with_sent
own_sends_step own d before =
    let first = own.limits.first in
    let a = agree_grows first d before in
    let s = sends_same own (heard_by first before) (heard_by first (d ∷ before)) before a in
    let n = sent_by_same own (heard_by first before) (heard_by first (d ∷ before)) before (own_sends own before) d a in
    sym (ap (λ (xs : List Sent). xs ++ sent_by own (heard_by first (d ∷ before)) before xs d) s)
    ∙ ap (λ (xs : List Sent). own_sends own before ++ xs) (sym n)

-- the replies that a push leaves, and that any other deed does
unfoldable pub replies_left : Deed → List Reply → List Reply
replies_left Pushed rs = drop 1 rs
replies_left _ rs = rs

-- the live sends that a push leaves, and that any other deed does
unfoldable pub live_left : Deed → List Reply → List Sent → List Sent
live_left Pushed rs live = sends_left rs live
live_left _ rs live = live

-- the live sends that a push ends
unfoldable pub sends_ended : List Reply → List Sent → List Sent
sends_ended [] live = take 1 live
sends_ended (r ∷ rs) live = []

-- the live sends that a deed ends
unfoldable pub ended_left : Deed → List Reply → List Sent → List Sent
ended_left Pushed rs live = sends_ended rs live
ended_left _ rs live = []

-- the replies that an eager deed leaves
pushed_left : (own : Own) (ms : Messages) (d : Deed) (before : List Deed) → IsEager own (d ∷ before)
    → (after_push own ms before d (progress own ms before)).replies ≡ replies_left d (progress own ms before).replies
unfolding replies_left after_push
pushed_left own ms Pushed before h = (push_left own ms before h.0 (sends_are own ms before h.0)).replies_are
pushed_left own ms _ before h = refl

-- what is left after a deed, by what the deeds themselves tell
own_progress_step : (own : Own) (d : Deed) (before : List Deed)
    → own_progress own (d ∷ before)
    ≡ after_deed own (heard_by own.limits.first (d ∷ before)) before d (after_push own (heard_by own.limits.first before) before d (own_progress own before))
unfolding progress
own_progress_step own d before =
    let first = own.limits.first in
    let was = heard_by first before in
    let now = heard_by first (d ∷ before) in
    let a = agree_grows first d before in
    let p = progress_same own was now before a in
    let q = after_push_same own was now before d (own_progress own before) a in
    ap (after_deed own now before d) (ap (after_push own now before d) (sym p) ∙ sym q)

-- what an eager deed adds to the replies
after_deed_replies : (own : Own) (log : List Deed) (sents : List Sent) (d : Deed) (before : List Deed) (p : Progress) → log ≡ d ∷ before → IsEager own (d ∷ before)
    → without_forgotten before d p.replies ++ replies_by own (heard_by own.limits.first log).head sents d before ≡ p.replies ++ handshake_by own before d
unfolding heard_by
after_deed_replies own log sents d before p e h =
    let a = none_taken_back own before d p.replies h.1 in
    let b = replies_are own sents d before h in
    rw (e, a, b) refl

-- the replies after an eager deed
pub replies_step : (own : Own) (d : Deed) (before : List Deed) → IsEager own (d ∷ before)
    → (own_progress own (d ∷ before)).replies ≡ replies_left d (own_progress own before).replies ++ handshake_by own before d
unfolding after_deed
replies_step own d before h =
    let first = own.limits.first in
    let p = after_push own (heard_by first before) before d (own_progress own before) in
    ap (λ (x : Progress). x.replies) (own_progress_step own d before)
    ∙ after_deed_replies own (d ∷ before) (sends own (heard_by first (d ∷ before)) before) d before p refl h
    ∙ ap (λ (rs : List Reply). rs ++ handshake_by own before d) (pushed_left own (heard_by first before) d before h)

-- the live sends of eager deeds are those whose packet was not pushed
pub live_of_is : (log : List Deed) (p : Progress) (sents : List Sent) → ForgetsNone log → AreOfOne p.packets sents → live_of log p sents ≡ unsent p.packets sents
unfolding live_of
live_of_is log p sents none are =
    filter_where (λ (s : Sent). not (is_over log (p.packets s.number) s)) (λ (s : Sent). not (has_any (p.packets s.number))) sents
    (λ s m. ap not (over_is log (p.packets s.number) s none (are.eager s m) (are.pushed s m)))

-- the live sends of eager deeds are those whose packet was not pushed
pub live_sends_are : (own : Own) (ms : Messages) (log : List Deed) → IsEager own log → live_sends own ms log ≡ unsent (progress own ms log).packets (sends own ms log)
unfolding live_sends
live_sends_are own ms log h = live_of_is log (progress own ms log) (sends own ms log) (λ l. never_forgotten own log l h) (sends_are own ms log h).each

-- a new send was not pushed
new_unsent : (own : Own) (ms : Messages) (d : Deed) (before : List Deed) (packets : ℕ → List Packet) → NoneBeyond packets (length (sends own ms before))
    → unsent packets (sent_by own ms before (sends own ms before) d) ≡ sent_by own ms before (sends own ms before) d
unfolding has_any
new_unsent own ms d before packets none =
    let sents = sends own ms before in
    elim (sent_by_is own ms before sents d) [
      | inl e ↦ rw e refl
      | inr n ↦
          let k = new_number own ms before sents d n.0 n.1 in
          let f : packets n.0.number ≡ [] = none n.0.number (omega arith) in
          let e = n.2 in
          rw (e, f) refl
    ]

-- the live sends after a deed that pushes nothing
live_other : (own : Own) (ms : Messages) (d : Deed) (before : List Deed) → IsEager own (d ∷ before)
    → (progress own ms (d ∷ before)).packets ≡ (progress own ms before).packets
    → live_sends own ms (d ∷ before) ≡ live_sends own ms before ++ sent_by own ms before (sends own ms before) d
unfolding sends with_sent
live_other own ms d before h e =
    let sents = sends own ms before in
    let news = sent_by own ms before sents d in
    let packets = (progress own ms before).packets in
    live_sends_are own ms (d ∷ before) h
    ∙ ap (λ (x : ℕ → List Packet). unsent x (sents ++ news)) e
    ∙ filter-append (λ (s : Sent). not (has_any (packets s.number))) sents news
    ∙ ap (λ (xs : List Sent). unsent packets sents ++ xs) (new_unsent own ms d before packets (sends_are own ms before h.0).beyond)
    ∙ ap (λ (xs : List Sent). xs ++ news) (sym (live_sends_are own ms before h.0))

-- the live sends after a push
live_pushed : (own : Own) (ms : Messages) (before : List Deed) → IsEager own (Pushed ∷ before)
    → live_sends own ms (Pushed ∷ before) ≡ sends_left (progress own ms before).replies (live_sends own ms before)
unfolding sends with_sent sent_by progress after_deed
live_pushed own ms before h =
    let l = push_left own ms before h.0 (sends_are own ms before h.0) in
    live_sends_are own ms (Pushed ∷ before) h
    ∙ ap (unsent (after_push own ms before Pushed (progress own ms before)).packets) (append-nil (sends own ms before))
    ∙ l.live_are ∙ ap (sends_left (progress own ms before).replies) (sym (live_sends_are own ms before h.0))

-- the live sends after an eager deed, by any account
live_step_by : (own : Own) (ms : Messages) (d : Deed) (before : List Deed) → IsEager own (d ∷ before)
    → live_sends own ms (d ∷ before) ≡ live_left d (progress own ms before).replies (live_sends own ms before) ++ sent_by own ms before (sends own ms before) d
unfolding live_left sent_by progress after_deed after_push
live_step_by own ms Pushed before h = live_pushed own ms before h ∙ sym (append-nil (sends_left (progress own ms before).replies (live_sends own ms before)))
live_step_by own ms d before h = live_other own ms d before h refl

-- the live sends after an eager deed
pub live_sends_step : (own : Own) (d : Deed) (before : List Deed) → IsEager own (d ∷ before)
    → own_live_sends own (d ∷ before) ≡ live_left d (own_progress own before).replies (own_live_sends own before) ++ new_sends own before d
live_sends_step own d before h =
    let first = own.limits.first in
    let was = heard_by first before in
    let now = heard_by first (d ∷ before) in
    let a = agree_grows first d before in
    let l = live_sends_same own was now before a in
    let p = progress_same own was now before a in
    let s = sends_same own was now before a in
    let n = sent_by_same own was now before (own_sends own before) d a in
    live_step_by own now d before h
    ∙ ap (λ (xs : List Sent). live_left d (progress own now before).replies xs ++ sent_by own now before (sends own now before) d) (sym l)
    ∙ ap (λ (x : Progress). live_left d x.replies (own_live_sends own before) ++ sent_by own now before (sends own now before) d) (sym p)
    ∙ ap (λ (xs : List Sent). live_left d (own_progress own before).replies (own_live_sends own before) ++ sent_by own now before xs d) (sym s)
    ∙ ap (λ (xs : List Sent). live_left d (own_progress own before).replies (own_live_sends own before) ++ xs) (sym n)

-- what goes out next by eager deeds: the first reply, or else the packet of the first live send
pub due_is : (own : Own) (ms : Messages) (log : List Deed) → IsEager own log
    → due own ms log ≡ reply_due (slice_get (progress own ms log).replies 0) (first_due (live_sends own ms log))
unfolding due next_due
due_is own ms log h =
    ap (reply_due (slice_get (progress own ms log).replies 0))
    (next_send_is own log (progress own ms log).packets (sends own ms log) (λ l. never_forgotten own log l h) (sends_are own ms log h).each
    ∙ ap first_due (sym (live_sends_are own ms log h)))
