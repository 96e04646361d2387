-- By two accounts that agree, the same goes out next, and the same sends are live.
use Rattle.std.proofs.Common.{◌≡◌, List, [], ◌∷◌, refl}
use Rattle.rdm_model.specs.Deeds.{Deed, Pushed}
use Rattle.rdm_model.specs.Beginnings.{Own, Messages}
use Rattle.rdm_model.specs.Sends.{sends}
use Rattle.rdm_model.specs.Dues.{Progress, after_push, after_deed, progress, due, live_sends}
use Rattle.rdm_model.proofs.SameRegions.{Agree, agree_before, sends_same}
use Rattle.rdm_model.proofs.SameReplies.{replies_by_same}

-- a push leaves the same
pub after_push_same : (own : Own) (ms ns : Messages) (before : List Deed) (d : Deed) (p : Progress) → Agree own.limits.first ms ns before
    → after_push own ms before d p ≡ after_push own ns before d p
unfolding after_push
after_push_same own ms ns before Pushed p a = rw (sends_same own ms ns before a) refl
after_push_same own ms ns before _ p a = refl

-- a deed leaves the same
pub after_deed_same : (own : Own) (ms ns : Messages) (before : List Deed) (d : Deed) (p : Progress) → Agree own.limits.first ms ns (d ∷ before)
    → after_deed own ms before d p ≡ after_deed own ns before d p
unfolding after_deed
after_deed_same own ms ns before d p a =
    let s = sends_same own ms ns before (agree_before own.limits.first ms ns d before a) in
    let r = replies_by_same own ms.head ns.head (sends own ns before) d before a.heads in
    rw (s, r) refl

-- the same replies wait, and the same packets were pushed
pub progress_same : (own : Own) (ms ns : Messages) (log : List Deed) → Agree own.limits.first ms ns log → progress own ms log ≡ progress own ns log
unfolding progress
progress_same own ms ns [] a = refl
progress_same own ms ns (d ∷ before) a =
    let b = agree_before own.limits.first ms ns d before a in
    let earlier = progress_same own ms ns before b in
    let pushed = after_push_same own ms ns before d (progress own ns before) b in
    let newest = after_deed_same own ms ns before d (after_push own ns before d (progress own ns before)) a in
    rw (earlier, pushed, newest) refl

-- the same due item is next
pub due_same : (own : Own) (ms ns : Messages) (log : List Deed) → Agree own.limits.first ms ns log → due own ms log ≡ due own ns log
unfolding due
due_same own ms ns log a = rw (sends_same own ms ns log a, progress_same own ms ns log a) refl

-- the same sends are live
pub live_sends_same : (own : Own) (ms ns : Messages) (log : List Deed) → Agree own.limits.first ms ns log → live_sends own ms log ≡ live_sends own ns log
unfolding live_sends
live_sends_same own ms ns log a = rw (sends_same own ms ns log a, progress_same own ms ns log a) refl
