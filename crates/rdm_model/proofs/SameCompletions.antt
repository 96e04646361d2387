-- By two accounts that agree, the completions and the counts of the pools are the same.
use Rattle.std.proofs.Common.{◌≡◌, List, [], ◌∷◌, refl, inl, inr}
use Rattle.std.specs.Prelude.{option_to_list}
use Rattle.rdm_lists.specs.Lists.{Member}
use Rattle.rdm_num.specs.declared.completion.Completion.TheVariants.{Recv}
use Rattle.rdm_model.specs.Deeds.{Deed}
use Rattle.rdm_model.specs.Beginnings.{Own, Messages, Heads}
use Rattle.rdm_model.specs.Matches.{Receive, receives}
use Rattle.rdm_model.specs.Receives.{RecvEnd, Filled, Withdrawn, Gone, ended_recv, recv_ends_by, recv_ends, receive_numbered}
use Rattle.rdm_model.specs.Regions.{kept_bytes}
use Rattle.rdm_model.specs.Dues.{Progress, progress, after_push}
use Rattle.rdm_model.specs.Completions.{took_outcome, outcome, recv_completion, recv_completions, ended_sends, completions_by, completions, tx_count, rx_count, early_count, cq_count}
use Rattle.rdm_model.proofs.SameMatches.{HeadsAgree, pairs_same}
use Rattle.rdm_model.proofs.SameReceives.{recv_ends_by_same, recv_ends_same, live_receives_same}
use Rattle.rdm_model.proofs.SameRegions.{Agree, AgreeEnd, agree_before, ends_agree, sends_same}
use Rattle.rdm_model.proofs.SameDues.{after_push_same, after_deed_same, progress_same, live_sends_same}
use Rattle.rdm_lists.proofs.Same.{map_same}

-- a receive has the same outcome
outcome_same : (ms ns : Messages) (e : RecvEnd) (r : Receive) → AgreeEnd ms ns e → outcome ms e r ≡ outcome ns e r
unfolding outcome took_outcome kept_bytes
outcome_same ms ns (Filled p) r a = let h = a.0 in let b = a.1 in rw (h, b) refl
outcome_same ms ns (Withdrawn n) r a = refl
outcome_same ms ns (Gone n) r a = refl

-- and the same completion
recv_completion_same : (ms ns : Messages) (rs : List Receive) (e : RecvEnd) → AgreeEnd ms ns e → recv_completion ms rs e ≡ recv_completion ns rs e
unfolding recv_completion
recv_completion_same ms ns rs e a =
    map_same (λ (r : Receive). Recv (record { 0 = r.number }) (outcome ms e r)) (λ (r : Receive). Recv (record { 0 = r.number }) (outcome ns e r))
    (option_to_list (receive_numbered rs (ended_recv e))) (λ r m. let o = outcome_same ms ns e r a in rw o refl)

-- so have receives in order
recv_completions_same : (ms ns : Messages) (rs : List Receive) (es : List RecvEnd) → ((e : RecvEnd) → Member e es → AgreeEnd ms ns e)
    → recv_completions ms rs es ≡ recv_completions ns rs es
unfolding recv_completions
recv_completions_same ms ns rs [] a = refl
recv_completions_same ms ns rs (e ∷ es) a =
    let newest = recv_completion_same ms ns rs e (a e (inl refl)) in
    let rest = recv_completions_same ms ns rs es (λ x m. a x (inr m)) in
    rw (newest, rest) refl

-- the same sends end by a deed
pub ended_sends_same : (own : Own) (ms ns : Messages) (d : Deed) (before : List Deed) (p : Progress) → Agree own.limits.first ms ns (d ∷ before)
    → ended_sends own ms d before p ≡ ended_sends own ns d before p
unfolding ended_sends
ended_sends_same own ms ns d before p a =
    let b = agree_before own.limits.first ms ns d before a in
    let s = sends_same own ms ns before b in
    let pushed = after_push_same own ms ns before d p b in
    let newest = after_deed_same own ms ns before d (after_push own ns before d p) a in
    rw (s, pushed, newest) refl

-- a deed makes the same completions
pub completions_by_same : (own : Own) (ms ns : Messages) (d : Deed) (before : List Deed) → Agree own.limits.first ms ns (d ∷ before)
    → completions_by own ms d before ≡ completions_by own ns d before
unfolding completions_by
completions_by_same own ms ns d before a =
    let b = agree_before own.limits.first ms ns d before a in
    let first = own.limits.first in
    let ends = recv_ends_same first ms.head ns.head before b.heads in
    let newest = recv_ends_by_same first ms.head ns.head d before (recv_ends first ns.head before) a.heads in
    let done = recv_completions_same ms ns (receives (d ∷ before)) (recv_ends_by first ms.head d before (recv_ends first ms.head before))
    (λ e m. ends_agree first ms ns d before (recv_ends first ms.head before) e a m) in
    let p = progress_same own ms ns before b in
    let sent = ended_sends_same own ms ns d before (progress own ns before) a in
    rw (done, ends, newest, p, sent) refl

-- the completions are the same
pub completions_same : (own : Own) (ms ns : Messages) (log : List Deed) → Agree own.limits.first ms ns log → completions own ms log ≡ completions own ns log
unfolding completions
completions_same own ms ns [] a = refl
completions_same own ms ns (d ∷ before) a =
    let earlier = completions_same own ms ns before (agree_before own.limits.first ms ns d before a) in
    let newest = completions_by_same own ms ns d before a in
    rw (earlier, newest) refl

-- as many sends are live
pub tx_count_same : (own : Own) (ms ns : Messages) (log : List Deed) → Agree own.limits.first ms ns log → tx_count own ms log ≡ tx_count own ns log
unfolding tx_count
tx_count_same own ms ns log a = rw (live_sends_same own ms ns log a) refl

-- as many receives are live
pub rx_count_same : (own : Own) (hs ks : Heads) (log : List Deed) → HeadsAgree hs ks log → rx_count own hs log ≡ rx_count own ks log
unfolding rx_count
rx_count_same own hs ks log a = rw (live_receives_same own.limits.first hs ks log a) refl

-- as many early places are taken
pub early_count_same : (own : Own) (hs ks : Heads) (log : List Deed) → HeadsAgree hs ks log → early_count own hs log ≡ early_count own ks log
unfolding early_count
early_count_same own hs ks log a = rw (pairs_same own.limits.first hs ks log a) refl

-- as many places for completions are taken
pub cq_count_same : (own : Own) (ms ns : Messages) (log : List Deed) → Agree own.limits.first ms ns log → cq_count own ms log ≡ cq_count own ns log
unfolding cq_count
cq_count_same own ms ns log a = rw (sends_same own ms ns log a) refl
