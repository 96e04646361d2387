-- A history has no more than two polls to an instruction that did.
use Rattle.std.proofs.Common.{◌≡◌, ℕ, ◌+◌, ◌*◌, ◌≤◌, List, [], ◌∷◌, length, refl, arith, inl, inr, ap, length-append}
use Rattle.rdm_num.specs.declared.numbers.Life.{Life}
use Rattle.rdm_model.specs.declared.job.Job.{Job}
use Rattle.rdm_model.specs.declared.job.Instr.TheVariants.{Send, Recv}
use Rattle.rdm_model.specs.declared.entry.Entry.{Entry}
use Rattle.rdm_model.specs.Deeds.{Deed, Did, deed_count}
use Rattle.rdm_model.specs.Beginnings.{Own, Messages, rank_of, own_of}
use Rattle.rdm_model.specs.Local.{heard_by}
use Rattle.rdm_model.specs.Lawful.{life_deeds}
use Rattle.rdm_model.specs.Matches.{receive, receives, received_by, with_received}
use Rattle.rdm_model.specs.Sends.{Sent, sent_by, with_sent, sends}
use Rattle.rdm_model.specs.Completions.{polls_by, poll_count}
use Rattle.rdm_model.proofs.Numbers.{sends_step}
use Rattle.rdm_law.proofs.Lives.Lives.{LifeLocal}
use Rattle.rdm_law.proofs.Accounts.Wired.{Played, own_life}
use Rattle.rdm_law.proofs.Bound.EntryCounts.{entry_weight}
use Rattle.rdm_law.proofs.Bound.LifeCounts.{deed_weight, deed_le, deed_at, lives_of, lives_distinct, lives_weight}
use Rattle.rdm_law.proofs.Bound.Covers.{covered_weight, are_covered, poll_life}
use Rattle.rdm_law.proofs.Bound.NoteCounts.{one, polls_counted}
use Rattle.rdm_law.proofs.Ends.EndsCounted.{completions_counted}
use Rattle.rdm_lists.proofs.Sums.{total, total_le}

-- 2 for each instruction that did
abbrev two : Deed → ℕ
two d = 2 * deed_weight one d

-- an accepted send is one of those that did
sends_most : (own : Own) (ms : Messages) (d : Deed) (before : List Deed) → length (sends own ms (d ∷ before)) ≤ length (sends own ms before) + 1
sends_most own ms d before =
    elim (sends_step own ms d before) [
      | inl same ↦ (let e = ap (λ (ss : List Sent). length ss) same in omega arith)
      | inr new ↦ (let e = ap (λ (ss : List Sent). length ss) new.2 in let a = length-append (sends own ms before) (new.0 ∷ []) in omega arith)
    ]

-- what a deed adds to sends and receives
did_step : (own : Own) (ms : Messages) (d : Deed) (before : List Deed)
    → length (sends own ms (d ∷ before)) + 2 * length (receives (d ∷ before)) ≤ length (sends own ms before) + 2 * length (receives before) + two d
unfolding sends with_sent sent_by receives with_received received_by deed_weight
did_step own ms (Did (Send req)) before =
    let s = sends_most own ms (Did (Send req)) before in
    let r = length-append (receives before) [] in
    omega arith
did_step own ms (Did (Recv req)) before =
    let s = length-append (sends own ms before) [] in
    let r = length-append (receives before) (receive (length (receives before)) before req ∷ []) in
    omega arith
did_step own ms _ before =
    let s = length-append (sends own ms before) [] in
    let r = length-append (receives before) [] in
    omega arith

-- before anything
did_none : (own : Own) (ms : Messages) → length (sends own ms []) + 2 * length (receives []) ≤ 0
unfolding sends receives
did_none own ms = omega arith

-- so all of them are of deeds that did
did_counted : (own : Own) (ms : Messages) (log : List Deed) → length (sends own ms log) + 2 * length (receives log) ≤ total two log
unfolding total
did_counted own ms [] = did_none own ms
did_counted own ms (d ∷ before) = let e = did_counted own ms before in let s = did_step own ms d before in omega arith

-- a count over a log is a sum
count_total : (f : Deed → ℕ) (log : List Deed) → deed_count f log ≡ total f log
unfolding deed_count total
count_total f [] = refl
count_total f (d ∷ before) = let e = count_total f before in omega arith

-- a life polls no more than twice to an instruction that did
life_polls : (own : Own) (log : List Deed) → LifeLocal own log → total polls_by log ≤ total two log
unfolding poll_count
life_polls own log local =
    let ms = heard_by own.limits.first log in
    let p = polls_counted own log local in
    let c = completions_counted own log local in
    let d = did_counted own ms log in
    let t = count_total polls_by log in
    omega arith

-- a sum of doubles
total_twice : {A : Type 0} (f : A → ℕ) (xs : List A) → total (λ x. 2 * f x) xs ≡ 2 * total f xs
unfolding total
total_twice f [] = refl
total_twice f (x ∷ xs) = let e = total_twice f xs in omega arith

-- a deed weighs no more than its instruction
two_le : (job : Job) (e : Entry) → two (deed_at job e) ≤ 2 * entry_weight job one e
two_le job e = let d = deed_le (rank_of job e.port.0).ops one e.act in omega arith

-- a history has no more polls than twice its instructions that were done
pub polls_total : (job : Job) (history : List Entry) → Played job history → total (λ e. polls_by (deed_at job e)) history ≤ 2 * total (entry_weight job one) history
polls_total job history played =
    let ls = lives_of job history in
    let c = covered_weight job polls_by ls history (are_covered job polls_by ls history (λ before e does. poll_life job before e e.act does) (λ l m. m) played) in
    let p = total_le (λ (l : Life). total polls_by (life_deeds job history l)) (λ (l : Life). total two (life_deeds job history l)) ls
    (λ l m. life_polls (own_of job l) (life_deeds job history l) (own_life job history played l)) in
    let w = lives_weight job ls two (λ (e : Entry). 2 * entry_weight job one e) history (lives_distinct job history) (λ e. two_le job e) in
    let t = total_twice (entry_weight job one) history in
    omega arith
