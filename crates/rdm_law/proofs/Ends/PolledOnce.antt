-- No receive of a life is polled twice.
use Rattle.std.proofs.Common.{◌≡◌, ℕ, zero, suc, ◌<◌, List, [], ◌∷◌, ◌++◌, map, Option, Some, None, refl, arith, inl, inr, sym, ◌∙◌, ap, subst, ◌⊎◌}
use Rattle.std.specs.Prelude.{IsTrue, ◌==◌, slice_get, option_to_list}
use Rattle.std.proofs.lemmas.Bool.{eqb-true}
use Rattle.std.proofs.lemmas.List.{map-append, append-nil}
use Rattle.rdm_num.specs.Lives.{life}
use Rattle.rdm_num.specs.declared.numbers.RecvNo.{RecvNo}
use Rattle.rdm_num.specs.declared.numbers.PortNo.{PortNo}
use Rattle.rdm_num.specs.declared.numbers.Connid.{Connid}
use Rattle.rdm_num.specs.declared.numbers.Life.{Life}
use Rattle.rdm_num.specs.declared.completion.Completion.{Completion}
use Rattle.rdm_num.specs.declared.completion.Completion.TheVariants.{Send, Recv}
use Rattle.rdm_num.specs.declared.completion.Outcome.{Outcome}
use Rattle.rdm_model.specs.declared.job.Job.{Job}
use Rattle.rdm_model.specs.declared.job.Instr.{Instr}
use Rattle.rdm_model.specs.declared.entry.Entry.{Entry}
use Rattle.rdm_model.specs.declared.entry.Act.{Act}
use Rattle.rdm_model.specs.declared.entry.Act.TheVariants.{Poll}
use Rattle.rdm_model.specs.Deeds.{Deed, Polled, Nothing, deed_of, deed_count, open_life, of_open_life, log_of}
use Rattle.rdm_model.specs.Beginnings.{Own, Messages, own_of, life_at, rank_of}
use Rattle.rdm_model.specs.Local.{heard_by}
use Rattle.rdm_model.specs.Matches.{Receive, receives}
use Rattle.rdm_model.specs.Receives.{RecvEnd, ended_recv, recv_ends_by, with_recv_ends, recv_ends, receive_numbered}
use Rattle.rdm_model.specs.Sends.{Sent}
use Rattle.rdm_model.specs.Dues.{progress}
use Rattle.rdm_model.specs.Completions.{outcome, recv_completion, recv_completions, send_completion, ended_sends, completions_by, completions, polls_by, poll_count}
use Rattle.rdm_model.specs.Scenes.{scene}
use Rattle.rdm_model.specs.Jobs.{is_fair, law_ops}
use Rattle.rdm_model.specs.Classes.{lives_class}
use Rattle.rdm_model.specs.Steps.{Does}
use Rattle.rdm_model.specs.Lawful.{port_deeds, life_deeds, sent_to, sent_scene, Lawful}
use Rattle.rdm_model.proofs.SameCompletions.{completions_same}
use Rattle.rdm_model.proofs.Grows.{agree_grows}
use Rattle.rdm_law.specs.Polled.{PolledOnce}
use Rattle.rdm_law.proofs.Lives.Lives.{LifeLocal}
use Rattle.rdm_law.proofs.Matching.Others.{LacksNumber, NumbersApart}
use Rattle.rdm_law.proofs.Accounts.Wired.{own_life}
use Rattle.rdm_law.proofs.Accounts.Known.{account}
use Rattle.rdm_law.proofs.Accounts.Sent.{agree_sent}
use Rattle.rdm_law.proofs.Accounts.SendsAre.{sends_are, at_life_deeds, deed_mine}
use Rattle.rdm_law.proofs.Classes.ClassLives.{AllFree}
use Rattle.rdm_law.proofs.Central.LawfulPlayed.{lawful_played}
use Rattle.rdm_law.proofs.Refusals.DroppedOnly.{lawful_at}
use Rattle.rdm_law.proofs.Ends.EndsOnce.{ends_once}
use Rattle.rdm_lists.proofs.Members.{find_member}
use Rattle.rdm_lists.proofs.Places.{slice_get-append}

-- the first list is the second without some of its elements
IsSub : List ℕ → List ℕ → Type 0
IsSub [] ys = Unit {0}
IsSub (x ∷ xs) [] = ⊥
IsSub (x ∷ xs) (y ∷ ys) = ((x ≡ y) × IsSub xs ys) ⊎ IsSub (x ∷ xs) ys

-- so it lacks no less
sub_lacks : (n : ℕ) (xs ys : List ℕ) → IsSub xs ys → LacksNumber n ys → LacksNumber n xs
unfolding IsSub
sub_lacks n [] ys s l = tt
sub_lacks n (x ∷ xs) [] s l = absurd s
sub_lacks n (x ∷ xs) (y ∷ ys) (inl s) l = (λ e. l.0 (sym s.0 ∙ e), sub_lacks n xs ys s.1 l.1)
sub_lacks n (x ∷ xs) (y ∷ ys) (inr s) l = sub_lacks n (x ∷ xs) ys s l.1

-- and is apart where that is
sub_apart : (xs ys : List ℕ) → IsSub xs ys → NumbersApart ys → NumbersApart xs
unfolding IsSub
sub_apart [] ys s a = tt
sub_apart (x ∷ xs) [] s a = absurd s
sub_apart (x ∷ xs) (y ∷ ys) (inl s) a = (subst (λ (n : ℕ). LacksNumber n xs) (sym s.0) (sub_lacks y xs ys s.1 a.0), sub_apart xs ys s.1 a.1)
sub_apart (x ∷ xs) (y ∷ ys) (inr s) a = sub_apart (x ∷ xs) ys s a.1

-- more elements may stand before
sub_skip : (zs ys ws : List ℕ) → IsSub zs ws → IsSub zs (ys ++ ws)
unfolding IsSub
sub_skip zs [] ws s = s
sub_skip [] (y ∷ ys) ws s = tt
sub_skip (z ∷ zs) (y ∷ ys) ws s = inr (sub_skip (z ∷ zs) ys ws s)

-- two lists after each other
sub_append : (xs ys zs ws : List ℕ) → IsSub xs ys → IsSub zs ws → IsSub (xs ++ zs) (ys ++ ws)
unfolding IsSub
sub_append [] ys zs ws s t = sub_skip zs ys ws t
sub_append (x ∷ xs) [] zs ws s t = absurd s
sub_append (x ∷ xs) (y ∷ ys) zs ws (inl s) t = inl (s.0, sub_append xs ys zs ws s.1 t)
sub_append (x ∷ xs) (y ∷ ys) zs ws (inr s) t = inr (sub_append (x ∷ xs) ys zs ws s t)

-- the numbers of the receives that complete
recv_numbers : List Completion → List ℕ
recv_numbers [] = []
recv_numbers (Send send gone ∷ cs) = recv_numbers cs
recv_numbers (Recv recv o ∷ cs) = recv.0 ∷ recv_numbers cs

-- of completions after each other
numbers-append : (cs ds : List Completion) → recv_numbers (cs ++ ds) ≡ recv_numbers cs ++ recv_numbers ds
unfolding recv_numbers
numbers-append [] ds = refl
numbers-append (Send send gone ∷ cs) ds = numbers-append cs ds
numbers-append (Recv recv o ∷ cs) ds = ap (λ (ns : List ℕ). recv.0 ∷ ns) (numbers-append cs ds)

-- sends have none
sends_none : (log : List Deed) (ss : List Sent) → recv_numbers (map (send_completion log) ss) ≡ []
unfolding recv_numbers send_completion
sends_none log [] = refl
sends_none log (s ∷ ss) = sends_none log ss

-- the receive of that number, if there is one
option_sub : (ms : Messages) (rs : List Receive) (e : RecvEnd) (o : Option Receive) → receive_numbered rs (ended_recv e) ≡ o
    → IsSub (recv_numbers (map (λ (r : Receive). Recv (record { 0 = r.number }) (outcome ms e r)) (option_to_list o))) (ended_recv e ∷ [])
unfolding recv_numbers receive_numbered IsSub
option_sub ms rs e None is = tt
option_sub ms rs e (Some r) is =
    let f = find_member (λ (x : Receive). x.number == ended_recv e) r rs is in inl (eqb-true r.number (ended_recv e) f.1, tt)

-- receives that end complete under their numbers, each once at most
ends_sub : (ms : Messages) (rs : List Receive) (es : List RecvEnd) → IsSub (recv_numbers (recv_completions ms rs es)) (map ended_recv es)
unfolding recv_completions recv_completion recv_numbers IsSub
ends_sub ms rs [] = tt
ends_sub ms rs (e ∷ es) =
    subst (λ (ns : List ℕ). IsSub ns (ended_recv e ∷ map ended_recv es)) (sym (numbers-append (recv_completion ms rs e) (recv_completions ms rs es)))
    (sub_append (recv_numbers (recv_completion ms rs e)) (ended_recv e ∷ []) (recv_numbers (recv_completions ms rs es)) (map ended_recv es)
    (option_sub ms rs e (receive_numbered rs (ended_recv e)) refl) (ends_sub ms rs es))

-- so do all receives of a life
completions_sub : (own : Own) (ms : Messages) (log : List Deed) → IsSub (recv_numbers (completions own ms log)) (map ended_recv (recv_ends own.limits.first ms.head log))
unfolding completions completions_by recv_ends with_recv_ends recv_numbers IsSub
completions_sub own ms [] = tt
completions_sub own ms (d ∷ before) =
    let first = own.limits.first in
    let ends = recv_ends first ms.head before in
    let new = recv_ends_by first ms.head d before ends in
    let rc = recv_completions ms (receives (d ∷ before)) new in
    let ss = ended_sends own ms d before (progress own ms before) in
    let sc = map (send_completion (d ∷ before)) ss in
    let cs = completions own ms before in
    let a : recv_numbers (cs ++ (rc ++ sc)) ≡ recv_numbers cs ++ (recv_numbers rc ++ []) =
    numbers-append cs (rc ++ sc) ∙ ap (λ (ns : List ℕ). recv_numbers cs ++ ns) (numbers-append rc sc ∙ ap (λ (ns : List ℕ). recv_numbers rc ++ ns) (sends_none (d ∷ before) ss)) in
    let none : recv_numbers rc ++ [] ≡ recv_numbers rc = append-nil (recv_numbers rc) in
    let s = sub_append (recv_numbers cs) (map ended_recv ends) (recv_numbers rc) (map ended_recv new) (completions_sub own ms before) (ends_sub ms (receives (d ∷ before)) new) in
    subst (λ (ns : List ℕ). IsSub ns (map ended_recv (ends ++ new))) (sym (a ∙ ap (λ (ns : List ℕ). recv_numbers cs ++ ns) none))
    (subst (λ (ns : List ℕ). IsSub (recv_numbers cs ++ recv_numbers rc) ns) (sym (map-append ended_recv ends new)) s)

-- a number that the completions lack
lacks_at : (n k : ℕ) (cs : List Completion) (recv : RecvNo) (o : Outcome) → LacksNumber n (recv_numbers cs) → slice_get cs k ≡ Some (Recv recv o) → recv.0 ≡ n → ⊥
unfolding recv_numbers
lacks_at n k [] recv o l h e = cc
lacks_at n zero (Send send gone ∷ cs) recv o l h e = cc
lacks_at n (suc k) (Send send gone ∷ cs) recv o l h e = lacks_at n k cs recv o l h e
lacks_at n zero (Recv r p ∷ cs) recv o l h e = let s : r ≡ recv = cc in l.0 (ap (λ (x : RecvNo). x.0) s ∙ e)
lacks_at n (suc k) (Recv r p ∷ cs) recv o l h e = lacks_at n k cs recv o l.1 h e

-- a receive completes at one place
one_place : (k l : ℕ) (cs : List Completion) (recv : RecvNo) (o p : Outcome) → NumbersApart (recv_numbers cs) → slice_get cs k ≡ Some (Recv recv o) → slice_get cs l ≡ Some (Recv recv p) → k ≡ l
unfolding recv_numbers
one_place k l [] recv o p a h i = cc
one_place zero zero (c ∷ cs) recv o p a h i = refl
one_place zero (suc l) (Send send gone ∷ cs) recv o p a h i = cc
one_place (suc k) zero (Send send gone ∷ cs) recv o p a h i = cc
one_place (suc k) (suc l) (Send send gone ∷ cs) recv o p a h i = ap suc (one_place k l cs recv o p a h i)
one_place zero (suc l) (Recv r q ∷ cs) recv o p a h i = let s : r ≡ recv = cc in absurd (lacks_at r.0 l cs recv p a.0 i (ap (λ (x : RecvNo). x.0) (sym s)))
one_place (suc k) zero (Recv r q ∷ cs) recv o p a h i = let s : r ≡ recv = cc in absurd (lacks_at r.0 k cs recv o a.0 h (ap (λ (x : RecvNo). x.0) (sym s)))
one_place (suc k) (suc l) (Recv r q ∷ cs) recv o p a h i = ap suc (one_place k l cs recv o p a.1 h i)

-- the completions of a life, by what it took itself
abbrev completed : Own → List Deed → List Completion
completed own log = completions own (heard_by own.limits.first log) log

-- each receive of a life completes once
completes_once : (own : Own) (log : List Deed) (k l : ℕ) (recv : RecvNo) (o p : Outcome) → LifeLocal own log → slice_get (completed own log) k ≡ Some (Recv recv o)
    → slice_get (completed own log) l ≡ Some (Recv recv p) → k ≡ l
completes_once own log k l recv o p local h i =
    let ms = heard_by own.limits.first log in
    one_place k l (completed own log) recv o p
    (sub_apart (recv_numbers (completed own log)) (map ended_recv (recv_ends own.limits.first ms.head log)) (completions_sub own ms log) (ends_once own log local)) h i

-- a completion was polled: it stands at its place, and more were polled
record WasPolled (own : Own) (k : ℕ) (c : Completion) (log : List Deed) : Type 0 where
  at : slice_get (completed own log) k ≡ Some c
  past : k < poll_count log

-- completions stay at their places
completed_still : (own : Own) (k : ℕ) (c : Completion) (d : Deed) (log : List Deed) → slice_get (completed own log) k ≡ Some c → slice_get (completed own (d ∷ log)) k ≡ Some c
unfolding completions
completed_still own k c d log h =
    let first = own.limits.first in
    let same = completions_same own (heard_by first log) (heard_by first (d ∷ log)) log (agree_grows first d log) in
    slice_get-append (completions own (heard_by first (d ∷ log)) log) _ k c (subst (λ (cs : List Completion). slice_get cs k ≡ Some c) same h)

-- what was polled stays polled
polled_still : (own : Own) (k : ℕ) (c : Completion) (d : Deed) (log : List Deed) → WasPolled own k c log → WasPolled own k c (d ∷ log)
unfolding poll_count deed_count
polled_still own k c d log w = record { at = completed_still own k c d log w.at; past = (let p = w.past in omega arith) }

-- a poll polls the next completion
polled_now : (own : Own) (c : Completion) (log : List Deed) → slice_get (completed own log) (poll_count log) ≡ Some c → WasPolled own (poll_count log) c (Polled ∷ log)
unfolding poll_count deed_count polls_by
polled_now own c log h = record { at = completed_still own (poll_count log) c Polled log h; past = omega arith }

-- over more entries
polled_kept : (job : Job) (i : Life) (k : ℕ) (c : Completion) (newer before : List Entry) → WasPolled (own_of job i) k c (life_deeds job before i) → WasPolled (own_of job i) k c (life_deeds job (newer ++ before) i)
polled_kept job i k c [] before w = w
polled_kept job i k c (e ∷ newer) before w =
    let earlier = polled_kept job i k c newer before w in
    at_life_deeds (WasPolled (own_of job i) k c) job i e (newer ++ before)
    (λ deed. polled_still (own_of job i) k c (deed_of (rank_of job i.port.0).ops e.act) (life_deeds job (newer ++ before) i) earlier)
    (λ deed. earlier)

-- a poll is a deed of its own
poll_deed : (ops : List Instr) (act : Act) (c : Completion) → act ≡ Poll c → deed_of ops act ≡ Polled
unfolding deed_of
poll_deed ops act c is = rw is refl

-- an entry that polls, for the life that is open
polled_by : (job : Job) (i : Life) (e : Entry) (before : List Entry) (c : Completion) → e.port.0 ≡ i.port.0 → open_life (port_deeds job i.port.0 before) ≡ Some i.connid → e.act ≡ Poll c
    → slice_get (completed (own_of job i) (life_deeds job before i)) (poll_count (life_deeds job before i)) ≡ Some c
    → WasPolled (own_of job i) (poll_count (life_deeds job before i)) c (life_deeds job (e ∷ before) i)
polled_by job i e before c port open' is h =
    let own = own_of job i in
    let log = life_deeds job before i in
    let poll = poll_deed (rank_of job i.port.0).ops e.act c is in
    at_life_deeds (WasPolled own (poll_count log) c) job i e before
    (λ deed. subst (λ (d : Deed). WasPolled own (poll_count log) c (d ∷ log)) (sym poll) (polled_now own c log h))
    (λ deed. let mine = deed_mine job e before i port open' in let wrong : Polled ≡ Nothing = sym poll ∙ sym mine ∙ deed in cc)

-- what a scene of a port is made of, where a life is open
open_scene : (job : Job) (port : PortNo) (c : Connid) (before : List Entry) → open_life (port_deeds job port.0 before) ≡ Some c
    → (completions (sent_scene job port.0 before).own (sent_scene job port.0 before).ms (sent_scene job port.0 before).log
    ≡ completions (own_of job (life port c)) (sent_to job before (life port c)) (life_deeds job before (life port c)))
    × (poll_count (sent_scene job port.0 before).log ≡ poll_count (life_deeds job before (life port c)))
unfolding sent_scene scene life_at of_open_life life_deeds
open_scene job port c before h = rw h (refl, refl)

-- what an entry of a lawful history polls is the next completion of the life that is open
next_polled : (job : Job) (before : List Entry) (e : Entry) (c : Connid) (recv : RecvNo) (o : Outcome) → IsTrue (is_fair law_ops job) → AllFree job → Lawful job (e ∷ before)
    → open_life (port_deeds job e.port.0 before) ≡ Some c → e.act ≡ Poll (Recv recv o)
    → slice_get (completed (own_of job (life e.port c)) (life_deeds job before (life e.port c))) (poll_count (life_deeds job before (life e.port c))) ≡ Some (Recv recv o)
next_polled job before e c recv o fair free lawful open' is =
    let i = life e.port c in
    let own = own_of job i in
    let log = life_deeds job before i in
    let played = lawful_played job before fair free lawful.0 in
    let s = sent_scene job e.port.0 before in
    let at : Does job lives_class s (log_of e.port.0 before) e (Poll (Recv recv o)) = subst (λ (x : Act). Does job lives_class s (log_of e.port.0 before) e x) is lawful.3.2 in
    let parts = open_scene job e.port c before open' in
    let same = completions_same own (account job before i) (sent_to job before i) log (agree_sent job before i played (sends_are job before played)) in
    subst (λ (k : ℕ). slice_get (completed own log) k ≡ Some (Recv recv o)) parts.1
    (subst (λ (cs : List Completion). slice_get cs (poll_count s.log) ≡ Some (Recv recv o)) (parts.0 ∙ sym same) at)

-- two polls of a receive of the life that is open
two_polls : (job : Job) (e : Entry) (between : List Entry) (f : Entry) (before : List Entry) (recv : RecvNo) (later earlier : Outcome) (c : Connid) → IsTrue (is_fair law_ops job) → AllFree job
    → Lawful job (e ∷ (between ++ f ∷ before)) → e.port ≡ f.port → open_life (port_deeds job e.port.0 (between ++ f ∷ before)) ≡ Some c → open_life (port_deeds job f.port.0 before) ≡ Some c
    → e.act ≡ Poll (Recv recv later) → f.act ≡ Poll (Recv recv earlier) → ⊥
two_polls job e between f before recv later earlier c fair free lawful port open_e open_f is_e is_f =
    let i = life e.port c in
    let own = own_of job i in
    let log = life_deeds job (between ++ f ∷ before) i in
    let there = next_polled job before f c recv earlier fair free (lawful_at job between f before lawful.0) open_f is_f in
    let P : PortNo → Type 0 = λ p. slice_get (completed (own_of job (life p c)) (life_deeds job before (life p c))) (poll_count (life_deeds job before (life p c))) ≡ Some (Recv recv earlier) in
    let here : P e.port = subst P (sym port) there in
    let Q : PortNo → Type 0 = λ p. open_life (port_deeds job p.0 before) ≡ Some c in
    let was = polled_by job i f before (Recv recv earlier) (ap (λ (p : PortNo). p.0) (sym port)) (subst Q (sym port) open_f) is_f here in
    let kept = polled_kept job i (poll_count (life_deeds job before i)) (Recv recv earlier) between (f ∷ before) was in
    let now = next_polled job (between ++ f ∷ before) e c recv later fair free lawful open_e is_e in
    let played = lawful_played job (between ++ f ∷ before) fair free lawful.0 in
    let same = completes_once own log (poll_count (life_deeds job before i)) (poll_count log) recv earlier later (own_life job (between ++ f ∷ before) played i) kept.at now in
    let past = kept.past in
    omega arith

-- a port that polls has a life open
poll_opened : (job : Job) (before : List Entry) (e : Entry) (now : Option Connid) (recv : RecvNo) (o : Outcome) → Lawful job (e ∷ before) → open_life (port_deeds job e.port.0 before) ≡ now
    → e.act ≡ Poll (Recv recv o) → (c : Connid) × (now ≡ Some c)
unfolding sent_scene scene of_open_life completions
poll_opened job before e (Some c) recv o lawful now is = (c, refl)
poll_opened job before e None recv o lawful now is =
    let s = sent_scene job e.port.0 before in
    let at : Does job lives_class s (log_of e.port.0 before) e (Poll (Recv recv o)) = subst (λ (x : Act). Does job lives_class s (log_of e.port.0 before) e x) is lawful.3.2 in
    let P : Option Connid → Type 0 = λ n. slice_get (completions s.own s.ms (of_open_life n (port_deeds job e.port.0 before))) (poll_count s.log) ≡ Some (Recv recv o) in
    let none : P None = subst P now at in
    absurd cc

-- no receive of a life is polled twice
pub polled_once : (job : Job) (history : List Entry) → IsTrue (is_fair law_ops job) → AllFree job → Lawful job history → PolledOnce job history
polled_once job history fair free lawful newer e between f before recv later earlier split port open' is_e is_f =
    let l = lawful_at job newer e (between ++ f ∷ before) (subst (Lawful job) split lawful) in
    let c = poll_opened job before f (open_life (port_deeds job f.port.0 before)) recv earlier (lawful_at job between f before l.0) refl is_f in
    two_polls job e between f before recv later earlier c.0 fair free l port (open' ∙ c.1) c.1 is_e is_f
