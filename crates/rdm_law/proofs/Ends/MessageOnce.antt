-- No message that came to a life is polled twice.
use Rattle.std.proofs.Common.{◌≡◌, ℕ, List, [], ◌∷◌, ◌++◌, Some, refl, sym, ◌∙◌, ap, subst}
use Rattle.std.specs.Prelude.{IsTrue, ◌==◌}
use Rattle.std.proofs.lemmas.Bool.{eqb-true}
use Rattle.std.proofs.lemmas.List.{append_assoc}
use Rattle.rdm_lists.specs.Lists.{Member}
use Rattle.rdm_num.specs.Lives.{life}
use Rattle.rdm_num.specs.declared.numbers.PortNo.{PortNo}
use Rattle.rdm_num.specs.declared.numbers.RecvNo.{RecvNo}
use Rattle.rdm_num.specs.declared.numbers.Life.{Life}
use Rattle.rdm_num.specs.declared.completion.Completion.TheVariants.{Recv}
use Rattle.rdm_match.specs.declared.Arrived.{Arrived}
use Rattle.rdm_match.specs.Matcher.{Pair, Matching}
use Rattle.rdm_model.specs.declared.job.Job.{Job}
use Rattle.rdm_model.specs.declared.entry.Entry.{Entry}
use Rattle.rdm_model.specs.declared.entry.Act.TheVariants.{Poll}
use Rattle.rdm_model.specs.Deeds.{Deed, deed_of}
use Rattle.rdm_model.specs.Beginnings.{own_of, rank_of}
use Rattle.rdm_model.specs.Local.{heard_by}
use Rattle.rdm_model.specs.Matches.{Receive, receives, pairs}
use Rattle.rdm_model.specs.Receives.{receive_numbered}
use Rattle.rdm_model.specs.Jobs.{is_fair, law_ops}
use Rattle.rdm_model.specs.Lawful.{life_deeds, sent_to, Lawful}
use Rattle.rdm_model.proofs.Matches.{pair_still}
use Rattle.rdm_model.proofs.SameMatches.{pairs_same}
use Rattle.rdm_law.specs.Polled.{IsMatched, MessagePolledOnce}
use Rattle.rdm_law.proofs.Accounts.Wired.{Played}
use Rattle.rdm_law.proofs.Accounts.Known.{account}
use Rattle.rdm_law.proofs.Accounts.Named.{pairs_of}
use Rattle.rdm_law.proofs.Accounts.Sent.{agree_sent}
use Rattle.rdm_law.proofs.Accounts.SendsAre.{sends_are, at_life_deeds}
use Rattle.rdm_law.proofs.Classes.ClassLives.{AllFree}
use Rattle.rdm_law.proofs.Central.LawfulPlayed.{lawful_played}
use Rattle.rdm_law.proofs.Refusals.DroppedOnly.{lawful_at}
use Rattle.rdm_law.proofs.Matching.Distinct.{matching_distinct}
use Rattle.rdm_law.proofs.Matching.Received.{receive_stands}
use Rattle.rdm_law.proofs.Ends.Live.{earlier_matching}
use Rattle.rdm_law.proofs.Ends.PolledEnded.{pairs_plain}
use Rattle.rdm_law.proofs.Ends.PolledOnce.{polled_once}
use Rattle.rdm_lists.proofs.Members.{find_member}

-- the pair of a receive and a message
abbrev pair : Receive → Arrived → Pair
pair r message = record { recv = r.posted; message = message }

-- what the plain matcher matched, by what the life took itself
matched_of : (job : Job) (history : List Entry) (i : Life) (r : Receive) (message : Arrived) → Played job history → IsMatched job history i r message → Member (pair r message) (pairs_of job history i)
matched_of job history i r message played m =
    let a = agree_sent job history i played (sends_are job history played) in
    subst (λ (ps : List Pair). Member (pair r message) ps)
    (sym (pairs_plain job history i) ∙ sym (pairs_same (own_of job i).limits.first (account job history i).head (sent_to job history i).head (life_deeds job history i) a.heads)) m

-- a pair of a life stays one
pair_kept : (job : Job) (i : Life) (p : Pair) (newer before : List Entry) → Member p (pairs_of job before i) → Member p (pairs_of job (newer ++ before) i)
pair_kept job i p [] before m = m
pair_kept job i p (e ∷ newer) before m =
    let first = (own_of job i).limits.first in
    let log = life_deeds job (newer ++ before) i in
    let earlier : Member p (pairs first (heard_by first log).head log) = pair_kept job i p newer before m in
    at_life_deeds (λ (l : List Deed). Member p (pairs first (heard_by first l).head l)) job i e (newer ++ before)
    (λ deed.
    let d = deed_of (rank_of job i.port.0).ops e.act in
    pair_still first (heard_by first (d ∷ log)).head d log p (subst (λ (m : Matching). Member p m.pairs) (earlier_matching first d log) earlier))
    (λ deed. earlier)

-- a receive that is found by its number, as the matcher sees it
number_of : (log : List Deed) (r : Receive) (n : ℕ) → receive_numbered (receives log) n ≡ Some r → r.posted.id.0 ≡ n
unfolding receive_numbered
number_of log r n h =
    let f = find_member (λ (x : Receive). x.number == n) r (receives log) h in
    (receive_stands log r f.0).1 ∙ eqb-true r.number n f.1

-- receives that were matched to one message are one
one_receive : (job : Job) (i : Life) (newer before : List Entry) (r q : Receive) (message : Arrived) (n k : ℕ) → Played job (newer ++ before) → Played job before
    → IsMatched job (newer ++ before) i r message → IsMatched job before i q message
    → receive_numbered (receives (life_deeds job (newer ++ before) i)) n ≡ Some r → receive_numbered (receives (life_deeds job before i)) k ≡ Some q → n ≡ k
one_receive job i newer before r q message n k played earlier m o is was =
    let first = (own_of job i).limits.first in
    let log = life_deeds job (newer ++ before) i in
    let a = matched_of job (newer ++ before) i r message played m in
    let b = pair_kept job i (pair q message) newer before (matched_of job before i q message earlier o) in
    let same = (matching_distinct first (account job (newer ++ before) i).head log).once (pair r message) (pair q message) a b refl refl in
    sym (number_of log r n is) ∙ ap (λ (p : Pair). p.recv.id.0) same ∙ number_of (life_deeds job before i) q k was

-- the same, with the entry that came between
one_receive_at : (job : Job) (i : Life) (between : List Entry) (f : Entry) (before : List Entry) (r q : Receive) (message : Arrived) (n k : ℕ) → Played job (between ++ f ∷ before)
    → Played job before → IsMatched job (between ++ f ∷ before) i r message → IsMatched job before i q message
    → receive_numbered (receives (life_deeds job (between ++ f ∷ before) i)) n ≡ Some r → receive_numbered (receives (life_deeds job before i)) k ≡ Some q → n ≡ k
one_receive_at job i between f before r q message n k played earlier m o is was =
    let e : (between ++ f ∷ []) ++ before ≡ between ++ f ∷ before = append_assoc between (f ∷ []) before in
    one_receive job i (between ++ f ∷ []) before r q message n k (subst (λ (h : List Entry). Played job h) (sym e) played) earlier
    (subst (λ (h : List Entry). IsMatched job h i r message) (sym e) m) o
    (subst (λ (h : List Entry). receive_numbered (receives (life_deeds job h i)) n ≡ Some r) (sym e) is) was

-- no message that came to a life is polled twice
pub message_once : (job : Job) (history : List Entry) → IsTrue (is_fair law_ops job) → AllFree job → Lawful job history → MessagePolledOnce job history
message_once job history fair free lawful newer e between f before c message split port later earlier =
    let l = lawful_at job newer e (between ++ f ∷ before) (subst (Lawful job) split lawful) in
    let k = lawful_at job between f before l.0 in
    let played = lawful_played job (between ++ f ∷ before) fair free l.0 in
    let was = lawful_played job before fair free k.0 in
    let there : PortNo → Type 0 = λ p. IsMatched job before (life p c) earlier.receive message in
    let found : PortNo → Type 0 = λ p. receive_numbered (receives (life_deeds job before (life p c))) earlier.recv.0 ≡ Some earlier.receive in
    let n = one_receive_at job (life e.port c) between f before later.receive earlier.receive message later.recv.0 earlier.recv.0 played was later.matched
    (subst there (sym port) earlier.matched) later.is_receive (subst found (sym port) earlier.is_receive) in
    let same : later.recv ≡ earlier.recv = ap (λ (x : ℕ). record { 0 = x }) n in
    polled_once job history fair free lawful newer e between f before earlier.recv later.outcome earlier.outcome split port (later.is_open ∙ sym earlier.is_open)
    (later.act_is ∙ ap (λ (x : RecvNo). Poll (Recv x later.outcome)) same) earlier.act_is
