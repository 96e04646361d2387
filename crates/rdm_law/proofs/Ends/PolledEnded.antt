-- Each polled receive of a lawful history ended as was polled.
use Rattle.std.proofs.Common.{◌≡◌, ℕ, ◌-◌, Bool, true, List, take, Option, Some, None, refl, inl, inr, sym, ◌∙◌, ap, subst}
use Rattle.std.specs.Prelude.{IsTrue, ◌==◌, ◌&&◌}
use Rattle.std.specs.List.{list_any}
use Rattle.std.proofs.lemmas.Bool.{eqb-true, and_parts, or_cases}
use Rattle.rdm_lists.specs.Lists.{Member}
use Rattle.rdm_num.specs.Lives.{same_life, is_life}
use Rattle.rdm_num.specs.declared.numbers.RecvNo.{RecvNo}
use Rattle.rdm_num.specs.declared.numbers.PortNo.{PortNo}
use Rattle.rdm_num.specs.declared.numbers.Connid.{Connid}
use Rattle.rdm_num.specs.declared.numbers.Life.{Life}
use Rattle.rdm_num.specs.declared.head.Head.{Head}
use Rattle.rdm_num.specs.declared.completion.Completion.{Completion}
use Rattle.rdm_num.specs.declared.completion.Completion.TheVariants.{Recv}
use Rattle.rdm_num.specs.declared.completion.Outcome.{Outcome}
use Rattle.rdm_num.specs.declared.completion.Outcome.TheVariants.{Took, Cancelled, Gone as GoneOutcome}
use Rattle.rdm_match.specs.declared.PostedRecv.{PostedRecv}
use Rattle.rdm_match.specs.declared.Arrived.{Arrived}
use Rattle.rdm_match.specs.Matcher.{Pair, accepts, is_recv}
use Rattle.rdm_model.specs.declared.job.Job.{Job}
use Rattle.rdm_model.specs.declared.job.Instr.TheVariants.{Cancel}
use Rattle.rdm_model.specs.declared.entry.Entry.{Entry}
use Rattle.rdm_model.specs.declared.entry.Act.{Act}
use Rattle.rdm_model.specs.declared.entry.Act.TheVariants.{Poll}
use Rattle.rdm_model.specs.Deeds.{Deed, Did, open_life, of_open_life, log_of}
use Rattle.rdm_model.specs.Beginnings.{Heads, Messages, own_of, life_at}
use Rattle.rdm_model.specs.Matches.{Receive, receives, pairs}
use Rattle.rdm_model.specs.Receives.{RecvEnd, Filled, Withdrawn, Gone, ended_recv, concerns}
use Rattle.rdm_model.specs.Regions.{kept_bytes}
use Rattle.rdm_model.specs.Sends.{Sent, sends_to}
use Rattle.rdm_model.specs.Completions.{took_outcome, outcome, completions, poll_count}
use Rattle.rdm_model.specs.Jobs.{is_fair, law_ops}
use Rattle.rdm_model.specs.Classes.{lives_class}
use Rattle.rdm_model.specs.Steps.{Does}
use Rattle.rdm_model.specs.Standing.{pairs_in}
use Rattle.rdm_model.specs.Lawful.{port_deeds, life_deeds, sends_in, sent_to, sent_scene, Lawful}
use Rattle.rdm_model.proofs.Matches.{arrived_heard}
use Rattle.rdm_model.proofs.SameMatches.{pairs_same}
use Rattle.rdm_law.specs.Matched.{arrived_of, plain_pairs}
use Rattle.rdm_law.specs.Polled.{IsMatched, TookMatched, LostLife, EndedAs, PolledOf, PolledAsEnded}
use Rattle.rdm_law.proofs.Lives.Lives.{life_of}
use Rattle.rdm_law.proofs.Accounts.Wired.{Played}
use Rattle.rdm_law.proofs.Accounts.Known.{account}
use Rattle.rdm_law.proofs.Accounts.Named.{pair_known}
use Rattle.rdm_law.proofs.Accounts.Sent.{known_placed, agree_sent}
use Rattle.rdm_law.proofs.Accounts.SendsAre.{sends_are}
use Rattle.rdm_law.proofs.Matching.Accepts.{pair_accepts}
use Rattle.rdm_law.proofs.Matching.Merges.{plainly_paired}
use Rattle.rdm_law.proofs.Matching.Received.{receive_once}
use Rattle.rdm_law.proofs.Classes.ClassLives.{AllFree}
use Rattle.rdm_law.proofs.Central.LawfulPlayed.{lawful_played}
use Rattle.rdm_law.proofs.Refusals.DroppedOnly.{lawful_at}
use Rattle.rdm_law.proofs.Ends.Live.{pair_recv}
use Rattle.rdm_law.proofs.Ends.Ends.{EndGone}
use Rattle.rdm_law.proofs.Ends.EndKinds.{EndIs, end_is, completes, found_receive}
use Rattle.rdm_law.proofs.Ends.PolledWas.{head_parts, scene_completions}
use Rattle.rdm_lists.proofs.Members.{filter-member, list_any_member}
use Rattle.rdm_lists.proofs.Places.{slice_get-member}
use Rattle.rdm_num.proofs.Lives.{same_life-true, same_life-refl}

-- the pairs of a life, by what was sent to it
abbrev pub pairs_at : Job → List Entry → Life → List Pair
pairs_at job history i = pairs (own_of job i).limits.first (sent_to job history i).head (life_deeds job history i)

-- they are the plain matcher's
pub pairs_plain : (job : Job) (history : List Entry) (i : Life) → pairs_at job history i ≡ plain_pairs job history i
unfolding own_of pairs_in
pairs_plain job history i = plainly_paired job history i

-- the receive of a pair is the accepted one of its number
pub pair_receive : (first : ℕ) (heads : Heads) (log : List Deed) (r : Receive) (p : Pair) → Member p (pairs first heads log) → Member r (receives log) → r.number ≡ p.recv.id.0 → r.posted ≡ p.recv
pair_receive first heads log r p m accepted is =
    let mine = pair_recv first heads log p m in
    ap (λ (x : Receive). x.posted) (receive_once log r mine.recv accepted mine.accepted (is ∙ sym mine.number_is)) ∙ mine.posted_is

-- a pair by its receive and its message
pair_of : (job : Job) (history : List Entry) (i : Life) (r : Receive) (p : Pair) (message : Arrived) → Member p (pairs_at job history i) → r.posted ≡ p.recv → message ≡ p.message
    → IsMatched job history i r message
pair_of job history i r p message m recv is =
    let e : p ≡ record { recv = r.posted; message = message } =
    ap (λ (x : PostedRecv). record { recv = x; message = p.message }) (sym recv) ∙ ap (λ (x : Arrived). record { recv = r.posted; message = x }) (sym is) in
    subst (λ (ps : List Pair). Member (record { recv = r.posted; message = message }) ps) (pairs_plain job history i)
    (subst (λ (x : Pair). Member x (pairs_at job history i)) e m)

-- what a filled receive took
took_parts : (ms : Messages) (p : Pair) (capacity : ℕ) (from : Life) (tag cq_data : Option ℕ) (bytes : List ℕ) (excess : ℕ) → took_outcome ms p capacity ≡ Took from tag cq_data bytes excess
    → (p.message.life ≡ from) × ((ms.head p.message.life p.message.no.0).tag ≡ tag) × ((ms.head p.message.life p.message.no.0).cq_data ≡ cq_data)
    × (take capacity (ms.bytes p.message.life p.message.no.0) ≡ bytes) × ((ms.head p.message.life p.message.no.0).length - capacity ≡ excess)
unfolding took_outcome kept_bytes
took_parts ms p capacity from tag cq_data bytes excess h = (cc, cc, cc, cc, cc)

-- a filled receive has the message that it was matched to
took_matched : (job : Job) (history : List Entry) (i : Life) (r : Receive) (p : Pair) (from : Life) (tag cq_data : Option ℕ) (bytes : List ℕ) (excess : ℕ) → Played job history
    → Member r (receives (life_deeds job history i)) → r.number ≡ p.recv.id.0 → Member p (pairs_at job history i)
    → took_outcome (sent_to job history i) p r.req.len ≡ Took from tag cq_data bytes excess → TookMatched job history i r from tag cq_data bytes excess
unfolding sends_to
took_matched job history i r p from tag cq_data bytes excess played accepted number m h =
    let first = (own_of job i).limits.first in
    let log = life_deeds job history i in
    let ns = sent_to job history i in
    let are = sends_are job history played in
    let a = agree_sent job history i played are in
    let k = pair_known job history i p played (subst (λ (ps : List Pair). Member p ps) (sym (pairs_same first (account job history i).head ns.head log a.heads)) m) in
    let s = k.known.sent in
    let placed = known_placed job history i p.message.life p.message.no.0 are k.known in
    let parts = head_parts job.limits s.message s.kind in
    let t = took_parts ns p r.req.len from tag cq_data bytes excess h in
    let posted = pair_receive first ns.head log r p m accepted number in
    let member : Member s (sends_in job history p.message.life) = subst (λ (ss : List Sent). Member s ss) (are p.message.life) k.known.member in
    let to : same_life s.to i ≡ true = subst (λ (x : Life). same_life x i ≡ true) (sym k.known.to_is) (same_life-refl i) in
    let sent = filter-member (λ (x : Sent). same_life x.to i) s (sends_in job history p.message.life) member to in
    let tag_of : s.message.tag ≡ (ns.head p.message.life p.message.no.0).tag = sym (ap (λ (x : Head). x.tag) placed.0 ∙ parts.0) in
    let arrived : p.message.tag ≡ (ns.head p.message.life p.message.no.0).tag = ((arrived_heard first ns.head log).paired p m).1 in
    let message : arrived_of from s ≡ p.message =
    ap (λ (x : Life). arrived_of x s) (sym t.0)
    ∙ ap (λ (x : ℕ). record { life = p.message.life; no = record { 0 = x }; tag = s.message.tag }) k.known.number_is
    ∙ ap (λ (x : Option ℕ). record { life = p.message.life; no = p.message.no; tag = x }) (tag_of ∙ sym arrived) in
    record {
      send = s;
      sent = subst (λ (x : Life). Member s (sends_to (sends_in job history x) i)) t.0 sent;
      matched = pair_of job history i r p (arrived_of from s) m posted message;
      accepted = subst (λ (x : Arrived). accepts r.posted x ≡ true) (sym message) (subst (λ (x : PostedRecv). accepts x p.message ≡ true) (sym posted) (pair_accepts first ns.head log p m));
      tag_is = sym t.1 ∙ sym tag_of;
      cq_data_is = sym t.2 ∙ ap (λ (x : Head). x.cq_data) placed.0 ∙ parts.1;
      bytes_are = sym t.3 ∙ ap (take r.req.len) placed.1;
      excess_is = sym t.4 ∙ ap (λ (n : ℕ). n - r.req.len) (ap (λ (x : Head). x.length) placed.0 ∙ parts.2);
    }

-- a life that is there
life_is : (o : Option Life) (l : Life) → is_life o l ≡ true → o ≡ Some l
unfolding is_life
life_is None l h = cc
life_is (Some a) l h = ap Some (same_life-true a l h)

-- a receive that is gone named a life that was forgotten, or was matched to a message of it
lost_life : (job : Job) (history : List Entry) (i : Life) (r : Receive) (n : ℕ) → Member r (receives (life_deeds job history i)) → r.number ≡ n
    → EndGone (own_of job i).limits.first (sent_to job history i).head (life_deeds job history i) n → LostLife job history i r
unfolding concerns is_recv
lost_life job history i r n accepted number g =
    let first = (own_of job i).limits.first in
    let heads = (sent_to job history i).head in
    let log = life_deeds job history i in
    let same : g.recv ≡ r = receive_once log g.recv r g.accepted accepted (g.recv_is ∙ sym number) in
    let t : Pair → Bool = λ (q : Pair). q.recv.id.0 == r.number && same_life q.message.life g.life in
    let c = subst (λ (x : Receive). concerns (pairs first heads log) g.life x ≡ true) same g.concerns' in
    record {
      lost = g.life;
      forgotten = g.forgotten;
      concerned = elim (or_cases (is_life r.posted.from g.life) (list_any t (pairs first heads log)) c) [
        | inl a ↦ inl (life_is r.posted.from g.life a)
        | inr a ↦
            let q = list_any_member t (pairs first heads log) a in
            let b = and_parts (q.0.recv.id.0 == r.number) (same_life q.0.message.life g.life) q.2 in
            let posted = pair_receive first heads log r q.0 q.1 accepted (sym (eqb-true q.0.recv.id.0 r.number b.0)) in
            inr (q.0.message, pair_of job history i r q.0 q.0.message q.1 posted refl, same_life-true q.0.message.life g.life b.1)
      ];
    }

-- a receive ended as its completion says
ended_as : (job : Job) (history : List Entry) (i : Life) (r : Receive) (e : RecvEnd) (o : Outcome) → Played job history → Member r (receives (life_deeds job history i)) → r.number ≡ ended_recv e
    → EndIs (own_of job i).limits.first (sent_to job history i).head (life_deeds job history i) e → outcome (sent_to job history i) e r ≡ o → EndedAs job history i r o
unfolding outcome took_outcome ended_recv
ended_as job history i r (Filled p) (Took from tag cq_data bytes excess) played accepted number is h = took_matched job history i r p from tag cq_data bytes excess played accepted number is h
ended_as job history i r (Filled p) Cancelled played accepted number is h = cc
ended_as job history i r (Filled p) GoneOutcome played accepted number is h = cc
ended_as job history i r (Withdrawn n) (Took from tag cq_data bytes excess) played accepted number is h = cc
ended_as job history i r (Withdrawn n) Cancelled played accepted number is h =
    subst (λ (x : ℕ). Member (Did (Cancel (record { 0 = x }))) (life_deeds job history i)) (is.2 ∙ sym number) is.1
ended_as job history i r (Withdrawn n) GoneOutcome played accepted number is h = cc
ended_as job history i r (Gone n) (Took from tag cq_data bytes excess) played accepted number is h = cc
ended_as job history i r (Gone n) Cancelled played accepted number is h = cc
ended_as job history i r (Gone n) GoneOutcome played accepted number is h = lost_life job history i r n accepted number is

-- a completion of the life that is open at a port, if there is one
polled_at : (job : Job) (before : List Entry) (port : PortNo) (now : Option Connid) (recv : RecvNo) (o : Outcome) → Played job before → open_life (port_deeds job port.0 before) ≡ now
    → Member (Recv recv o) (completions (own_of job (life_at port.0 now)) (sent_to job before (life_at port.0 now)) (of_open_life now (port_deeds job port.0 before)))
    → PolledOf job before port recv o
unfolding life_at of_open_life completions life_deeds
polled_at job before port None recv o played now m = elim m [ ]
polled_at job before port (Some c) recv o played now m =
    let i = life_of port.0 c in
    let k = completes (own_of job i) (sent_to job before i) (life_deeds job before i) recv o m in
    record {
      connid = c;
      is_open = now;
      receive = k.receive;
      is_receive = found_receive (life_deeds job before i) k.receive recv.0 k.accepted k.number_is;
      ended = ended_as job before i k.receive k.end' o played k.accepted k.ended_is (end_is (own_of job i).limits.first (sent_to job before i).head (life_deeds job before i) k.end' k.member) k.outcome_is;
    }

-- each polled receive ended as was polled
pub polled_as_ended : (job : Job) (history : List Entry) → IsTrue (is_fair law_ops job) → AllFree job → Lawful job history → PolledAsEnded job history
polled_as_ended job history fair free lawful newer e before recv o split is =
    let l = lawful_at job newer e before (subst (Lawful job) split lawful) in
    let played = lawful_played job before fair free l.0 in
    let s = sent_scene job e.port.0 before in
    let c : Completion = Recv recv o in
    let at : Does job lives_class s (log_of e.port.0 before) e (Poll c) = subst (λ (x : Act). Does job lives_class s (log_of e.port.0 before) e x) is l.3.2 in
    let m : Member c (completions s.own s.ms s.log) = slice_get-member (completions s.own s.ms s.log) (poll_count s.log) c at in
    polled_at job before e.port (open_life (port_deeds job e.port.0 before)) recv o played refl
    (subst (λ (xs : List Completion). Member c xs) (scene_completions job e.port.0 before) m)
