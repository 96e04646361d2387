-- What an endpoint keeps after a receive was cancelled.
use Rattle.std.proofs.Common.{◌≡◌, ℕ, zero, suc, ◌+◌, List, [], ◌∷◌, ◌++◌, map, length, take, Option, Some, None, refl, arith, ap, ◌∙◌, sym, subst}
use Rattle.std.specs.Prelude.{◌==◌, option_to_list}
use Rattle.std.proofs.lemmas.List.{append-nil, take-append-drop}
use Rattle.rdm_lists.specs.Lists.{Member, without_first}
use Rattle.rdm_num.specs.declared.numbers.RecvNo.{RecvNo}
use Rattle.rdm_num.specs.declared.completion.Completion.{Completion}
use Rattle.rdm_num.specs.declared.completion.Completion.TheVariants.{Recv}
use Rattle.rdm_num.specs.declared.completion.Outcome.TheVariants.{Cancelled}
use Rattle.rdm_match.specs.Matcher.{Matching, after, run}
use Rattle.rdm_model.specs.declared.job.Instr.TheVariants.{Cancel}
use Rattle.rdm_model.specs.Deeds.{Deed, Did}
use Rattle.rdm_model.specs.Beginnings.{Messages}
use Rattle.rdm_model.specs.Heard.{head_by}
use Rattle.rdm_model.specs.Matches.{Receive, receives, received_by, with_received}
use Rattle.rdm_model.specs.Receives.{Withdrawn, ended_recv, receive_numbered}
use Rattle.rdm_model.specs.Regions.{put, change_at, written_by, after_end, after_ends, region_by}
use Rattle.rdm_model.specs.Completions.{outcome, recv_completion, recv_completions, polls_by, named_by, heard_names}
use Rattle.rdm_model.specs.Local.{heard_by}
use Rattle.rdm_ep.specs.View.{EndpointView}
use Rattle.rdm_ep.specs.Cancelling.{has_number, after_cancel}
use Rattle.rdm_ep.specs.Eager.{IsEager}
use Rattle.rdm_ep.specs.Keeps.{posted_of, Keeps}
use Rattle.rdm_ep.proofs.Options.{without-map}
use Rattle.rdm_ep.proofs.Apart.{apart_numbered}
use Rattle.rdm_ep.proofs.Accepted.{number_of, receives_apart}
use Rattle.rdm_ep.proofs.Pairs.{own_matching, event_of, matching_step}
use Rattle.rdm_ep.proofs.Live.{own_live, live_after, live_member, live_seen, waiting_live, waiting_are, live_step}
use Rattle.rdm_ep.proofs.Pushes.{ended_left}
use Rattle.rdm_ep.proofs.Completed.{own_completions, own_regions, completions_step, regions_step}
use Rattle.rdm_ep.proofs.Groups.{next_of, kept_of, keeps_by}
use Rattle.rdm_ep.proofs.Still.{lives_still, sends_still, owed_still, told_stays, held_stays, heard_more}
use Rattle.rdm_ep.proofs.KeepsPushed.{completions_more}
use Rattle.rdm_lists.proofs.Members.{find_member}

-- no bytes that are put change nothing
put_nothing : (at : ℕ) (region : List ℕ) → put at [] region ≡ region
unfolding put
put_nothing at region = let e : at + 0 ≡ at = omega arith in let n = append-nil (take at region) in rw (e, n) (take-append-drop at region)

-- an element that is changed into itself changes nothing
unchanged : {A : Type 0} (f : A → A) (n : ℕ) (xs : List A) → ((x : A) → f x ≡ x) → change_at f n xs ≡ xs
unfolding change_at
unchanged f n [] h = refl
unchanged f zero (x ∷ xs) h = ap (λ y. y ∷ xs) (h x)
unchanged f (suc n) (x ∷ xs) h = ap (λ ys. x ∷ ys) (unchanged f n xs h)

-- a receive that is taken back writes nothing
cancel_written : (ms : Messages) (n : ℕ) (o : Option Receive) (regions : List (List ℕ)) → after_end ms (Withdrawn n) o regions ≡ regions
unfolding after_end written_by
cancel_written ms n None regions = refl
cancel_written ms n (Some r) regions = unchanged (put r.req.at []) r.req.region.0 regions (put_nothing r.req.at)

-- it completes as cancelled
cancel_completes : (ms : Messages) (rs : List Receive) (recv : RecvNo) (r : Receive) → receive_numbered rs recv.0 ≡ Some r → r.number ≡ recv.0
    → recv_completions ms rs (Withdrawn recv.0 ∷ []) ≡ Recv recv Cancelled ∷ []
unfolding recv_completions recv_completion ended_recv outcome
cancel_completes ms rs recv r numbered same =
    ap (λ (o : Option Receive). map (λ (x : Receive). Recv (record { 0 = x.number }) (outcome ms (Withdrawn recv.0) x)) (option_to_list o) ++ []) numbered
    ∙ ap (λ (n : ℕ). Recv (record { 0 = n }) Cancelled ∷ []) same

-- an accepted receive is the one of its number
numbered_so : (log : List Deed) (r : Receive) (n : ℕ) → Member r (receives log) → r.number ≡ n → receive_numbered (receives log) n ≡ Some r
unfolding receive_numbered
numbered_so log r n m same = subst (λ (k : ℕ). receive_numbered (receives log) k ≡ Some r) same (apart_numbered number_of (receives log) r (receives_apart log) m)

-- after a receive that waits was cancelled
pub keeps_cancel : (recv : RecvNo) (log : List Deed) (v : EndpointView) → IsEager v.own (Did (Cancel recv) ∷ log) → Keeps log v
    → Keeps (Did (Cancel recv) ∷ log) (after_cancel v recv)
unfolding after_cancel has_number ended_recv region_by polls_by ended_left event_of run after live_after receives with_received received_by head_by heard_names named_by after_ends
keeps_cancel recv log v g keeps =
    let own = v.own in
    let d = Did (Cancel recv) in
    let k = kept_of log v keeps in
    let m = own_matching own log in
    let live = own_live own log in
    let now = heard_by own.limits.first (d ∷ log) in
    let r = waiting_live recv.0 live m (live_seen own log) (waiting_are own log g.0) g.1 in
    let accepted = live_member own log r.0 (find_member (λ (x : Receive). x.number == recv.0) r.0 live r.1).0 in
    let none = append-nil (receives log) in
    let step = matching_step own d log g in
    keeps_by (d ∷ log) (record v { posted = without_first (has_number recv.0) v.posted; completions = v.completions ++ Recv recv Cancelled ∷ [] }) g
    (record {
      lives = lives_still own d log v.currents v.peers g.1 tt k.lives;
      sends = sends_still own d log v.sends v.peers v.outgoing g tt k.sends;
      receives = record {
        receives_are = k.receives.receives_are ∙ ap length (sym none);
        posted_are =
            ap (without_first (has_number recv.0)) k.receives.posted_are ∙ without-map posted_of (has_number recv.0) live
            ∙ ap (map posted_of) (sym (live_step own d log g));
      };
      messages = record {
        arrived_are = k.messages.arrived_are ∙ ap (λ (x : Matching). x.arrived) (sym step);
        heads_are = λ i n. (told_stays own d log v.arrived i g k.messages n).0 ∙ k.messages.heads_are i n;
        bytes_are = λ i n. (told_stays own d log v.arrived i g k.messages n).1 ∙ k.messages.bytes_are i n;
      };
      held = record {
        heads_are = λ i n. (held_stays own d log v.peers v.arrived v.held i g k.held n).0;
        bytes_are = λ i n. (held_stays own d log v.peers v.arrived v.held i g k.held n).1;
        heard_are = λ life n. k.held.heard_are life n ∙ sym (heard_more d log life n refl);
        next_are = λ life. heard_more d log life (next_of own.limits.first v.peers life) refl ∙ k.held.next_are life;
        within = λ life. (let w = k.held.within life in omega arith);
        count = (
            let p = ap (λ (x : Matching). length x.pairs) step in
            let n = ap length (append-nil (heard_names log)) in
            let c = k.held.count in
            omega arith);
      };
      owed = owed_still own d log v.owed g tt k.owed;
      regions =
          k.regions ∙ sym (cancel_written now recv.0 (receive_numbered (receives (d ∷ log)) recv.0) (own_regions own log))
          ∙ sym (regions_step own d log g ∙ append-nil _);
      completions =
          completions_more own d log v.polled v.completions (Recv recv Cancelled ∷ []) refl
          (completions_step own d log g
          ∙ ap (λ (cs : List Completion). own_completions own log ++ cs)
          (append-nil _ ∙ cancel_completes now (receives (d ∷ log)) recv r.0 (numbered_so (d ∷ log) r.0 recv.0 (subst (λ (rs : List Receive). Member r.0 rs) (sym none) accepted) r.2) r.2))
          k.completions;
    })
