-- What an endpoint keeps after a receive.
use Rattle.std.proofs.Common.{◌≡◌, ℕ, ◌+◌, List, [], ◌∷◌, ◌++◌, map, length, take, Option, Some, None, refl, arith, ap, ◌∙◌, sym, subst, inl}
use Rattle.std.specs.Prelude.{find, option_map}
use Rattle.std.proofs.lemmas.List.{append-nil, length-append, map-append}
use Rattle.rdm_lists.specs.Lists.{Member, without_first}
use Rattle.rdm_num.specs.declared.numbers.PortNo.{PortNo}
use Rattle.rdm_num.specs.declared.numbers.Life.{Life}
use Rattle.rdm_num.specs.declared.request.RecvReq.{RecvReq}
use Rattle.rdm_num.specs.declared.completion.Completion.{Completion}
use Rattle.rdm_match.specs.declared.PostedRecv.{PostedRecv}
use Rattle.rdm_match.specs.declared.Arrived.{Arrived}
use Rattle.rdm_match.specs.Matcher.{Matching, Pair, accepts, after_post, after, run}
use Rattle.rdm_model.specs.declared.job.Instr.TheVariants.{Recv}
use Rattle.rdm_model.specs.Deeds.{Deed, Did}
use Rattle.rdm_model.specs.Beginnings.{Own}
use Rattle.rdm_model.specs.Currents.{named_life}
use Rattle.rdm_model.specs.Heard.{head_by}
use Rattle.rdm_model.specs.Matches.{Receive, receive, receives, received_by, with_received}
use Rattle.rdm_model.specs.Receives.{Filled, receive_numbered}
use Rattle.rdm_model.specs.Regions.{put, change_at, after_ends, region_by}
use Rattle.rdm_model.specs.Completions.{recv_completions, polls_by, named_by, heard_names}
use Rattle.rdm_model.specs.Local.{heard_by}
use Rattle.rdm_ep.specs.declared.state.Posted.{Posted}
use Rattle.rdm_ep.specs.declared.state.Inbound.{Inbound}
use Rattle.rdm_ep.specs.View.{EndpointView}
use Rattle.rdm_ep.specs.Receiving.{posted_recv, arrived_message, takes, named_in, posted_by, completion_of, landed, after_post as post_in, after_recv}
use Rattle.rdm_ep.specs.Eager.{IsEager}
use Rattle.rdm_ep.specs.Keeps.{posted_of, Keeps}
use Rattle.rdm_ep.proofs.Options.{find-map, without-map}
use Rattle.rdm_ep.proofs.Apart.{apart_numbered}
use Rattle.rdm_ep.proofs.Accepted.{number_of, receives_apart}
use Rattle.rdm_ep.proofs.Held.{without_length}
use Rattle.rdm_ep.proofs.Pairs.{own_matching, event_of, matching_step, pairs_step, new_pairs, met_by_post, met_by, met_by_all}
use Rattle.rdm_ep.proofs.Live.{own_live, live_post, live_after, live_step}
use Rattle.rdm_ep.proofs.Pushes.{ended_left}
use Rattle.rdm_ep.proofs.Completed.{own_completions, own_regions, completions_step, regions_step}
use Rattle.rdm_ep.proofs.Groups.{next_of, Kept, kept_of, keeps_by}
use Rattle.rdm_ep.proofs.Still.{lives_still, sends_still, owed_still, told_stays, held_stays, heard_more}
use Rattle.rdm_ep.proofs.KeepsPushed.{completions_more}
use Rattle.rdm_ep.proofs.Fills.{IsFill, fill_written, fill_completes}
use Rattle.rdm_lists.proofs.Members.{member-append_right, find_member, without_member}

-- the receive that the instruction makes
abbrev pub new_receive : List Deed → RecvReq → Receive
new_receive log req = receive (length (receives log)) log req

-- what a receive does to the lists of the endpoint, where it meets that message or none
unfoldable pub posted_then : Posted → Option Inbound → List Posted → List Posted
posted_then p None ps = ps ++ p ∷ []
posted_then p (Some i) ps = ps

unfoldable pub arrived_then : Posted → Option Inbound → List Inbound → List Inbound
arrived_then p None is = is
arrived_then p (Some i) is = without_first (takes p) is

unfoldable pub regions_then : Posted → Option Inbound → List (List ℕ) → List (List ℕ)
regions_then p None rs = rs
regions_then p (Some i) rs = change_at (put p.req.at (take p.req.len i.bytes)) p.req.region.0 rs

unfoldable pub done_then : Posted → Option Inbound → List Completion
done_then p None = []
done_then p (Some i) = completion_of p i ∷ []

-- the endpoint with those lists
abbrev pub post_view : EndpointView → Posted → Option Inbound → EndpointView
post_view v p o =
    record v {
      receives = v.receives + 1;
      posted = posted_then p o v.posted;
      arrived = arrived_then p o v.arrived;
      regions = regions_then p o v.regions;
      completions = v.completions ++ done_then p o;
    }

-- the endpoint after a receive was posted
post_is : (v : EndpointView) (p : Posted) (o : Option Inbound) → post_in (record v { receives = v.receives + 1 }) p o ≡ post_view v p o
unfolding post_in landed posted_then arrived_then regions_then done_then
post_is v p None =
    ap (λ (cs : List Completion). record v { receives = v.receives + 1; posted = v.posted ++ p ∷ []; completions = cs }) (sym (append-nil v.completions))
post_is v p (Some i) = refl

-- the life that a receive names
named_agrees : (log : List Deed) (v : EndpointView) (from : Option PortNo) → Keeps log v → named_in v from ≡ named_life log from
unfolding named_in named_life
named_agrees log v None k = refl
named_agrees log v (Some port) k = k.currents_are port.0

-- the receive is posted as the endpoint keeps it
pub posted_agrees : (log : List Deed) (v : EndpointView) (req : RecvReq) → Keeps log v → posted_by v req ≡ posted_of (new_receive log req)
unfolding posted_by
posted_agrees log v req k =
    ap (λ (n : ℕ). record { number = record { 0 = n }; req = req; from = named_in v req.from }) k.receives_are
    ∙ ap (λ (x : Option Life). record { number = record { 0 = length (receives log) }; req = req; from = x }) (named_agrees log v req.from k)

-- the message that the receive finds in the matcher is the one that it finds here
post_found : (log : List Deed) (v : EndpointView) (req : RecvReq) → Kept log v
    → find (accepts (new_receive log req).posted) (own_matching v.own log).arrived ≡ option_map arrived_message (find (takes (posted_of (new_receive log req))) v.arrived)
unfolding takes
post_found log v req k =
    ap (find (accepts (new_receive log req).posted)) (sym k.messages.arrived_are) ∙ find-map arrived_message (accepts (new_receive log req).posted) v.arrived

-- the receives that are posted then
posted_are : (live : List Receive) (r : Receive) (o : Option Inbound)
    → posted_then (posted_of r) o (map posted_of live) ≡ map posted_of (live_post live r (option_map arrived_message o))
unfolding posted_then live_post
posted_are live r None = sym (map-append posted_of live (r ∷ []))
posted_are live r (Some i) = refl

-- the messages that wait then
arrived_are : (m : Matching) (r : Receive) (arrived : List Inbound) (o : Option Inbound) → posted_recv (posted_of r) ≡ r.posted → map arrived_message arrived ≡ m.arrived
    → map arrived_message (arrived_then (posted_of r) o arrived) ≡ (after_post m r.posted (option_map arrived_message o)).arrived
unfolding arrived_then after_post takes
arrived_are m r arrived None s e = e
arrived_are m r arrived (Some i) s e =
    ap (λ (x : PostedRecv). map arrived_message (without_first (λ j. accepts x (arrived_message j)) arrived)) s
    ∙ sym (without-map arrived_message (accepts r.posted) arrived) ∙ ap (without_first (accepts r.posted)) e

-- a message that waits then did before
still_member : (p : Posted) (o : Option Inbound) (arrived : List Inbound) (i : Inbound) → Member i (arrived_then p o arrived) → Member i arrived
unfolding arrived_then
still_member p None arrived i m = m
still_member p (Some j) arrived i m = without_member (takes p) i arrived m

-- how many wait, with the pair that the receive makes
then_count : (p : Posted) (r : PostedRecv) (o : Option Inbound) (arrived : List Inbound) → find (takes p) arrived ≡ o
    → length (arrived_then p o arrived) + length (met_by_post r (option_map arrived_message o) ++ []) ≡ length arrived
unfolding arrived_then met_by_post
then_count p r None arrived e = omega arith
then_count p r (Some i) arrived e = without_length (takes p) arrived i e

-- the pair that the receive makes is of that message
post_fills : (req : RecvReq) (log : List Deed) (v : EndpointView) (i : Inbound) → IsEager v.own (Did (Recv req) ∷ log) → Kept log v → Member i v.arrived
    → IsFill (heard_by v.own.limits.first (Did (Recv req) ∷ log)) (receives (Did (Recv req) ∷ log))
    (record { recv = (new_receive log req).posted; message = arrived_message i }) (new_receive log req) i
unfolding heard_by receives with_received received_by receive_numbered
post_fills req log v i g k m =
    let d = Did (Recv req) in
    let r = new_receive log req in
    let t = told_stays v.own d log v.arrived i g k.messages m in
    record {
      numbered = apart_numbered number_of (receives (d ∷ log)) r (receives_apart (d ∷ log)) (member-append_right r (receives log) (r ∷ []) (inl refl));
      message = refl;
      head = t.0 ∙ k.messages.heads_are i m;
      bytes = t.1 ∙ k.messages.bytes_are i m;
    }

-- the regions then
post_regions : (req : RecvReq) (log : List Deed) (v : EndpointView) (o : Option Inbound) → IsEager v.own (Did (Recv req) ∷ log) → Kept log v
    → ((i : Inbound) → o ≡ Some i → Member i v.arrived)
    → regions_then (posted_of (new_receive log req)) o v.regions
    ≡ after_ends (heard_by v.own.limits.first (Did (Recv req) ∷ log)) (receives (Did (Recv req) ∷ log))
    (map Filled (met_by_post (new_receive log req).posted (option_map arrived_message o))) (own_regions v.own log)
unfolding regions_then met_by_post after_ends
post_regions req log v None g k h = k.regions
post_regions req log v (Some i) g k h =
    let r = new_receive log req in
    let q : Pair = record { recv = r.posted; message = arrived_message i } in
    ap (change_at (put r.req.at (take r.req.len i.bytes)) r.req.region.0) k.regions
    ∙ sym (fill_written (heard_by v.own.limits.first (Did (Recv req) ∷ log)) (receives (Did (Recv req) ∷ log)) q r i (own_regions v.own log) (post_fills req log v i g k (h i refl)))

-- the completion then
post_done : (req : RecvReq) (log : List Deed) (v : EndpointView) (o : Option Inbound) → IsEager v.own (Did (Recv req) ∷ log) → Kept log v
    → ((i : Inbound) → o ≡ Some i → Member i v.arrived)
    → done_then (posted_of (new_receive log req)) o
    ≡ recv_completions (heard_by v.own.limits.first (Did (Recv req) ∷ log)) (receives (Did (Recv req) ∷ log))
    (map Filled (met_by_post (new_receive log req).posted (option_map arrived_message o)))
unfolding done_then met_by_post recv_completions
post_done req log v None g k h = refl
post_done req log v (Some i) g k h =
    let r = new_receive log req in
    let q : Pair = record { recv = r.posted; message = arrived_message i } in
    sym (fill_completes (heard_by v.own.limits.first (Did (Recv req) ∷ log)) (receives (Did (Recv req) ∷ log)) q r i (post_fills req log v i g k (h i refl)))

-- the pair that a receive makes
post_pairs : (own : Own) (log : List Deed) (req : RecvReq) → new_pairs own log (Did (Recv req)) ≡ met_by_post (new_receive log req).posted (find (accepts (new_receive log req).posted) (own_matching own log).arrived)
unfolding event_of met_by_all met_by
post_pairs own log req = append-nil (met_by_post (new_receive log req).posted (find (accepts (new_receive log req).posted) (own_matching own log).arrived))

-- how many wait then, with the pairs
recv_count : (req : RecvReq) (log : List Deed) (v : EndpointView) (o : Option Inbound) → IsEager v.own (Did (Recv req) ∷ log) → Kept log v
    → find (takes (posted_of (new_receive log req))) v.arrived ≡ o
    → length (arrived_then (posted_of (new_receive log req)) o v.arrived) + length v.held + length (own_matching v.own (Did (Recv req) ∷ log)).pairs ≡ length (heard_names (Did (Recv req) ∷ log))
unfolding event_of met_by_all met_by heard_names named_by
recv_count req log v o g k e =
    let own = v.own in
    let d = Did (Recv req) in
    let m = own_matching own log in
    let r = new_receive log req in
    let found : find (accepts r.posted) m.arrived ≡ option_map arrived_message o = post_found log v req k ∙ ap (option_map arrived_message) e in
    let step = ap length (pairs_step own d log g) in
    let l = length-append m.pairs (met_by_post r.posted (find (accepts r.posted) m.arrived) ++ []) in
    let z = ap (λ (x : Option Arrived). length (met_by_post r.posted x ++ [])) found in
    let n = ap length (append-nil (heard_names log)) in
    let c = k.held.count in
    let w = then_count (posted_of r) r.posted o v.arrived e in
    omega arith

-- after a receive that finds that message, or none
recv_kept : (req : RecvReq) (log : List Deed) (v : EndpointView) (o : Option Inbound) → IsEager v.own (Did (Recv req) ∷ log) → Kept log v
    → find (takes (posted_of (new_receive log req))) v.arrived ≡ o → Keeps (Did (Recv req) ∷ log) (post_view v (posted_of (new_receive log req)) o)
unfolding region_by polls_by ended_left event_of met_by_all met_by run after live_after receives with_received received_by head_by
recv_kept req log v o g k e =
    let own = v.own in
    let d = Did (Recv req) in
    let m = own_matching own log in
    let r = new_receive log req in
    let p = posted_of r in
    let found : find (accepts r.posted) m.arrived ≡ option_map arrived_message o = post_found log v req k ∙ ap (option_map arrived_message) e in
    let among : (i : Inbound) → o ≡ Some i → Member i v.arrived = λ i s. (find_member (takes p) i v.arrived (e ∙ s)).0 in
    keeps_by (d ∷ log) (post_view v p o) g
    (record {
      lives = lives_still own d log v.currents v.peers g.1 tt k.lives;
      sends = sends_still own d log v.sends v.peers v.outgoing g tt k.sends;
      receives = record {
        receives_are = ap (λ (n : ℕ). n + 1) k.receives.receives_are ∙ sym (length-append (receives log) (r ∷ []));
        posted_are =
            ap (posted_then p o) k.receives.posted_are ∙ posted_are (own_live own log) r o
            ∙ ap (λ (x : Option Arrived). map posted_of (live_post (own_live own log) r x)) (sym found)
            ∙ ap (map posted_of) (sym (live_step own d log g));
      };
      messages = record {
        arrived_are =
            arrived_are m r v.arrived o refl k.messages.arrived_are ∙ ap (λ (x : Option Arrived). (after_post m r.posted x).arrived) (sym found)
            ∙ ap (λ (x : Matching). x.arrived) (sym (matching_step own d log g));
        heads_are = λ i n. let a = still_member p o v.arrived i n in (told_stays own d log v.arrived i g k.messages a).0 ∙ k.messages.heads_are i a;
        bytes_are = λ i n. let a = still_member p o v.arrived i n in (told_stays own d log v.arrived i g k.messages a).1 ∙ k.messages.bytes_are i a;
      };
      held = record {
        heads_are = λ i m. (held_stays own d log v.peers v.arrived v.held i g k.held m).0;
        bytes_are = λ i m. (held_stays own d log v.peers v.arrived v.held i g k.held m).1;
        heard_are = λ life n. k.held.heard_are life n ∙ sym (heard_more d log life n refl);
        next_are = λ life. heard_more d log life (next_of own.limits.first v.peers life) refl ∙ k.held.next_are life;
        within = λ life. (let w = k.held.within life in omega arith);
        count = recv_count req log v o g k e;
      };
      owed = owed_still own d log v.owed g tt k.owed;
      regions =
          post_regions req log v o g k among
          ∙ ap (λ (x : Option Arrived). after_ends (heard_by own.limits.first (d ∷ log)) (receives (d ∷ log)) (map Filled (met_by_post r.posted x)) (own_regions own log)) (sym found)
          ∙ ap (λ ps. after_ends (heard_by own.limits.first (d ∷ log)) (receives (d ∷ log)) (map Filled ps) (own_regions own log)) (sym (post_pairs own log req))
          ∙ sym (regions_step own d log g ∙ append-nil _);
      completions =
          completions_more own d log v.polled v.completions (done_then p o) refl
          (completions_step own d log g
          ∙ ap (λ ps. own_completions own log ++ (recv_completions (heard_by own.limits.first (d ∷ log)) (receives (d ∷ log)) (map Filled ps) ++ [])) (post_pairs own log req)
          ∙ ap (λ (x : Option Arrived). own_completions own log ++ (recv_completions (heard_by own.limits.first (d ∷ log)) (receives (d ∷ log)) (map Filled (met_by_post r.posted x)) ++ [])) found
          ∙ ap (λ (cs : List Completion). own_completions own log ++ cs) (append-nil _ ∙ sym (post_done req log v o g k among)))
          k.completions;
    })

-- after a receive
pub keeps_recv : (req : RecvReq) (log : List Deed) (v : EndpointView) → IsEager v.own log → Keeps log v → Keeps (Did (Recv req) ∷ log) (after_recv v req)
unfolding after_recv
keeps_recv req log v h keeps =
    let p = posted_of (new_receive log req) in
    let o = find (takes p) v.arrived in
    subst (Keeps (Did (Recv req) ∷ log))
    (sym (ap (λ (x : Posted). post_in (record v { receives = v.receives + 1 }) x (find (takes x) v.arrived)) (posted_agrees log v req keeps) ∙ post_is v p o))
    (recv_kept req log v o (h, tt) (kept_of log v keeps) refl)
