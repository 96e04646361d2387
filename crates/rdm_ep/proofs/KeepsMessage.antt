-- What an endpoint keeps after a message in one packet was taken, by which others enter.
use Rattle.std.proofs.Common.{Bool, ◌≡◌, ℕ, inl, inr, List, [], ◌∷◌, ◌++◌, map, length, Option, refl, ap, ◌∙◌, sym, subst}
use Rattle.std.specs.Prelude.{not}
use Rattle.std.proofs.lemmas.List.{append-nil}
use Rattle.rdm_lists.specs.Lists.{Member}
use Rattle.rdm_num.specs.declared.numbers.Life.{Life}
use Rattle.rdm_num.specs.declared.numbers.MsgNo.{MsgNo}
use Rattle.rdm_num.specs.declared.completion.Completion.{Completion}
use Rattle.rdm_hdr.specs.declared.Opt.{Opt}
use Rattle.rdm_pkt.specs.declared.Packet.TheVariants.{Rtm}
use Rattle.rdm_pkt.specs.declared.Form.TheVariants.{Eager}
use Rattle.rdm_match.specs.declared.Arrived.{Arrived}
use Rattle.rdm_match.specs.Matcher.{Arrive, Matching, run}
use Rattle.rdm_model.specs.Deeds.{Deed, Took, Item, Spelled}
use Rattle.rdm_model.specs.Beginnings.{Own}
use Rattle.rdm_model.specs.Matches.{Receive, receives, received_by, with_received}
use Rattle.rdm_model.specs.Receives.{Filled, has_ended, recv_ends, receive_numbered, live_receives}
use Rattle.rdm_model.specs.Regions.{after_ends, region_by}
use Rattle.rdm_model.specs.Sends.{known_by, known_word}
use Rattle.rdm_model.specs.Completions.{recv_completions, polls_by}
use Rattle.rdm_model.specs.Local.{heads_by, bytes_by, heard_by}
use Rattle.rdm_ep.specs.declared.state.Peer.{Peer}
use Rattle.rdm_ep.specs.declared.state.Inbound.{Inbound}
use Rattle.rdm_ep.specs.View.{EndpointView}
use Rattle.rdm_ep.specs.Peers.{peer_in}
use Rattle.rdm_ep.specs.Receiving.{arrived_message}
use Rattle.rdm_ep.specs.Meeting.{meeting_of, with_meeting, after_arrivals}
use Rattle.rdm_ep.specs.Handling.{inbound_head}
use Rattle.rdm_ep.specs.Eager.{IsEager}
use Rattle.rdm_ep.specs.Keeps.{posted_of, IsToldBy, Keeps}
use Rattle.rdm_ep.proofs.Apart.{apart_numbered}
use Rattle.rdm_ep.proofs.Accepted.{number_of, receive_numbered_so, receives_apart}
use Rattle.rdm_ep.proofs.Pairs.{own_matching, arriving, event_of, matching_step, new_pairs, met_by_all}
use Rattle.rdm_ep.proofs.Live.{own_live, live_after, live_arrivals, waiting_are, live_step}
use Rattle.rdm_ep.proofs.Pushes.{ended_left}
use Rattle.rdm_ep.proofs.Completed.{own_completions, own_regions, completions_step, regions_step}
use Rattle.rdm_ep.proofs.Groups.{HeldKept, CompletionsKept, Kept, keeps_by}
use Rattle.rdm_ep.proofs.Still.{sends_still, told_stays}
use Rattle.rdm_ep.proofs.KeepsPushed.{completions_more}
use Rattle.rdm_ep.proofs.Greeted.{greeted_peers, met_view, lives_met, sends_met, owed_met}
use Rattle.rdm_ep.proofs.Arrivals.{AreAmong, Arrivals, arrivals, arrivals_meet}
use Rattle.rdm_ep.proofs.Runs.{eager}
use Rattle.rdm_lists.proofs.Members.{member-filter}
use Rattle.rdm_lists.proofs.Options.{or_else-none}

-- the lists of an endpoint where messages and receives meet hold what the matcher holds
pub live_among : (own : Own) (log : List Deed) → AreAmong (receives log) (own_live own log)
unfolding live_receives receive_numbered
live_among own log r m =
    let a = (member-filter (λ (x : Receive). not (has_ended (recv_ends own.limits.first (heads_by log) log) x.number)) r (receives log) m).0 in
    (apart_numbered number_of (receives log) r (receives_apart log) a, sym (receive_numbered_so log r a).1)

-- a datagram brings no receive
took_receives : (log : List Deed) (from : Life) (item : Item) → receives (Took from item ∷ log) ≡ receives log
unfolding receives with_received received_by
took_receives log from item = append-nil (receives log)

-- what is told of a message, by the deeds themselves
pub told_heard : (first : ℕ) (log : List Deed) (i : Inbound) → IsToldBy (heard_by first log) i → (heads_by log i.life i.no.0 ≡ inbound_head i) × (bytes_by first log i.life i.no.0 ≡ i.bytes)
unfolding heard_by
told_heard first log i t = t

-- and back
pub heard_told : (first : ℕ) (log : List Deed) (i : Inbound) → heads_by log i.life i.no.0 ≡ inbound_head i → bytes_by first log i.life i.no.0 ≡ i.bytes → IsToldBy (heard_by first log) i
unfolding heard_by
heard_told first log i a b = (a, b)

-- what is known where a message in one packet was taken: which messages enter by it, and which lives and held messages there are then
pub record Comes (own : Own) (log : List Deed) (v : EndpointView) (from : Life) (number : MsgNo) (tag : Option ℕ) (confirm : Bool) (opt : Opt) (bytes : List ℕ) (is : List Inbound) (now : List Peer) (left : List Inbound) : Type 0 where
  pub arriving_are : arriving own (eager from number tag confirm opt bytes) log ≡ map arrived_message is
  pub told : (i : Inbound) → Member i is → IsToldBy (heard_by own.limits.first (eager from number tag confirm opt bytes ∷ log)) i
  pub greeted : (life : Life) → (peer_in now life).greeted ≡ (peer_in (greeted_peers from v.peers) life).greeted
  pub known : (life : Life) → (peer_in now life).known ≡ (peer_in v.peers life).known
  pub sent : (life : Life) → (peer_in now life).sent ≡ (peer_in v.peers life).sent
  pub held : HeldKept own (eager from number tag confirm opt bytes ∷ log) now (after_arrivals (meeting_of v) is).arrived left

-- what the arrivals of a message make
pub arrivals_of : (from : Life) (number : MsgNo) (tag : Option ℕ) (confirm : Bool) (opt : Opt) (bytes : List ℕ) (log : List Deed) (v : EndpointView) (is : List Inbound)
    → IsEager v.own log → Kept log v → ((i : Inbound) → Member i is → IsToldBy (heard_by v.own.limits.first (eager from number tag confirm opt bytes ∷ log)) i)
    → Arrivals (heard_by v.own.limits.first (eager from number tag confirm opt bytes ∷ log)) (receives (eager from number tag confirm opt bytes ∷ log)) is (meeting_of v) (own_live v.own log) (own_matching v.own log)
arrivals_of from number tag confirm opt bytes log v is h k told =
    arrivals_meet (heard_by v.own.limits.first (eager from number tag confirm opt bytes ∷ log)) (receives (eager from number tag confirm opt bytes ∷ log)) is (meeting_of v) (own_live v.own log) (own_matching v.own log) told
    (subst (λ (rs : List Receive). AreAmong rs (own_live v.own log)) (sym (took_receives log from (Spelled (Rtm number tag confirm opt (Eager bytes))))) (live_among v.own log))
    (record { posted_are = k.receives.posted_are; waiting = waiting_are v.own log h; arrived_are = k.messages.arrived_are })

-- after a message by which those enter
pub message_kept : (from : Life) (number : MsgNo) (tag : Option ℕ) (confirm : Bool) (opt : Opt) (bytes : List ℕ) (log : List Deed) (v : EndpointView) (is : List Inbound) (now : List Peer) (left : List Inbound)
    → IsEager v.own (eager from number tag confirm opt bytes ∷ log) → Kept log v → Comes v.own log v from number tag confirm opt bytes is now left
    → Keeps (eager from number tag confirm opt bytes ∷ log) (with_meeting (after_arrivals (meeting_of v) is) (record (met_view from v) { peers = now; held = left }))
unfolding region_by polls_by ended_left event_of live_after known_by
message_kept from number tag confirm opt bytes log v is now left g k c =
    let own = v.own in
    let d = eager from number tag confirm opt bytes in
    let item = Spelled (Rtm number tag confirm opt (Eager bytes)) in
    let ms = heard_by own.limits.first (d ∷ log) in
    let rs = receives (d ∷ log) in
    let m = own_matching own log in
    let a = arrivals_of from number tag confirm opt bytes log v is g.0 k c.told in
    let events : event_of own d log ≡ arrivals is = ap (map Arrive) c.arriving_are in
    let pairs : new_pairs own log d ≡ met_by_all m (arrivals is) = ap (met_by_all m) events in
    let w : EndpointView = with_meeting (after_arrivals (meeting_of v) is) (record (met_view from v) { peers = now; held = left }) in
    keeps_by (d ∷ log) w g
    (record {
      lives = lives_met own from item log v.currents v.peers now g c.greeted (λ life. c.known life ∙ k.lives.known_are life ∙ sym (or_else-none (known_word log life))) k.lives;
      sends = sends_met own (d ∷ log) v.sends v.peers now v.outgoing c.sent (sends_still own d log v.sends v.peers v.outgoing g tt k.sends);
      receives = record {
        receives_are = k.receives.receives_are ∙ sym (ap length (took_receives log from item));
        posted_are =
            a.meets.posted_are ∙ ap (λ (as' : List Arrived). map posted_of (live_arrivals (own_live own log) as')) (sym c.arriving_are)
            ∙ ap (map posted_of) (sym (live_step own d log g));
      };
      messages = record {
        arrived_are = a.meets.arrived_are ∙ ap (λ es. (run m es).arrived) (sym events) ∙ ap (λ (x : Matching). x.arrived) (sym (matching_step own d log g));
        heads_are = λ j n. elim (a.waits j n) [
          | inl x ↦ (told_stays own d log v.arrived j g k.messages x).0 ∙ k.messages.heads_are j x
          | inr x ↦ (told_heard own.limits.first (d ∷ log) j (c.told j x)).0
        ];
        bytes_are = λ j n. elim (a.waits j n) [
          | inl x ↦ (told_stays own d log v.arrived j g k.messages x).1 ∙ k.messages.bytes_are j x
          | inr x ↦ (told_heard own.limits.first (d ∷ log) j (c.told j x)).1
        ];
      };
      held = c.held;
      owed = owed_met own from item log v.peers v.owed g (k.lives.greeted_are from) k.owed;
      regions =
          a.regions_are ∙ ap (after_ends ms rs (map Filled (met_by_all m (arrivals is)))) k.regions
          ∙ ap (λ ps. after_ends ms rs (map Filled ps) (own_regions own log)) (sym pairs)
          ∙ sym (regions_step own d log g ∙ append-nil _);
      completions =
          subst (CompletionsKept own (d ∷ log) v.polled) (sym a.completions_are)
          (completions_more own d log v.polled v.completions (recv_completions ms rs (map Filled (met_by_all m (arrivals is)))) refl
          (completions_step own d log g
          ∙ ap (λ ps. own_completions own log ++ (recv_completions ms rs (map Filled ps) ++ [])) pairs
          ∙ ap (λ (cs : List Completion). own_completions own log ++ cs) (append-nil _))
          k.completions);
    })
