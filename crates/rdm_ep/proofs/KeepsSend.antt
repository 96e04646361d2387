-- What an endpoint keeps after a send.
use Rattle.std.proofs.Common.{◌≡◌, ℕ, ◌+◌, true, false, cond, List, [], ◌∷◌, ◌++◌, map, length, Option, Some, None, refl, ap, ◌∙◌, sym, subst}
use Rattle.std.specs.Prelude.{filter}
use Rattle.std.proofs.lemmas.List.{append-nil, length-append, map-append}
use Rattle.std.proofs.lemmas.List.Elements.{filter-append}
use Rattle.rdm_num.specs.Lives.{same_life}
use Rattle.rdm_num.specs.declared.numbers.Life.{Life}
use Rattle.rdm_num.specs.declared.request.SendReq.{SendReq}
use Rattle.rdm_pkt.specs.declared.Packet.TheVariants.{Rtm}
use Rattle.rdm_pkt.specs.declared.Form.TheVariants.{Eager}
use Rattle.rdm_model.specs.declared.job.Instr.TheVariants.{Send}
use Rattle.rdm_model.specs.Deeds.{Deed, Did}
use Rattle.rdm_model.specs.Beginnings.{Own}
use Rattle.rdm_model.specs.Currents.{current}
use Rattle.rdm_model.specs.Regions.{region_by}
use Rattle.rdm_model.specs.Sends.{Sent, sends_to, known_word, wants_raw, opt_for, new_sent, sent_to_current, bytes_of, sent_by}
use Rattle.rdm_model.specs.Completions.{recv_completions, polls_by}
use Rattle.rdm_ep.specs.declared.state.Outbound.{Outbound}
use Rattle.rdm_ep.specs.View.{EndpointView, current_in}
use Rattle.rdm_ep.specs.Peers.{peer_in, with_peer, sent_peer}
use Rattle.rdm_ep.specs.Sending.{number_to, outbound, after_send_to, after_send}
use Rattle.rdm_ep.specs.Eager.{IsEager}
use Rattle.rdm_ep.specs.Keeps.{outbound_of, Keeps}
use Rattle.rdm_ep.proofs.Pushes.{own_sends, own_live_sends, new_sends, own_sends_step, live_left, live_sends_step, ended_left}
use Rattle.rdm_ep.proofs.Completed.{own_completions, own_regions, completions_step}
use Rattle.rdm_ep.proofs.Groups.{CompletionsKept, Kept, kept_of, keeps_by}
use Rattle.rdm_ep.proofs.Still.{lives_still, receives_still, messages_still, held_still, held_still_by, owed_still, no_pairs, regions_still}
use Rattle.rdm_ep.proofs.KeepsPushed.{completions_more}
use Rattle.rdm_ep.proofs.PeersOf.{peer_kept, peer_changed}
use Rattle.rdm_num.proofs.Lives.{same_life-true}

-- a send as the endpoint keeps it, by its numbers, by what is known of its life, and by the regions
abbrev pub outbound_by : Own → SendReq → Life → (number message : ℕ) → Option ℕ → List (List ℕ) → Outbound
outbound_by own req to number message known regions =
    record {
      number = record { 0 = number };
      to = to;
      req = req;
      packet = Rtm (record { 0 = message }) req.tag req.confirm (opt_for own.life (wants_raw known) req.cq_data) (Eager (bytes_of regions req.parts));
    }

-- the send that a deed makes to a life
abbrev pub send_to : Own → List Deed → SendReq → Life → Sent
send_to own log req to =
    new_sent own (known_word log to) (length (own_sends own log)) (length (sends_to (own_sends own log) to)) req to (bytes_of (own_regions own log) req.parts)

-- the send of the definitions, as the endpoint keeps it
send_to_is : (own : Own) (log : List Deed) (req : SendReq) (to : Life)
    → outbound_of (send_to own log req to)
    ≡ outbound_by own req to (length (own_sends own log)) (own.limits.first + length (sends_to (own_sends own log) to)) (known_word log to) (own_regions own log)
unfolding new_sent
send_to_is own log req to = refl

-- the send of the endpoint
outbound_is : (v : EndpointView) (req : SendReq) (to : Life)
    → outbound v req to ≡ outbound_by v.own req to v.sends (v.own.limits.first + (peer_in v.peers to).sent) (peer_in v.peers to).known v.regions
unfolding outbound number_to
outbound_is v req to = refl

-- the two are one
outbound_agrees : (log : List Deed) (v : EndpointView) (req : SendReq) (to : Life) → Kept log v → outbound v req to ≡ outbound_of (send_to v.own log req to)
outbound_agrees log v req to k =
    let own = v.own in
    let messages = v.own.limits.first + length (sends_to (own_sends own log) to) in
    outbound_is v req to
    ∙ ap (λ (n : ℕ). outbound_by own req to n (own.limits.first + (peer_in v.peers to).sent) (peer_in v.peers to).known v.regions) k.sends.sends_are
    ∙ ap (λ (n : ℕ). outbound_by own req to (length (own_sends own log)) (own.limits.first + n) (peer_in v.peers to).known v.regions) (k.sends.sent_are to)
    ∙ ap (λ (x : Option ℕ). outbound_by own req to (length (own_sends own log)) messages x v.regions) (k.lives.known_are to)
    ∙ ap (outbound_by own req to (length (own_sends own log)) messages (known_word log to)) k.regions
    ∙ sym (send_to_is own log req to)

-- one message more to its life
sent_more : (sents : List Sent) (s : Sent) (life : Life)
    → length (sends_to (sents ++ s ∷ []) life) ≡ cond (same_life s.to life) (length (sends_to sents s.to) + 1) (length (sends_to sents life))
unfolding sends_to
sent_more sents s life =
    ap length (filter-append (λ (x : Sent). same_life x.to life) sents (s ∷ []))
    ∙ (elim (same_life s.to life) as (λ b. same_life s.to life ≡ b →
    length (filter (λ (x : Sent). same_life x.to life) sents ++ cond b (s ∷ []) [])
    ≡ cond b (length (filter (λ (x : Sent). same_life x.to s.to) sents) + 1) (length (filter (λ (x : Sent). same_life x.to life) sents))) [
      | true ↦ λ e.
          length-append (filter (λ (x : Sent). same_life x.to life) sents) (s ∷ [])
          ∙ ap (λ (l : Life). length (filter (λ (x : Sent). same_life x.to l) sents) + 1) (sym (same_life-true s.to life e))
      | false ↦ λ e. ap length (append-nil (filter (λ (x : Sent). same_life x.to life) sents))
    ]) refl

-- a send completes nothing
send_completes_nothing : (own : Own) (req : SendReq) (log : List Deed) → IsEager own (Did (Send req) ∷ log)
    → own_completions own (Did (Send req) ∷ log) ≡ own_completions own log ++ []
unfolding ended_left recv_completions
send_completes_nothing own req log g = completions_step own (Did (Send req)) log g ∙ (let p = no_pairs own (Did (Send req)) log tt in rw p refl)

-- a send to a life
send_kept : (req : SendReq) (to : Life) (log : List Deed) (v : EndpointView) → IsEager v.own (Did (Send req) ∷ log) → new_sends v.own log (Did (Send req)) ≡ send_to v.own log req to ∷ []
    → Kept log v → Keeps (Did (Send req) ∷ log) (after_send_to v req (Some to))
unfolding after_send_to region_by polls_by live_left new_sent
send_kept req to log v g made k =
    let own = v.own in
    let d = Did (Send req) in
    let sents = own_sends own log in
    let s = send_to own log req to in
    let w : EndpointView = record v { sends = v.sends + 1; peers = with_peer sent_peer to v.peers; outgoing = v.outgoing ++ outbound v req to ∷ [] } in
    let lives = lives_still own d log v.currents v.peers g.1 tt k.lives in
    let step : own_sends own (d ∷ log) ≡ sents ++ s ∷ [] = own_sends_step own d log ∙ ap (λ (xs : List Sent). sents ++ xs) made in
    keeps_by (d ∷ log) w g
    (record {
      lives = record {
        currents_are = lives.currents_are;
        greeted_are = λ life. peer_kept (λ p. p.greeted) sent_peer to v.peers life (λ p. refl) (λ p. refl) ∙ lives.greeted_are life;
        known_are = λ life. peer_kept (λ p. p.known) sent_peer to v.peers life (λ p. refl) (λ p. refl) ∙ lives.known_are life;
      };
      sends = record {
        sent_are = λ life.
            peer_changed (λ p. p.sent) sent_peer to v.peers life (λ p. refl)
            ∙ ap (λ (n : ℕ). cond (same_life to life) (n + 1) (peer_in v.peers life).sent) (k.sends.sent_are to)
            ∙ ap (λ (n : ℕ). cond (same_life to life) (length (sends_to sents to) + 1) n) (k.sends.sent_are life)
            ∙ sym (ap (λ (xs : List Sent). length (sends_to xs life)) step ∙ sent_more sents s life);
        sends_are = ap (λ (n : ℕ). n + 1) k.sends.sends_are ∙ sym (ap length step ∙ length-append sents (s ∷ []));
        outgoing_are =
            ap (λ (os : List Outbound). os ++ outbound v req to ∷ []) k.sends.outgoing_are
            ∙ ap (λ (o : Outbound). map outbound_of (own_live_sends own log) ++ o ∷ []) (outbound_agrees log v req to k)
            ∙ sym (map-append outbound_of (own_live_sends own log) (s ∷ []))
            ∙ ap (map outbound_of) (sym (live_sends_step own d log g ∙ ap (λ (xs : List Sent). own_live_sends own log ++ xs) made));
      };
      receives = receives_still own d log v.receives v.posted g tt k.receives;
      messages = messages_still own d log v.arrived g tt k.messages;
      held = held_still_by own d log v.peers (with_peer sent_peer to v.peers) v.arrived v.held g tt (λ life. peer_kept (λ p. p.entered) sent_peer to v.peers life (λ p. refl) (λ p. refl)) k.held;
      owed = owed_still own d log v.owed g tt k.owed;
      regions = regions_still own d log v.regions g tt refl k.regions;
      completions =
          subst (CompletionsKept own (d ∷ log) v.polled) (append-nil v.completions)
          (completions_more own d log v.polled v.completions [] refl (send_completes_nothing own req log g) k.completions);
    })

-- a send that no life takes changes nothing
unsent_kept : (req : SendReq) (log : List Deed) (v : EndpointView) → IsEager v.own (Did (Send req) ∷ log) → new_sends v.own log (Did (Send req)) ≡ []
    → Kept log v → Keeps (Did (Send req) ∷ log) (after_send_to v req None)
unfolding after_send_to region_by polls_by live_left
unsent_kept req log v g made k =
    let own = v.own in
    let d = Did (Send req) in
    let sents = own_sends own log in
    let step : own_sends own (d ∷ log) ≡ sents = own_sends_step own d log ∙ ap (λ (xs : List Sent). sents ++ xs) made ∙ append-nil sents in
    keeps_by (d ∷ log) v g
    (record {
      lives = lives_still own d log v.currents v.peers g.1 tt k.lives;
      sends = record {
        sent_are = λ life. k.sends.sent_are life ∙ ap (λ (xs : List Sent). length (sends_to xs life)) (sym step);
        sends_are = k.sends.sends_are ∙ ap length (sym step);
        outgoing_are =
            k.sends.outgoing_are
            ∙ ap (map outbound_of) (sym (live_sends_step own d log g ∙ ap (λ (xs : List Sent). own_live_sends own log ++ xs) made ∙ append-nil (own_live_sends own log)));
      };
      receives = receives_still own d log v.receives v.posted g tt k.receives;
      messages = messages_still own d log v.arrived g tt k.messages;
      held = held_still own d log v.peers v.arrived v.held g tt k.held;
      owed = owed_still own d log v.owed g tt k.owed;
      regions = regions_still own d log v.regions g tt refl k.regions;
      completions =
          subst (CompletionsKept own (d ∷ log) v.polled) (append-nil v.completions)
          (completions_more own d log v.polled v.completions [] refl (send_completes_nothing own req log g) k.completions);
    })

-- the send that is made to the current life
new_by : (own : Own) (log : List Deed) (req : SendReq) (o : Option Life) → current log req.to.0 ≡ o
    → new_sends own log (Did (Send req)) ≡ sent_to_current own log (own_sends own log) req o (bytes_of (own_regions own log) req.parts)
unfolding sent_by
new_by own log req o e =
    ap (λ (x : Option Life). sent_to_current own log (own_sends own log) req x (bytes_of (own_regions own log) req.parts)) e

-- after a send, by the current life of its port
send_by : (req : SendReq) (log : List Deed) (v : EndpointView) (o : Option Life) → IsEager v.own (Did (Send req) ∷ log) → current log req.to.0 ≡ o → Kept log v
    → Keeps (Did (Send req) ∷ log) (after_send_to v req o)
unfolding sent_to_current
send_by req log v None g e k = unsent_kept req log v g (new_by v.own log req None e) k
send_by req log v (Some to) g e k = send_kept req to log v g (new_by v.own log req (Some to) e) k

-- after a send of one packet
pub keeps_send : (req : SendReq) (log : List Deed) (v : EndpointView) → IsEager v.own (Did (Send req) ∷ log) → Keeps log v → Keeps (Did (Send req) ∷ log) (after_send v req)
unfolding after_send
keeps_send req log v g keeps = send_by req log v (current_in v req.to.0) g (sym (keeps.currents_are req.to.0)) (kept_of log v keeps)
