-- What an endpoint keeps after what goes out next was pushed.
use Rattle.std.proofs.Common.{◌≡◌, ℕ, ◌+◌, false, List, [], ◌∷◌, ◌++◌, map, length, drop, refl, arith, ap, ◌∙◌, sym, subst}
use Rattle.std.specs.Prelude.{slice_get, option_map}
use Rattle.std.proofs.lemmas.List.{append-nil, length-append, drop-append-le}
use Rattle.rdm_num.specs.declared.numbers.Life.{Life}
use Rattle.rdm_num.specs.declared.completion.Completion.{Completion}
use Rattle.rdm_num.specs.declared.completion.Completion.TheVariants.{Send}
use Rattle.rdm_model.specs.Deeds.{Deed, Pushed, Spelled, deed_count}
use Rattle.rdm_model.specs.Beginnings.{Own}
use Rattle.rdm_model.specs.Regions.{region_by}
use Rattle.rdm_model.specs.Sends.{Sent, sent_by, sends_to}
use Rattle.rdm_model.specs.Replies.{Reply, handshake_by}
use Rattle.rdm_model.specs.Dues.{reply_due, due}
use Rattle.rdm_model.specs.Going.{Goes, due_going}
use Rattle.rdm_model.specs.Completions.{send_completion, recv_completions, polls_by, poll_count}
use Rattle.rdm_model.specs.Local.{heard_by}
use Rattle.rdm_ep.specs.declared.state.Outbound.{Outbound}
use Rattle.rdm_ep.specs.View.{EndpointView}
use Rattle.rdm_ep.specs.Going.{Leaving, outgoing_out, out_by, out_of, after_outgoing, sent_by as pushed_by, after_sent}
use Rattle.rdm_ep.specs.Eager.{IsEager}
use Rattle.rdm_ep.specs.Keeps.{outbound_of, handshake_to, Keeps}
use Rattle.rdm_ep.proofs.Currents.{never_forgotten}
use Rattle.rdm_ep.proofs.EagerSends.{first_due}
use Rattle.rdm_ep.proofs.Progress.{sends_left}
use Rattle.rdm_ep.proofs.Pushes.{own_sends, own_progress, own_live_sends, own_sends_step, replies_left, replies_step, live_left, live_sends_step, sends_ended, ended_left, due_is}
use Rattle.rdm_ep.proofs.Completed.{own_completions, completions_step}
use Rattle.rdm_ep.proofs.Groups.{CompletionsKept, kept_of, keeps_by}
use Rattle.rdm_ep.proofs.Still.{lives_still, receives_still, messages_still, held_still, no_pairs, regions_still}

-- the endpoint with other handshakes to come, other sends and other completions
abbrev pub with_left : EndpointView → List Life → List Outbound → List Completion → EndpointView
with_left v owed outgoing completions = record v { owed = owed; outgoing = outgoing; completions = completions }

-- the sends that are left once the first handshake or else the first send was pushed, and the completion that this makes
unfoldable pub outgoing_left : List Life → List Outbound → List Outbound
outgoing_left [] os = drop 1 os
outgoing_left (l ∷ ls) os = os

unfoldable pub outgoing_done : List Life → List Outbound → List Completion
outgoing_done [] [] = []
outgoing_done [] (o ∷ os) = Send o.number false ∷ []
outgoing_done (l ∷ ls) os = []

-- the endpoint after a push, by its lists
sent_is : (v : EndpointView) (ls : List Life) (os : List Outbound) → v.owed ≡ ls → v.outgoing ≡ os
    → pushed_by v ls ≡ with_left v (drop 1 ls) (outgoing_left ls os) (v.completions ++ outgoing_done ls os)
unfolding pushed_by after_outgoing outgoing_left outgoing_done
sent_is v [] [] e f =
    ap (after_outgoing v) f
    ∙ ap (λ (x : List Life). with_left v x v.outgoing v.completions) e
    ∙ ap (λ (x : List Outbound). with_left v [] x v.completions) f
    ∙ ap (with_left v [] []) (sym (append-nil v.completions))
sent_is v [] (o ∷ os) e f =
    ap (after_outgoing v) f
    ∙ ap (λ (x : List Life). with_left v x os (v.completions ++ Send o.number false ∷ [])) e
sent_is v (l ∷ ls) os e f =
    ap (λ (x : List Outbound). with_left v ls x v.completions) f
    ∙ ap (with_left v ls os) (sym (append-nil v.completions))

-- the endpoint after a push
after_sent_is : (v : EndpointView) → after_sent v ≡ with_left v (drop 1 v.owed) (outgoing_left v.owed v.outgoing) (v.completions ++ outgoing_done v.owed v.outgoing)
unfolding after_sent
after_sent_is v = sent_is v v.owed v.outgoing refl refl

-- the sends that are left are those of the definitions
left_are : (own : Own) (ls : List Life) (live : List Sent) → outgoing_left ls (map outbound_of live) ≡ map outbound_of (sends_left (map (handshake_to own) ls) live)
unfolding outgoing_left sends_left
left_are own [] [] = refl
left_are own [] (s ∷ ss) = refl
left_are own (l ∷ ls) live = refl

-- the completion is that of the definitions
done_are : (own : Own) (log : List Deed) (ls : List Life) (live : List Sent) → IsEager own log
    → outgoing_done ls (map outbound_of live) ≡ map (send_completion log) (sends_ended (map (handshake_to own) ls) live)
unfolding outgoing_done sends_ended send_completion
done_are own log [] [] h = refl
done_are own log [] (s ∷ ss) h = let f = never_forgotten own log s.to h in rw f refl
done_are own log (l ∷ ls) live h = refl

-- handshakes without the first one
drop_first : (own : Own) (ls : List Life) → map (handshake_to own) (drop 1 ls) ≡ drop 1 (map (handshake_to own) ls)
drop_first own [] = refl
drop_first own (l ∷ ls) = refl

-- completions that are left, with some more
pub completions_more : (own : Own) (d : Deed) (log : List Deed) (polled : ℕ) (completions more : List Completion) → polls_by d ≡ 0
    → own_completions own (d ∷ log) ≡ own_completions own log ++ more → CompletionsKept own log polled completions
    → CompletionsKept own (d ∷ log) polled (completions ++ more)
unfolding poll_count deed_count
completions_more own d log polled completions more p e k =
    let same : deed_count polls_by log + polls_by d ≡ deed_count polls_by log = omega arith in
    let w = k.polled_within in
    record {
      polled_are = k.polled_are ∙ sym same;
      polled_within = rw (same, e) (omega (arith, length-append (own_completions own log) more));
      completions_are = rw (same, e) (ap (λ (xs : List Completion). xs ++ more) k.completions_are ∙ sym (drop-append-le (deed_count polls_by log) (own_completions own log) more w));
    }

-- after what goes out next was pushed
pub keeps_pushed : (log : List Deed) (v : EndpointView) → IsEager v.own log → Keeps log v → Keeps (Pushed ∷ log) (after_sent v)
unfolding replies_left handshake_by live_left ended_left sent_by region_by polls_by recv_completions
keeps_pushed log v h keeps =
    let k = kept_of log v keeps in
    let own = v.own in
    let d = Pushed in
    let g : IsEager own (d ∷ log) = (h, tt) in
    let w : EndpointView = with_left v (drop 1 v.owed) (outgoing_left v.owed v.outgoing) (v.completions ++ outgoing_done v.owed v.outgoing) in
    let rs = (own_progress own log).replies in
    let live = own_live_sends own log in
    let out : outgoing_left v.owed v.outgoing ≡ map outbound_of (sends_left rs live) =
    ap (outgoing_left v.owed) k.sends.outgoing_are ∙ left_are own v.owed live ∙ ap (λ (x : List Reply). map outbound_of (sends_left x live)) k.owed in
    let done : outgoing_done v.owed v.outgoing ≡ map (send_completion (d ∷ log)) (sends_ended rs live) =
    ap (outgoing_done v.owed) k.sends.outgoing_are ∙ done_are own (d ∷ log) v.owed live g ∙ ap (λ (x : List Reply). map (send_completion (d ∷ log)) (sends_ended x live)) k.owed in
    let s : own_sends own (d ∷ log) ≡ own_sends own log = own_sends_step own d log ∙ append-nil (own_sends own log) in
    let c : own_completions own (d ∷ log) ≡ own_completions own log ++ outgoing_done v.owed v.outgoing =
    completions_step own d log g ∙ (let p = no_pairs own d log tt in rw (p, done) refl) in
    subst (Keeps (d ∷ log)) (sym (after_sent_is v))
    (keeps_by (d ∷ log) w g
    (record {
      lives = lives_still own d log v.currents v.peers tt tt k.lives;
      sends = record {
        sent_are = λ life. k.sends.sent_are life ∙ ap (λ (xs : List Sent). length (sends_to xs life)) (sym s);
        sends_are = k.sends.sends_are ∙ ap length (sym s);
        outgoing_are = out ∙ ap (map outbound_of) (sym (live_sends_step own d log g ∙ append-nil (sends_left rs live)));
      };
      receives = receives_still own d log v.receives v.posted g tt k.receives;
      messages = messages_still own d log v.arrived g tt k.messages;
      held = held_still own d log v.peers v.arrived v.held g tt k.held;
      owed = drop_first own v.owed ∙ ap (drop 1) k.owed ∙ sym (replies_step own d log g ∙ append-nil (drop 1 rs));
      regions = regions_still own d log v.regions g tt refl k.regions;
      completions = completions_more own d log v.polled v.completions (outgoing_done v.owed v.outgoing) refl c k.completions;
    }))

-- the next handshake, or else the next send's packet
out_is : (v : EndpointView) (ls : List Life) (live : List Sent)
    → due_going (reply_due (slice_get (map (handshake_to v.own) ls) 0) (first_due live))
    ≡ option_map (λ (l : Leaving). Goes l.to (Spelled l.packet)) (out_by (record v { outgoing = map outbound_of live }) ls)
unfolding due_going reply_due first_due out_by outgoing_out
out_is v [] [] = refl
out_is v [] (s ∷ ss) = refl
out_is v (l ∷ ls) live = refl

-- what goes out next from an endpoint is what the definitions say
pub out_agrees : (log : List Deed) (v : EndpointView) → IsEager v.own log → Keeps log v
    → due_going (due v.own (heard_by v.own.limits.first log) log) ≡ option_map (λ (l : Leaving). Goes l.to (Spelled l.packet)) (out_of v)
unfolding out_of
out_agrees log v h keeps =
    let k = kept_of log v keeps in
    let live = own_live_sends v.own log in
    ap due_going (due_is v.own (heard_by v.own.limits.first log) log h)
    ∙ ap (λ (rs : List Reply). due_going (reply_due (slice_get rs 0) (first_due live))) (sym k.owed)
    ∙ out_is v v.owed live
    ∙ ap (λ (os : List Outbound). option_map (λ (l : Leaving). Goes l.to (Spelled l.packet)) (out_by (record v { outgoing = os }) v.owed)) (sym k.sends.outgoing_are)
