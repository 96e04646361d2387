-- How many sends and receives were accepted, how many messages went to each life, and how many completions were polled.
use Rattle.std.proofs.Common.{◌≡◌, ℕ, ◌+◌, Bool, true, false, cond, List, ◌∷◌, ◌++◌, length, Option, Some, None, filter, refl, sym, ◌∙◌, ap, arith, length-append}
use Rattle.std.proofs.lemmas.List.Elements.{filter-append}
use Rattle.rdm_num.specs.Lives.{same_life}
use Rattle.rdm_num.specs.declared.numbers.Life.{Life}
use Rattle.rdm_num.specs.declared.request.SendReq.{SendReq}
use Rattle.rdm_model.specs.declared.job.Instr.TheVariants.{Insert, Reg, Send, Recv}
use Rattle.rdm_model.specs.Beginnings.{Own, Messages}
use Rattle.rdm_model.specs.Completions.{poll_count, polls_by}
use Rattle.rdm_model.specs.Currents.{current}
use Rattle.rdm_model.specs.Deeds.{Deed, Did, Took, Polled, deed_count}
use Rattle.rdm_model.specs.Matches.{Receive, receives, received_by, with_received}
use Rattle.rdm_model.specs.Sends.{Sent, new_sent, sent_to_current, sent_by, with_sent, sends, sends_to}
use Rattle.rdm_model.proofs.Grows.{agree_grows}
use Rattle.rdm_model.proofs.SameRegions.{sends_same}
use Rattle.rdm_life.specs.Kept.{Kept}
use Rattle.rdm_life.specs.Keeps.{told, own_sends, KeepsLives}
use Rattle.rdm_life.specs.Lives.{with_source, greet, after_insert}
use Rattle.rdm_life.specs.Forgetting.{forget}
use Rattle.rdm_life.specs.Handling.{after}
use Rattle.rdm_life.proofs.LivesCurrent.{same_turn}
use Rattle.rdm_life.proofs.LivesLight.{light, after_light, one_of, one_to}

-- ---- receives

-- one receive, or none
unfoldable pub recv_one : Deed → ℕ
recv_one (Did (Recv req)) = 1
recv_one _ = 0

-- a deed counts it
light_receives : (d : Deed) (v : Kept) → (light d v).receive_count ≡ v.receive_count + recv_one d
unfolding light recv_one after_insert with_source greet forget
light_receives (Did (Insert life)) v = omega arith
light_receives (Did (Reg content)) v = omega arith
light_receives (Did (Send req)) v = omega arith
light_receives (Did (Recv req)) v = omega arith
light_receives (Took from item) v = omega arith
light_receives Polled v = omega arith
light_receives _ v = omega arith

-- so do the definitions
received_one : (rs : List Receive) (log : List Deed) (d : Deed) → length (received_by rs log d) ≡ recv_one d
unfolding received_by recv_one
received_one rs log (Did (Recv req)) = refl
received_one rs log _ = refl

-- the count of receives after a deed
pub receive_count_step : (own : Own) (d : Deed) (log : List Deed) (v : Kept) → KeepsLives own log v → (after d v).receive_count ≡ length (receives (d ∷ log))
unfolding receives with_received
receive_count_step own d log v k =
    let step : (after d v).receive_count ≡ v.receive_count + recv_one d = (after_light d v).receive_count ∙ light_receives d v in
    let kept = k.receive_count_is in
    let sum = length-append (receives log) (received_by (receives log) log d) in
    let one = received_one (receives log) log d in
    omega arith

-- ---- polls

-- a deed counts its poll
light_polls : (d : Deed) (v : Kept) → (light d v).poll_count ≡ v.poll_count + polls_by d
unfolding light polls_by after_insert with_source greet forget
light_polls (Did (Insert life)) v = omega arith
light_polls (Did (Reg content)) v = omega arith
light_polls (Did (Send req)) v = omega arith
light_polls (Did (Recv req)) v = omega arith
light_polls (Took from item) v = omega arith
light_polls Polled v = omega arith
light_polls _ v = omega arith

-- the count of polls after a deed
pub poll_count_step : (own : Own) (d : Deed) (log : List Deed) (v : Kept) → KeepsLives own log v → (after d v).poll_count ≡ poll_count (d ∷ log)
unfolding poll_count deed_count
poll_count_step own d log v k = (after_light d v).poll_count ∙ light_polls d v ∙ ap (λ (n : ℕ). n + polls_by d) k.poll_count_is

-- ---- sends

-- the life that a deed sends to, if it sends
unfoldable pub sent_life : Deed → (ℕ → Option Life) → Option Life
sent_life (Did (Send req)) now = now req.to.0
sent_life _ now = None

-- a deed counts its send
light_sends : (d : Deed) (v : Kept) → (light d v).send_count ≡ v.send_count + one_of (sent_life d v.current)
unfolding light sent_life one_of after_insert with_source greet forget
light_sends (Did (Insert life)) v = omega arith
light_sends (Did (Reg content)) v = omega arith
light_sends (Did (Send req)) v = refl
light_sends (Did (Recv req)) v = omega arith
light_sends (Took from item) v = omega arith
light_sends Polled v = omega arith
light_sends _ v = omega arith

-- what goes to a life, or to none
current_sent : (own : Own) (log : List Deed) (sents : List Sent) (req : SendReq) (o : Option Life) (bytes : List ℕ) → length (sent_to_current own log sents req o bytes) ≡ one_of o
unfolding sent_to_current one_of
current_sent own log sents req None bytes = refl
current_sent own log sents req (Some to) bytes = refl

-- the definitions count it so
sent_one : (own : Own) (ms : Messages) (log : List Deed) (sents : List Sent) (d : Deed) → length (sent_by own ms log sents d) ≡ one_of (sent_life d (current log))
unfolding sent_by sent_life one_of
sent_one own ms log sents (Did (Send req)) = current_sent own log sents req (current log req.to.0) _
sent_one own ms log sents _ = refl

-- the sends after a deed are those before, and the one that it makes
pub sends_next : (own : Own) (d : Deed) (log : List Deed) → own_sends own (d ∷ log) ≡ own_sends own log ++ sent_by own (told own (d ∷ log)) log (own_sends own log) d
unfolding sends with_sent
sends_next own d log =
    ap (λ (ss : List Sent). ss ++ sent_by own (told own (d ∷ log)) log ss d) (sym (sends_same own (told own log) (told own (d ∷ log)) log (agree_grows own.limits.first d log)))

-- the current lives are those of the definitions
pub same_now : (own : Own) (d : Deed) (log : List Deed) (v : Kept) → KeepsLives own log v → sent_life d v.current ≡ sent_life d (current log)
unfolding sent_life
same_now own (Did (Send req)) log v k = k.current_is req.to.0
same_now own _ log v k = refl

-- the count of sends after a deed
pub send_count_step : (own : Own) (d : Deed) (log : List Deed) (v : Kept) → KeepsLives own log v → (after d v).send_count ≡ length (own_sends own (d ∷ log))
send_count_step own d log v k =
    let new : List Sent = sent_by own (told own (d ∷ log)) log (own_sends own log) d in
    (after_light d v).send_count
    ∙ light_sends d v
    ∙ ap (λ (n : ℕ). n + one_of (sent_life d v.current)) k.send_count_is
    ∙ ap (λ (o : Option Life). length (own_sends own log) + one_of o) (same_now own d log v k)
    ∙ ap (λ (n : ℕ). length (own_sends own log) + n) (sym (sent_one own (told own (d ∷ log)) log (own_sends own log) d))
    ∙ sym (length-append (own_sends own log) new)
    ∙ ap (λ (ss : List Sent). length ss) (sym (sends_next own d log))

-- ---- messages

-- what goes to a life, or to none, of that life
current_one : (own : Own) (log : List Deed) (sents : List Sent) (req : SendReq) (o : Option Life) (bytes : List ℕ) (life : Life)
    → length (filter (λ (s : Sent). same_life s.to life) (sent_to_current own log sents req o bytes)) ≡ one_to o life
unfolding sent_to_current one_to new_sent
current_one own log sents req None bytes life = refl
current_one own log sents req (Some to) bytes life =
    let turn = same_turn to life in
    (elim (same_life life to) as (λ b. same_life to life ≡ b → length (filter (λ (s : Sent). same_life s.to life) (sent_to_current own log sents req (Some to) bytes)) ≡ cond b 1 0) [
      | true ↦ λ e. rw e refl
      | false ↦ λ e. rw e refl
    ]) turn

-- the definitions count it so
message_one : (own : Own) (ms : Messages) (log : List Deed) (sents : List Sent) (d : Deed) (life : Life)
    → length (filter (λ (s : Sent). same_life s.to life) (sent_by own ms log sents d)) ≡ one_to (sent_life d (current log)) life
unfolding sent_by sent_life one_to
message_one own ms log sents (Did (Send req)) life = current_one own log sents req (current log req.to.0) _ life
message_one own ms log sents _ life = refl

-- the count of messages to a life after a deed
pub messages_next : (own : Own) (d : Deed) (log : List Deed) (life : Life)
    → length (sends_to (own_sends own (d ∷ log)) life) ≡ length (sends_to (own_sends own log) life) + one_to (sent_life d (current log)) life
unfolding sends_to
messages_next own d log life =
    let old : List Sent = own_sends own log in
    let new : List Sent = sent_by own (told own (d ∷ log)) log old d in
    let test : Sent → Bool = λ s. same_life s.to life in
    ap (λ (ss : List Sent). length (filter test ss)) (sends_next own d log)
    ∙ ap (λ (ss : List Sent). length ss) (filter-append test old new)
    ∙ length-append (filter test old) (filter test new)
    ∙ ap (λ (n : ℕ). length (filter test old) + n) (message_one own (told own (d ∷ log)) log old d life)
