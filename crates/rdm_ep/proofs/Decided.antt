-- What an endpoint decides is what the handling of a datagram says.
use Rattle.std.proofs.Common.{◌≡◌, Bool, true, false, not, ◌&&◌, [], ◌∷◌, Option, Some, None, refl, ◌∙◌, ap}
use Rattle.std.specs.Prelude.{is_none, ◌||◌, ◌==◌, if◌then◌else◌}
use Rattle.rdm_lists.specs.Lists.{first_case}
use Rattle.rdm_num.specs.Lives.{life}
use Rattle.rdm_num.specs.declared.numbers.Life.{Life}
use Rattle.rdm_num.specs.declared.numbers.Connid.{Connid}
use Rattle.rdm_pkt.specs.declared.Packet.TheVariants.{Rtm, Cts, CtsData, Eor, Handshake, Receipt}
use Rattle.rdm_pkt.specs.declared.Form.TheVariants.{Eager, Medium, LongCts, LongRead, Runt}
use Rattle.rdm_wire.specs.declared.Load.{Load}
use Rattle.rdm_wire.specs.declared.Body.TheVariants.{Between}
use Rattle.rdm_wire.specs.declared.Datagram.{Datagram}
use Rattle.rdm_model.specs.declared.answer.Entered.{Entered}
use Rattle.rdm_model.specs.declared.answer.Class.{Class}
use Rattle.rdm_model.specs.declared.answer.Class.TheVariants.{ToOther, FromOther, Malformed, Unknown, Mismatch, Overlap}
use Rattle.rdm_model.specs.Deeds.{Item, Spelled, Asks, Gives, Garbled, item_of}
use Rattle.rdm_model.specs.Sources.{is_other, is_malformed, has_raw}
use Rattle.rdm_ep.specs.declared.answer.HandleAnswer.{HandleAnswer}
use Rattle.rdm_ep.specs.declared.answer.HandleAnswer.TheVariants.{Took, Dropped, AgainEarly, AgainCopy, Memory}
use Rattle.rdm_ep.specs.declared.state.Inbound.{Inbound}
use Rattle.rdm_ep.specs.declared.state.Verdict.{Verdict}
use Rattle.rdm_ep.specs.declared.state.Verdict.TheVariants.{Message}
use Rattle.rdm_ep.specs.View.{EndpointView, current_in}
use Rattle.rdm_ep.specs.Entering.{entered_by}
use Rattle.rdm_ep.specs.Handling.{item_class_in, load_class, rtm_class, is_eager, class_answer_in, item_answer, needs_place_in, taken_in, after_take, with_item, after_answer, body_answer, after_body, HandlesAs}
use Rattle.rdm_ep.specs.Verdicts.{accepted_of, verdict_of, verdict_in, verdict_answer, verdict_effect, with_features, waits_in, is_next_in, VerdictAs, IsFrom}
use Rattle.rdm_ep.specs.Answers.{is_early}

-- what has no class has none by the last word on it either
pub unclassed_load : (a b c d : Bool) (x y z w : Class) (last : Option Class)
    → first_case ((a, Some x) ∷ (b, Some y) ∷ (c, Some z) ∷ (d, Some w) ∷ []) last ≡ None → last ≡ None
unfolding first_case
unclassed_load true b c d x y z w last h = absurd (cc)
unclassed_load false true c d x y z w last h = absurd (cc)
unclassed_load false false true d x y z w last h = absurd (cc)
unclassed_load false false false true x y z w last h = absurd (cc)
unclassed_load false false false false x y z w last h = h

-- a message in other than one packet has a class
pub other_form : (a b c : Bool) → first_case ((a, Some Mismatch) ∷ (b, Some Overlap) ∷ (c || true, Some Malformed) ∷ []) None ≡ None → ⊥
unfolding first_case
other_form true b c h = cc
other_form false true c h = cc
other_form false false true h = cc
other_form false false false h = cc

-- a datagram that has no class is classed by no load
pub no_load_class : (v : EndpointView) (from : Life) (to : Connid) (item : Item) → item_class_in v from to item ≡ None → load_class v from item ≡ None
unfolding item_class_in
no_load_class v from to item h =
    unclassed_load (not (v.own.life.connid.0 == to.0)) (is_other (current_in v from.port.0) from) (is_malformed from item)
    (is_none (current_in v from.port.0) && not (has_raw item)) ToOther FromOther Malformed Unknown (load_class v from item) h

-- what is neither a message in one packet nor a handshake has a class
pub record IsTaken (v : EndpointView) (from : Life) (item : Item) : Type 0 where
  pub answer : verdict_answer v (accepted_of from item) ≡ class_answer_in v from item None
  pub effect : (w : EndpointView) → verdict_effect from (accepted_of from item) w ≡ after_take from item w

-- what has no class is taken, with its effect
pub unclassed_taken : (v : EndpointView) (from : Life) (item : Item) → load_class v from item ≡ None → IsTaken v from item
unfolding load_class rtm_class is_eager accepted_of class_answer_in verdict_answer verdict_effect waits_in needs_place_in taken_in after_take with_item with_features
unclassed_taken v from (Spelled (Rtm number tag confirm opt (Eager bytes))) h = record { answer = refl; effect = λ w. refl }
unclassed_taken v from (Spelled (Rtm number tag confirm opt (Medium size offset bytes))) h = absurd (other_form _ _ _ h)
unclassed_taken v from (Spelled (Rtm number tag confirm opt (LongCts size send credits bytes))) h = absurd (other_form _ _ _ h)
unclassed_taken v from (Spelled (Rtm number tag confirm opt (LongRead size send iov))) h = absurd (other_form _ _ _ h)
unclassed_taken v from (Spelled (Rtm number tag confirm opt (Runt size send iov runt offset bytes))) h = absurd (other_form _ _ _ h)
unclassed_taken v from (Spelled (Cts send recv size connid)) h = absurd (cc)
unclassed_taken v from (Spelled (CtsData recv offset connid bytes)) h = absurd (cc)
unclassed_taken v from (Spelled (Eor send recv connid)) h = absurd (cc)
unclassed_taken v from (Spelled (Handshake words connid raw)) h = record { answer = refl; effect = λ w. refl }
unclassed_taken v from (Spelled (Receipt number connid)) h = absurd (cc)
unclassed_taken v from (Asks ask) h = absurd (cc)
unclassed_taken v from (Gives data') h = absurd (cc)
unclassed_taken v from Garbled h = absurd (cc)

-- the decision answers what the class says, and has the effect of a taken datagram where it has none
pub decided : (v : EndpointView) (from : Life) (item : Item) (class' : Option Class) → (class' ≡ None → load_class v from item ≡ None)
    → verdict_answer v (verdict_of from item class') ≡ class_answer_in v from item class'
unfolding verdict_of verdict_answer class_answer_in
decided v from item None h = (unclassed_taken v from item (h refl)).answer
decided v from item (Some class') h = refl

-- a datagram that was taken had no class
pub decided_effect : (v : EndpointView) (from : Life) (item : Item) (class' : Option Class) (entered : Option Entered) → (class' ≡ None → load_class v from item ≡ None)
    → Took entered ≡ verdict_answer v (verdict_of from item class') → verdict_effect from (verdict_of from item class') v ≡ after_take from item v
unfolding verdict_of verdict_answer
decided_effect v from item None entered h e = (unclassed_taken v from item (h refl)).effect v
decided_effect v from item (Some class') entered h e = absurd (cc)

-- the decision answers what the handling does
pub verdict_answers : (v : EndpointView) (from : Life) (to : Connid) (item : Item) → verdict_answer v (verdict_in v from to item) ≡ item_answer v from to item
unfolding verdict_in item_answer
verdict_answers v from to item = decided v from item (item_class_in v from to item) (no_load_class v from to item)

-- what a decision makes of the endpoint is what the handling does
pub verdict_handles : (old new : EndpointView) (d : Datagram) (from to : Connid) (load : Load) (answer : HandleAnswer) → d.body ≡ Between from to load
    → VerdictAs old new (life d.src from) (verdict_in old (life d.src from) to (item_of load)) answer → HandlesAs old new d answer
unfolding body_answer after_body after_answer verdict_in
verdict_handles old new d from to load Memory e h = h
verdict_handles old new d from to load (Took entered) e h =
    let a = verdict_answers old (life d.src from) to (item_of load) in
    let b = decided_effect old (life d.src from) (item_of load) (item_class_in old (life d.src from) to (item_of load)) entered (no_load_class old (life d.src from) to (item_of load)) h.0 in
    (rw e (h.0 ∙ a), rw e (h.1 ∙ b))
verdict_handles old new d from to load (Dropped class') e h = (rw e (h.0 ∙ verdict_answers old (life d.src from) to (item_of load)), rw e h.1)
verdict_handles old new d from to load AgainEarly e h = (rw e (h.0 ∙ verdict_answers old (life d.src from) to (item_of load)), rw e h.1)
verdict_handles old new d from to load AgainCopy e h = (rw e (h.0 ∙ verdict_answers old (life d.src from) to (item_of load)), rw e h.1)

-- what is accepted is from its life
accepted_from : (from : Life) (item : Item) → IsFrom from (accepted_of from item)
unfolding accepted_of
accepted_from from (Spelled (Rtm number tag confirm opt (Eager bytes))) = refl
accepted_from from (Spelled (Handshake words connid raw)) = _
accepted_from from _ = _

-- what a class decides is from its life
decided_from : (from : Life) (item : Item) (class' : Option Class) → IsFrom from (verdict_of from item class')
unfolding verdict_of
decided_from from item None = accepted_from from item
decided_from from item (Some class') = _

-- a message that is decided on is from its life
pub verdict_from : (v : EndpointView) (from : Life) (to : Connid) (item : Item) → IsFrom from (verdict_in v from to item)
unfolding verdict_in
verdict_from v from to item = decided_from from item (item_class_in v from to item)

-- a message would wait where its decision answers so
pub early_waits : (v : EndpointView) (i : Inbound) → waits_in v i ≡ is_early (verdict_answer v (Message i))
unfolding verdict_answer is_early
early_waits v i = elim (waits_in v i) as (λ b. b ≡ is_early (if b then AgainEarly else Took (entered_by (is_next_in v i) i v.held))) [ true ↦ refl | false ↦ refl ]

-- a datagram stays where it is as its decision says
pub early_of : (v : EndpointView) (d : Datagram) (from to : Connid) (load : Load) (verdict : Verdict) → d.body ≡ Between from to load
    → verdict ≡ verdict_in v (life d.src from) to (item_of load) → is_early (verdict_answer v verdict) ≡ is_early (body_answer v d d.body)
unfolding body_answer
early_of v d from to load verdict e f = rw (f, e) (ap is_early (verdict_answers v (life d.src from) to (item_of load)))

-- a message that would wait stays where it is
pub again_answer : (v : EndpointView) (i : Inbound) → waits_in v i ≡ true → AgainEarly ≡ verdict_answer v (Message i)
unfolding verdict_answer
again_answer v i h = rw h refl

-- and another one is taken
pub took_answer : (v : EndpointView) (i : Inbound) (entered : Option Entered) → waits_in v i ≡ false → entered ≡ entered_by (is_next_in v i) i v.held → Took entered ≡ verdict_answer v (Message i)
unfolding verdict_answer
took_answer v i entered h e = rw (h, e) refl
