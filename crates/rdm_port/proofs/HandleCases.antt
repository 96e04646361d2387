-- The kinds of answers of a port to a datagram: an entry, or that the datagram waits.
use Rattle.std.proofs.Common.{◌≡◌, Bool, true, false, cond, Option, Some, None, refl, ap, ◌∙◌, sym, subst, ◌⊎◌, inl, inr}
use Rattle.rdm_num.specs.Lives.{life}
use Rattle.rdm_num.specs.declared.numbers.Life.{Life}
use Rattle.rdm_pkt.specs.declared.Packet.TheVariants.{Rtm}
use Rattle.rdm_pkt.specs.declared.Form.TheVariants.{Eager}
use Rattle.rdm_wire.specs.declared.Body.{Body}
use Rattle.rdm_wire.specs.declared.Body.TheVariants.{Note, Between}
use Rattle.rdm_wire.specs.declared.Datagram.{Datagram}
use Rattle.rdm_model.specs.declared.answer.Class.{Class}
use Rattle.rdm_model.specs.declared.answer.Handled.{Handled}
use Rattle.rdm_model.specs.declared.answer.Handled.TheVariants as H
use Rattle.rdm_model.specs.Deeds.{Item, Spelled, item_of}
use Rattle.rdm_ep.specs.declared.answer.HandleAnswer.{HandleAnswer}
use Rattle.rdm_ep.specs.declared.answer.HandleAnswer.TheVariants.{Took, Dropped, AgainEarly, AgainCopy, Memory}
use Rattle.rdm_ep.specs.View.{EndpointView}
use Rattle.rdm_ep.specs.Handling.{item_class_in, needs_place_in, taken_in, class_answer_in, item_answer, after_answer, body_answer, after_body}
use Rattle.rdm_ep.specs.Answers.{handled_of, is_early}
use Rattle.rdm_port.specs.Handles.{is_handling}
use Rattle.rdm_port.specs.Kept.{Kept}
use Rattle.rdm_port.specs.Machine.{life_answer, after_life, drop_counted, machine_handled, after_handled, waits_in, MachineHandles}

-- an answer that is an entry does not wait
late_entry : (x : HandleAnswer) → is_handling (handled_of x) ≡ true → is_early x ≡ false
unfolding is_handling handled_of is_early
late_entry (Took entered) h = refl
late_entry (Dropped class') h = refl
late_entry AgainEarly h = cc
late_entry AgainCopy h = refl
late_entry Memory h = refl

-- where the answer of the machine is an entry, the datagram does not wait
pub entry_not_early : (k : Kept) (d : Datagram) (body : Body) → d.body ≡ body → is_handling (machine_handled k d body) ≡ true → waits_in k.endpoint d ≡ false
unfolding machine_handled life_answer waits_in body_answer is_early
entry_not_early k d (Note note) b h = elim k.endpoint as (λ o. waits_in o d ≡ false) [ None ↦ refl | Some e ↦ ap (λ (x : Body). is_early (body_answer e d x)) b ]
entry_not_early k d (Between from to load) b h =
    (elim k.endpoint as (λ o. is_handling (life_answer o d) ≡ true → waits_in o d ≡ false) [ None ↦ λ t. refl | Some e ↦ λ t. late_entry (body_answer e d d.body) t ]) h

-- an answer that the definitions of an endpoint give
unfoldable is_given : HandleAnswer → Bool
is_given AgainCopy = false
is_given Memory = false
is_given _ = true

-- what is taken is so answered
taken_given : (e : EndpointView) (from : Life) (item : Item) → is_given (taken_in e from item) ≡ true
unfolding is_given taken_in
taken_given e from (Spelled (Rtm number tag confirm opt (Eager bytes))) = refl
taken_given e from _ = refl

-- so is what has a class or none
class_given : (e : EndpointView) (from : Life) (item : Item) (o : Option Class) → is_given (class_answer_in e from item o) ≡ true
unfolding is_given class_answer_in
class_given e from item (Some class') = refl
class_given e from item None = elim (needs_place_in e from item) as (λ b. is_given (cond b AgainEarly (taken_in e from item)) ≡ true) [ true ↦ refl | false ↦ taken_given e from item ]

-- the endpoint gives no other answer
body_given : (e : EndpointView) (d : Datagram) (body : Body) → is_given (body_answer e d body) ≡ true
unfolding is_given body_answer item_answer
body_given e d (Note note) = refl
body_given e d (Between from to load) = class_given e (life d.src from) (item_of load) (item_class_in e (life d.src from) to (item_of load))

-- a given answer that is no entry is that the datagram waits
early_given : (x : HandleAnswer) → is_given x ≡ true → is_handling (handled_of x) ≡ false → x ≡ AgainEarly
unfolding is_given is_handling handled_of
early_given (Took entered) g h = cc
early_given (Dropped class') g h = cc
early_given AgainEarly g h = refl
early_given AgainCopy g h = cc
early_given Memory g h = cc

-- a datagram that waits leaves the endpoint
early_stays : (d : Datagram) (body : Body) (e : EndpointView) → after_body AgainEarly d body e ≡ e
unfolding after_body after_answer
early_stays d (Note note) e = refl
early_stays d (Between from to load) e = refl

-- what is true where the answer of the machine is no entry
record Waits (k : Kept) (d : Datagram) (body : Body) : Type 0 where
  answer : machine_handled k d body ≡ H.AgainEarly
  early : waits_in k.endpoint d ≡ true
  stays : after_handled k d body ≡ k

-- the same of an endpoint
early_waits : (k : Kept) (e : EndpointView) (d : Datagram) → k.endpoint ≡ Some e → body_answer e d d.body ≡ AgainEarly
    → (life_answer k.endpoint d ≡ H.AgainEarly) × (waits_in k.endpoint d ≡ true) × (drop_counted (life_answer k.endpoint d) (record k { endpoint = after_life k.endpoint d }) ≡ k)
unfolding life_answer after_life drop_counted waits_in is_early handled_of
early_waits k e d q x =
    let a : life_answer k.endpoint d ≡ H.AgainEarly = ap (λ (o : Option EndpointView). life_answer o d) q ∙ ap handled_of x in
    let f : after_life k.endpoint d ≡ k.endpoint =
    ap (λ (o : Option EndpointView). after_life o d) q ∙ ap (λ (y : HandleAnswer). Some (after_body y d d.body e)) x ∙ ap (λ (y : EndpointView). Some y) (early_stays d d.body e) ∙ sym q in (
      a,
      ap (λ (o : Option EndpointView). waits_in o d) q ∙ ap is_early x,
      ap (λ (y : Handled). drop_counted y (record k { endpoint = after_life k.endpoint d })) a ∙ ap (λ (o : Option EndpointView). record k { endpoint = o }) f,
    )

-- where no life is open, the answer is an entry
none_enters : (k : Kept) (d : Datagram) → k.endpoint ≡ None → is_handling (life_answer k.endpoint d) ≡ true
unfolding life_answer is_handling
none_enters k d q = rw q refl

-- where the answer of the machine is no entry, the datagram waits
machine_waits : (k : Kept) (d : Datagram) (body : Body) → is_handling (machine_handled k d body) ≡ false → Waits k d body
unfolding machine_handled after_handled is_handling handled_of life_answer
machine_waits k d (Note note) h = cc
machine_waits k d (Between from to load) h =
    (elim k.endpoint as (λ o. k.endpoint ≡ o → Waits k d (Between from to load)) [
      | None ↦ λ q. let t = none_enters k d q in cc
      | Some e ↦ λ q.
          let no : is_handling (handled_of (body_answer e d d.body)) ≡ false = subst (λ (o : Option EndpointView). is_handling (life_answer o d) ≡ false) q h in
          let w = early_waits k e d q (early_given (body_answer e d d.body) (body_given e d d.body) no) in
          record { answer = w.0; early = w.1; stays = w.2 }
    ]) refl

-- an answer that is no entry leaves all as it was: the datagram waits, or memory was wanted
abbrev pub StaysBy : Kept → Kept → Datagram → Handled → Type 0
StaysBy k n d answer = (n ≡ k) × ((answer ≡ H.Memory) ⊎ ((answer ≡ H.AgainEarly) × (waits_in k.endpoint d ≡ true)))

-- the same, where the answer is that of the machine
given_stays : (k n : Kept) (d : Datagram) (answer : Handled) → (answer ≡ machine_handled k d d.body) × (n ≡ after_handled k d d.body) → is_handling answer ≡ false → StaysBy k n d answer
given_stays k n d answer h t = let w = machine_waits k d d.body (ap is_handling (sym h.0) ∙ t) in (h.1 ∙ w.stays, inr (h.0 ∙ w.answer, w.early))

-- what an answer that is no entry leaves
pub no_entry_stays : (k n : Kept) (d : Datagram) (answer : Handled) → MachineHandles k n d answer → is_handling answer ≡ false → StaysBy k n d answer
no_entry_stays k n d (H.Took entered) h t = given_stays k n d (H.Took entered) h t
no_entry_stays k n d (H.Dropped class') h t = given_stays k n d (H.Dropped class') h t
no_entry_stays k n d H.AgainEarly h t = given_stays k n d H.AgainEarly h t
no_entry_stays k n d H.AgainCopy h t = given_stays k n d H.AgainCopy h t
no_entry_stays k n d H.Empty h t = given_stays k n d H.Empty h t
no_entry_stays k n d H.Worn h t = given_stays k n d H.Worn h t
no_entry_stays k n d H.Memory h t = (h, inl refl)

-- an answer that is an entry is that of the machine
pub entry_given : (k n : Kept) (d : Datagram) (answer : Handled) → MachineHandles k n d answer → is_handling answer ≡ true → (answer ≡ machine_handled k d d.body) × (n ≡ after_handled k d d.body)
unfolding is_handling
entry_given k n d (H.Took entered) h t = h
entry_given k n d (H.Dropped class') h t = h
entry_given k n d H.AgainEarly h t = h
entry_given k n d H.AgainCopy h t = h
entry_given k n d H.Empty h t = h
entry_given k n d H.Worn h t = h
entry_given k n d H.Memory h t = cc
