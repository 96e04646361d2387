-- What an endpoint keeps after it answered to a datagram.
use Rattle.std.proofs.Common.{◌≡◌, List, ◌∷◌, Option, Some, None, refl}
use Rattle.rdm_num.specs.Lives.{life}
use Rattle.rdm_num.specs.declared.numbers.Life.{Life}
use Rattle.rdm_wire.specs.declared.Body.{Body}
use Rattle.rdm_wire.specs.declared.Body.TheVariants.{Note, Between}
use Rattle.rdm_wire.specs.declared.Datagram.{Datagram}
use Rattle.rdm_model.specs.declared.answer.Class.{Class}
use Rattle.rdm_model.specs.declared.answer.Entered.{Entered}
use Rattle.rdm_model.specs.Deeds.{Deed, Item, item_of, deed_by_handle}
use Rattle.rdm_ep.specs.declared.answer.HandleAnswer.{HandleAnswer}
use Rattle.rdm_ep.specs.declared.answer.HandleAnswer.TheVariants as HandleA
use Rattle.rdm_ep.specs.View.{EndpointView}
use Rattle.rdm_ep.specs.Handling.{item_class_in, class_answer_in, item_answer, body_answer, after_answer, after_body}
use Rattle.rdm_ep.specs.Answers.{handled_of}
use Rattle.rdm_ep.specs.Eager.{IsEagerDeed, IsEager}
use Rattle.rdm_ep.specs.Keeps.{Keeps}
use Rattle.rdm_ep.proofs.KeepsQuiet.{keeps_quiet}
use Rattle.rdm_ep.proofs.Handled.{taken_is_eager, keeps_took}

-- what was taken has no class
took_no_class : (v : EndpointView) (from : Life) (item : Item) (o : Option Class) (entered : Option Entered) → class_answer_in v from item o ≡ HandleA.Took entered → o ≡ None
unfolding class_answer_in
took_no_class v from item None entered h = refl
took_no_class v from item (Some class') entered h = cc

-- the same, by the answer and by what the datagram has in it
body_kept : (log : List Deed) (v : EndpointView) (d : Datagram) (body : Body) (answer : HandleAnswer) → IsEager v.own log → body_answer v d body ≡ answer → Keeps log v
    → IsEagerDeed v.own log (deed_by_handle d.src body (handled_of answer)) × Keeps (deed_by_handle d.src body (handled_of answer) ∷ log) (after_body answer d body v)
unfolding body_answer item_answer deed_by_handle handled_of after_body after_answer
body_kept log v d (Note note) (HandleA.Took entered) h e k = (tt, keeps_quiet _ log v tt h k)
body_kept log v d (Note note) (HandleA.Dropped class') h e k = (tt, keeps_quiet _ log v tt h k)
body_kept log v d (Note note) HandleA.AgainEarly h e k = (tt, keeps_quiet _ log v tt h k)
body_kept log v d (Note note) HandleA.AgainCopy h e k = (tt, keeps_quiet _ log v tt h k)
body_kept log v d (Note note) HandleA.Memory h e k = (tt, keeps_quiet _ log v tt h k)
body_kept log v d (Between from to load) (HandleA.Took entered) h e k =
    let source = life d.src from in
    let item = item_of load in
    let none = took_no_class v source item (item_class_in v source to item) entered e in
    (taken_is_eager log v source to item k none, keeps_took log v source to item h none k)
body_kept log v d (Between from to load) (HandleA.Dropped class') h e k = (tt, keeps_quiet _ log v tt h k)
body_kept log v d (Between from to load) HandleA.AgainEarly h e k = (tt, keeps_quiet _ log v tt h k)
body_kept log v d (Between from to load) HandleA.AgainCopy h e k = (tt, keeps_quiet _ log v tt h k)
body_kept log v d (Between from to load) HandleA.Memory h e k = (tt, keeps_quiet _ log v tt h k)

-- after the answer to a datagram: what it did is eager, and the endpoint keeps it
pub keeps_handled : (log : List Deed) (v : EndpointView) (d : Datagram) → IsEager v.own log → Keeps log v
    → IsEagerDeed v.own log (deed_by_handle d.src d.body (handled_of (body_answer v d d.body)))
    × Keeps (deed_by_handle d.src d.body (handled_of (body_answer v d d.body)) ∷ log) (after_body (body_answer v d d.body) d d.body v)
keeps_handled log v d h k = body_kept log v d d.body (body_answer v d d.body) h refl k
