-- What a port answers to a datagram, by what it keeps, is what the definitions say.
use Rattle.std.proofs.Common.{◌≡◌, false, List, Option, Some, None, refl, ap, ◌∙◌, sym, subst}
use Rattle.rdm_lists.specs.Lists.{first_case}
use Rattle.rdm_num.specs.declared.numbers.Connid.{Connid}
use Rattle.rdm_wire.specs.declared.Body.{Body}
use Rattle.rdm_wire.specs.declared.Body.TheVariants.{Note, Between}
use Rattle.rdm_wire.specs.declared.Datagram.{Datagram}
use Rattle.rdm_model.specs.declared.job.Job.{Job}
use Rattle.rdm_model.specs.Deeds.{Deed, open_life, is_connid, of_life}
use Rattle.rdm_model.specs.Beginnings.{Own}
use Rattle.rdm_model.specs.Scenes.{Scene, scene}
use Rattle.rdm_model.specs.Local.{own_scene}
use Rattle.rdm_model.specs.Classes.{body_class, class_of, item_class_by}
use Rattle.rdm_model.specs.Takes.{taken_answer, class_answer, handled_answer, body_needs_place, is_again_early}
use Rattle.rdm_ep.specs.View.{EndpointView}
use Rattle.rdm_ep.specs.Handling.{body_answer}
use Rattle.rdm_ep.specs.Answers.{handled_of, is_early, IsEagerBody}
use Rattle.rdm_ep.proofs.Handles.{handle_agrees as endpoint_agrees}
use Rattle.rdm_port.specs.Views.{PortView, IsPortOf, scene_at}
use Rattle.rdm_port.specs.Kept.{Kept, IsKept, deeds_of}
use Rattle.rdm_port.specs.Machine.{life_answer, machine_handled, waits_in}
use Rattle.rdm_port.specs.Built.{IsBuiltBody, IsBuiltDatagram}
use Rattle.rdm_port.proofs.Counted.{deeds_are, OpenFacts, open_facts, none_open}
use Rattle.rdm_port.proofs.NextAgrees.{open_scene_of, scene_of_endpoint, open_eager}

-- the datagram waits in that scene where it waits by what is kept, and else the answer is that of the machine
pub record HandleAgrees (s : Scene) (k : Kept) (d : Datagram) (body : Body) : Type 0 where
  pub early : is_again_early class_of s d ≡ waits_in k.endpoint d
  pub handled : waits_in k.endpoint d ≡ false → handled_answer class_of s d ≡ machine_handled k d body

-- what is built for a life is eager for its endpoint
built_eager : (own : Own) (log : List Deed) (d : Datagram) (body : Body) → IsBuiltBody own log d body → IsEagerBody own log d body
built_eager own log d (Note note) h = tt
built_eager own log d (Between from to load) h = h

-- the machine answers as the endpoint does
machine_open : (k : Kept) (e : EndpointView) (d : Datagram) (body : Body) → d.body ≡ body → k.endpoint ≡ Some e → handled_of (body_answer e d d.body) ≡ machine_handled k d body
unfolding machine_handled life_answer body_answer handled_of
machine_open k e d (Note note) b q = ap (λ (x : Body). handled_of (body_answer e d x)) b
machine_open k e d (Between from to load) b q = rw q refl

-- where no life is open, a note is taken and all else is to another life
closed_agrees : (s : Scene) (k : Kept) (d : Datagram) (body : Body) → d.body ≡ body → s.now ≡ None → k.endpoint ≡ None → HandleAgrees s k d body
unfolding is_again_early handled_answer class_of body_class item_class_by first_case is_connid class_answer taken_answer body_needs_place machine_handled life_answer waits_in
closed_agrees s k d (Note note) b n q = record { early = rw (b, q) refl; handled = λ w. rw b refl }
closed_agrees s k d (Between from to load) b n q = record { early = rw (b, q, n) refl; handled = λ w. rw (b, q, n) refl }

-- where a life is open, its endpoint answers
open_agrees : (v : PortView) (k : Kept) (connid : Connid) (e : EndpointView) (d : Datagram) → IsKept v k → k.endpoint ≡ Some e → OpenFacts v k connid e
    → IsBuiltBody (open_scene_of v connid e).own (open_scene_of v connid e).log d d.body → HandleAgrees (open_scene_of v connid e) k d d.body
unfolding waits_in
open_agrees v k connid e d h q f built =
    let log = of_life connid (deeds_of v) in
    let a = endpoint_agrees v.ports (deeds_of v) log e d (open_eager v k connid e h f) (built_eager e.own log d d.body built) f.keeps in
    let waits : waits_in k.endpoint d ≡ is_early (body_answer e d d.body) = ap (λ (o : Option EndpointView). waits_in o d) q in
    record { early = a.early ∙ sym waits; handled = λ w. a.handled (sym waits ∙ w) ∙ machine_open k e d d.body refl q }

-- the open life of the scene of the port
now_is : (job : Job) (v : PortView) → IsPortOf job v → (scene_at job v).now ≡ open_life (deeds_of v)
unfolding scene_at own_scene scene
now_is job v p = ap open_life (deeds_are job v p)

-- what a port answers to a datagram that is built
pub handle_agrees : (job : Job) (v : PortView) (k : Kept) (d : Datagram) → IsPortOf job v → IsKept v k → IsBuiltDatagram job v d → HandleAgrees (scene_at job v) k d d.body
handle_agrees job v k d p h built =
    (elim k.endpoint as (λ o. k.endpoint ≡ o → HandleAgrees (scene_at job v) k d d.body) [
      | None ↦ λ q. closed_agrees (scene_at job v) k d d.body refl (now_is job v p ∙ none_open v k h q) q
      | Some e ↦ λ q.
          let f = open_facts v k e h q in
          let is = scene_of_endpoint job v k f.0 e p f.1 in
          subst (λ (s : Scene). HandleAgrees s k d d.body) (sym is)
          (open_agrees v k f.0 e d h q f.1 (subst (λ (s : Scene). IsBuiltBody s.own s.log d d.body) is built))
    ]) refl
