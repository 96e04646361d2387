-- What an instruction answers by what a port keeps is what the definitions say.
use Rattle.std.proofs.Common.{◌≡◌, ℕ, Bool, true, false, cond, List, length, Some, None, refl, ap, ◌∙◌, sym, subst, ◌⊎◌, inl, inr}
use Rattle.std.specs.Prelude.{not, ◌||◌, nat_lt, is_some}
use Rattle.rdm_lists.specs.Lists.{first_case}
use Rattle.rdm_num.specs.declared.numbers.Connid.{Connid}
use Rattle.rdm_num.specs.declared.numbers.PortNo.{PortNo}
use Rattle.rdm_num.specs.declared.numbers.Life.{Life}
use Rattle.rdm_num.specs.declared.request.SendReq.{SendReq}
use Rattle.rdm_model.specs.declared.job.Job.{Job}
use Rattle.rdm_model.specs.declared.job.Instr.{Instr}
use Rattle.rdm_model.specs.declared.job.Instr.TheVariants.{OpenLife, Insert, Reg, Send, Recv, Cancel, Note, Await, Wait, CloseLife}
use Rattle.rdm_model.specs.declared.answer.Next.{Next}
use Rattle.rdm_model.specs.declared.answer.Next.TheVariants.{Did, Refused, NotYet, Memory}
use Rattle.rdm_model.specs.declared.answer.DidWhat.TheVariants.{Plain, Region}
use Rattle.rdm_model.specs.declared.answer.Why.TheVariants.{NotPosted}
use Rattle.rdm_model.specs.declared.answer.Yet.TheVariants as Yet
use Rattle.rdm_model.specs.Deeds.{Deed, of_life}
use Rattle.rdm_model.specs.Beginnings.{Own}
use Rattle.rdm_model.specs.Notes.{knows_open, was_told}
use Rattle.rdm_model.specs.Answers.{answer_of, answer_by, insert_answer}
use Rattle.rdm_model.specs.Scenes.{Scene, scene}
use Rattle.rdm_model.specs.Local.{own_scene}
use Rattle.rdm_ep.specs.View.{EndpointView, current_in}
use Rattle.rdm_ep.specs.Sending as Ep
use Rattle.rdm_ep.specs.Receiving as Er
use Rattle.rdm_ep.specs.Cancelling as Ec
use Rattle.rdm_ep.specs.Answers.{life_scene, next_of_send, next_of_recv}
use Rattle.rdm_ep.specs.Eager.{IsEager}
use Rattle.rdm_ep.proofs.Instructed.{reg_agrees, wait_agrees, insert_agrees, cancel_agrees}
use Rattle.rdm_ep.proofs.Answered.{send_agrees, recv_agrees}
use Rattle.rdm_port.specs.Views.{PortView, IsPortOf, scene_at}
use Rattle.rdm_port.specs.Kept.{Kept, IsKept, deeds_of, own_at, is_opened, is_told, is_new_life}
use Rattle.rdm_port.specs.Machine.{with_endpoint, is_built_send, greets_inserted, insert_answer_in, machine_answer}
use Rattle.rdm_port.proofs.Counted.{deeds_are, scene_is, OpenFacts, open_facts}
use Rattle.rdm_port.proofs.BuiltDeeds.{eager_of}

-- the machine's answer is that of the definitions, or it wants memory
abbrev pub Agrees : (machine defined : Next) → Type 0
Agrees machine defined = (machine ≡ Memory) ⊎ (defined ≡ machine)

-- the scene of the open life, by its endpoint
abbrev pub open_scene_of : PortView → Connid → EndpointView → Scene
open_scene_of v connid e = life_scene v.ports e.own (deeds_of v) (of_life connid (deeds_of v))

-- the scene of the port is that of its endpoint
pub scene_of_endpoint : (job : Job) (v : PortView) (k : Kept) (connid : Connid) (e : EndpointView) → IsPortOf job v → OpenFacts v k connid e → scene_at job v ≡ open_scene_of v connid e
scene_of_endpoint job v k connid e p f =
    scene_is job v connid p f.open_is ∙ ap (λ (o : Own). life_scene v.ports o (deeds_of v) (of_life connid (deeds_of v))) (sym f.own_is)

-- an instruction that needs an endpoint agrees where it does in the scene of the endpoint
by_endpoint : (job : Job) (v : PortView) (k : Kept) (instr : Instr) (answer : EndpointView → Next) → IsPortOf job v → IsKept v k
    → ((connid : Connid) (e : EndpointView) → OpenFacts v k connid e → Agrees (answer e) (answer_of (open_scene_of v connid e) instr))
    → Agrees (with_endpoint k.endpoint answer) (answer_of (scene_at job v) instr)
by_endpoint job v k instr answer p h agrees =
    (elim k.endpoint as (λ o. k.endpoint ≡ o → Agrees (with_endpoint o answer) (answer_of (scene_at job v) instr)) [
      | None ↦ λ q. inl refl
      | Some e ↦ λ q.
          let f = open_facts v k e h q in
          subst (λ (s : Scene). Agrees (answer e) (answer_of s instr)) (sym (scene_of_endpoint job v k f.0 e p f.1)) (agrees f.0 e f.1)
    ]) refl

-- the deeds of the open life are eager
pub open_eager : (v : PortView) (k : Kept) (connid : Connid) (e : EndpointView) → IsKept v k → OpenFacts v k connid e → IsEager e.own (of_life connid (deeds_of v))
open_eager v k connid e h f = subst (λ (o : Own). IsEager o (of_life connid (deeds_of v))) (sym f.own_is) (eager_of (own_at v) connid (deeds_of v) h.built)

-- the port of the open life
pub open_port : (v : PortView) (k : Kept) (connid : Connid) (e : EndpointView) → OpenFacts v k connid e → e.own.life.port.0 ≡ v.number
unfolding own_at
open_port v k connid e f = ap (λ (o : Own). o.life.port.0) f.own_is

-- an open agrees
open_agrees : (s : Scene) (b : Bool) (connid : Connid) → Agrees (cond b Memory (Did Plain)) (answer_of s (OpenLife connid))
unfolding answer_by insert_answer
open_agrees s true connid = inl refl
open_agrees s false connid = inr refl

-- an insert agrees, by its two tests
insert_cases : (opened other : Bool) → Agrees (cond (not opened) (NotYet Yet.Opened) (cond other Memory (Did Plain))) (cond opened (Did Plain) (NotYet Yet.Opened))
insert_cases true true = inl refl
insert_cases true false = inr refl
insert_cases false other = inr refl

-- an insert agrees
insert_same : (v : PortView) (k : Kept) (l : Life) (connid : Connid) (e : EndpointView) → IsKept v k → OpenFacts v k connid e
    → Agrees (insert_answer_in k l e) (answer_of (open_scene_of v connid e) (Insert l))
unfolding insert_answer_in
insert_same v k l connid e h f =
    let log = of_life connid (deeds_of v) in
    let says = insert_agrees v.ports (deeds_of v) log e l (open_eager v k connid e h f) in
    let known : knows_open e.own.life.port.0 (deeds_of v) l ≡ is_opened k.opened l = ap (λ (n : ℕ). knows_open n (deeds_of v) l) (open_port v k connid e f) ∙ sym (h.opened_are l) in
    subst (λ (a : Next). Agrees (insert_answer_in k l e) a) (sym (says ∙ ap (λ (b : Bool). cond b (Did Plain) (NotYet Yet.Opened)) known))
    (insert_cases (is_opened k.opened l) (Ep.supersedes l (current_in e l.port.0) || greets_inserted e))

-- a send agrees
send_same : (v : PortView) (req : SendReq) (b : Bool) (connid : Connid) (k : Kept) (e : EndpointView) → OpenFacts v k connid e
    → Agrees (cond b (next_of_send (Ep.send_answer e req)) Memory) (answer_of (open_scene_of v connid e) (Send req))
unfolding answer_by insert_answer
send_same v req true connid k e f = inr (send_agrees v.ports (deeds_of v) (of_life connid (deeds_of v)) e req f.keeps)
send_same v req false connid k e f = inl refl

-- a word is awaited until it was told
await_same : (b : Bool) → cond (not b) (NotYet Yet.Await) (Did Plain) ≡ cond b (Did Plain) (NotYet Yet.Await)
await_same true = refl
await_same false = refl

-- the deeds of the scene
scene_deeds : (job : Job) (v : PortView) → IsPortOf job v → (scene_at job v).port_log ≡ deeds_of v
unfolding scene_at own_scene scene
scene_deeds job v p = deeds_are job v p

-- an await agrees
await_agrees : (job : Job) (v : PortView) (k : Kept) (from : PortNo) (what : ℕ) → IsPortOf job v → IsKept v k
    → answer_of (scene_at job v) (Await from what) ≡ cond (is_told k.told from.0 what) (Did Plain) (NotYet Yet.Await)
unfolding answer_by insert_answer first_case
await_agrees job v k from what p h =
    let told : was_told (scene_at job v).port_log from.0 what ≡ is_told k.told from.0 what = ap (λ (ds : List Deed). was_told ds from.0 what) (scene_deeds job v p) ∙ sym (h.told_are from.0 what) in
    ap (λ (b : Bool). cond (not b) (NotYet Yet.Await) (Did Plain)) told ∙ await_same (is_told k.told from.0 what)

-- what an instruction answers by what the port keeps is what it answers, or it wants memory
pub answer_agrees : (job : Job) (v : PortView) (k : Kept) (instr : Instr) → IsPortOf job v → IsKept v k
    → (machine_answer v k instr ≡ Memory) ⊎ (answer_of (scene_at job v) instr ≡ machine_answer v k instr)
unfolding machine_answer answer_by insert_answer
answer_agrees job v k (OpenLife connid) p h = open_agrees (scene_at job v) (is_some k.endpoint || not (is_new_life k.opened v connid)) connid
answer_agrees job v k (Insert l) p h = by_endpoint job v k (Insert l) (insert_answer_in k l) p h (λ connid e f. insert_same v k l connid e h f)
answer_agrees job v k (Reg content) p h =
    by_endpoint job v k (Reg content) (λ e. Did (Region (record { 0 = length e.regions }))) p h
    (λ connid e f. inr (reg_agrees v.ports (deeds_of v) (of_life connid (deeds_of v)) e content f.keeps))
answer_agrees job v k (Send req) p h =
    by_endpoint job v k (Send req) (λ e. cond (is_built_send v req) (next_of_send (Ep.send_answer e req)) Memory) p h (λ connid e f. send_same v req (is_built_send v req) connid k e f)
answer_agrees job v k (Recv req) p h =
    by_endpoint job v k (Recv req) (λ e. next_of_recv (Er.recv_answer e req)) p h
    (λ connid e f. inr (recv_agrees v.ports (deeds_of v) (of_life connid (deeds_of v)) e req f.keeps))
answer_agrees job v k (Cancel recv) p h =
    by_endpoint job v k (Cancel recv) (λ e. cond (Ec.waits_for_message e recv.0) (Did Plain) (Refused NotPosted)) p h
    (λ connid e f. inr (cancel_agrees v.ports (deeds_of v) (of_life connid (deeds_of v)) e recv (open_eager v k connid e h f) f.keeps))
answer_agrees job v k (Note to what) p h = inr refl
answer_agrees job v k (Await from what) p h = inr (await_agrees job v k from what p h)
answer_agrees job v k (Wait count) p h =
    by_endpoint job v k (Wait count) (λ e. cond (nat_lt e.polled count) (NotYet (Yet.Wait e.polled count)) (Did Plain)) p h
    (λ connid e f. inr (wait_agrees v.ports (deeds_of v) (of_life connid (deeds_of v)) e count f.keeps))
answer_agrees job v k CloseLife p h = inl refl
