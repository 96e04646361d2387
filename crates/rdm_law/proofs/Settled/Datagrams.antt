-- Each due item of a life went in a datagram that its port pushed.
use Rattle.std.proofs.Common.{◌≡◌, ℕ, ◌<◌, ◌≤◌, List, [], ◌∷◌, Option, Some, refl, arith, inl, inr, ◌∙◌, ap, subst}
use Rattle.std.specs.Prelude.{slice_get}
use Rattle.rdm_num.specs.declared.numbers.Life.{Life}
use Rattle.rdm_num.specs.declared.numbers.Connid.{Connid}
use Rattle.rdm_num.specs.declared.numbers.PortNo.{PortNo}
use Rattle.rdm_num.specs.declared.numbers.Stamp.{Stamp}
use Rattle.rdm_wire.specs.declared.Datagram.{Datagram}
use Rattle.rdm_wire.specs.declared.Body.{Body}
use Rattle.rdm_wire.specs.declared.Body.TheVariants.{Note, Between}
use Rattle.rdm_wire.specs.declared.Load.{Load}
use Rattle.rdm_model.specs.declared.job.Job.{Job}
use Rattle.rdm_model.specs.declared.job.Instr.{Instr}
use Rattle.rdm_model.specs.declared.entry.Entry.{Entry}
use Rattle.rdm_model.specs.declared.entry.Act.{Act}
use Rattle.rdm_model.specs.declared.entry.Act.TheVariants.{Next, Push, Handle, Poll}
use Rattle.rdm_model.specs.declared.answer.Next.{Next as Answer}
use Rattle.rdm_model.specs.declared.answer.Next.TheVariants.{Did as DidAnswer}
use Rattle.rdm_model.specs.declared.answer.Handled.{Handled}
use Rattle.rdm_model.specs.declared.answer.Handled.TheVariants.{Took as TookAnswer}
use Rattle.rdm_model.specs.Deeds.{Pushed, Item, deed_of, deed_by_next, deed_by_push, deed_by_handle, deeds, of_life}
use Rattle.rdm_model.specs.Beginnings.{rank_of, port_count, own_of}
use Rattle.rdm_model.specs.Dues.{Due, due}
use Rattle.rdm_model.specs.Going.{Goes, due_going, Bears, GoesNext}
use Rattle.rdm_model.specs.Classes.{class_of}
use Rattle.rdm_model.specs.Scenes.{Scene, deeds_at}
use Rattle.rdm_model.specs.Steps.{clock, stamp_after, Does}
use Rattle.rdm_model.specs.Local.{heard_by, own_scene, Local}
use Rattle.rdm_model.specs.Wire.{PushedIn}
use Rattle.rdm_law.proofs.Lives.Lives.{WasDueAt, life_of, life_scene, at_of_life, opened_scene, push_is, IsPush}

-- the datagram of a life's push to another
pub record Carrying (job : Job) (port : ℕ) (c : Connid) (to : Life) (item : Item) (log : List Entry) : Type 0 where
  pub datagram : Datagram
  pub pushed : PushedIn datagram log
  pub src_is : datagram.src.0 ≡ port
  pub dst_is : datagram.dst ≡ to.port
  pub load : Load
  pub body_is : datagram.body ≡ Between c to.connid load
  pub bears : Bears item load
  pub stamp_is : datagram.stamp.0 ≤ clock job log

-- each entry has a greater stamp
pub stamp_rises : (now : ℕ) (act : Act) → now < stamp_after now act
unfolding stamp_after
stamp_rises now (Handle d answer) = omega arith
stamp_rises now _ = omega arith

-- a datagram that was pushed stays pushed
carrying_later : (job : Job) (port : ℕ) (c : Connid) (to : Life) (item : Item) (e : Entry) (before : List Entry) → e.stamp.0 ≡ stamp_after (clock job before) e.act
    → Carrying job port c to item before → Carrying job port c to item (e ∷ before)
unfolding clock
carrying_later job port c to item e before s r =
    let rises = stamp_rises (clock job before) e.act in
    let was = r.stamp_is in
    record {
      datagram = r.datagram;
      pushed = inr r.pushed;
      src_is = r.src_is;
      dst_is = r.dst_is;
      load = r.load;
      body_is = r.body_is;
      bears = r.bears;
      stamp_is = omega arith;
    }

-- an instruction pushes nothing
next_pushed : (o : Option Instr) (answer : Answer) → deed_by_next o answer ≡ Pushed → ⊥
unfolding deed_by_next
next_pushed (Some instr) (DidAnswer what) h = cc
next_pushed _ _ h = cc

-- nor does the handling of a datagram
handle_pushed : (src : PortNo) (body : Body) (answer : Handled) → deed_by_handle src body answer ≡ Pushed → ⊥
unfolding deed_by_handle
handle_pushed src (Note note) (TookAnswer entered) h = cc
handle_pushed src (Between from to load) (TookAnswer entered) h = cc
handle_pushed src _ _ h = cc

-- a push between lives
body_pushed : (body : Body) → deed_by_push body ≡ Pushed → (from to : Connid) × (load : Load) × (body ≡ Between from to load)
unfolding deed_by_push
body_pushed (Note note) h = cc
body_pushed (Between from to load) h = (from, to, load, refl)

-- a deed that pushes is the push of a datagram between lives
pub act_pushed : (ops : List Instr) (act : Act) → deed_of ops act ≡ Pushed → (d : Datagram) × (from to : Connid) × (load : Load) × (act ≡ Push d) × (d.body ≡ Between from to load)
unfolding deed_of
act_pushed ops (Next index op answer) h = absurd (next_pushed (slice_get ops index) answer h)
act_pushed ops (Push d) h = let b = body_pushed d.body h in (d, b.0, b.1, b.2, refl, b.3)
act_pushed ops (Handle d answer) h = absurd (handle_pushed d.src d.body answer h)
act_pushed ops (Poll c) h = cc

-- the newest push carries the due item
carrying_now : (job : Job) (port : ℕ) (c : Connid) (to : Life) (item : Item) (t : Due) (e : Entry) (before : List Entry) (from to' : Connid) (load : Load) (d : Datagram)
    → e.act ≡ Push d → e.port.0 ≡ port → d.body ≡ Between from to' load → d.src ≡ e.port → d.stamp ≡ e.stamp
    → (is : IsPush (own_of job (life_of port c)) (of_life c (deeds_at job port before)) d from to' load)
    → due (own_of job (life_of port c)) (heard_by (own_of job (life_of port c)).limits.first (of_life c (deeds_at job port before))) (of_life c (deeds_at job port before)) ≡ Some t
    → due_going (Some t) ≡ Some (Goes to item) → Carrying job port c to item (e ∷ before)
unfolding own_of clock
carrying_now job port c to item t e before from to' load d act p body src stamp is now g =
    let out = is.out.is in
    let gives = is.out.gives in
    let same : is.out.due' ≡ t = cc in
    let goes : Goes is.dest is.item ≡ Goes to item = (let x = ap (λ (u : Due). due_going (Some u)) same in cc) in
    let dest : is.dest ≡ to = cc in
    let it : is.item ≡ item = cc in
    record {
      datagram = d;
      pushed = inl act;
      src_is = ap (λ (x : PortNo). x.0) src ∙ p;
      dst_is = is.dst_is ∙ ap (λ (l : Life). l.port) dest;
      load = load;
      body_is = body ∙ ap (λ (x : Connid). Between x to' load) is.from_is ∙ ap (λ (x : Connid). Between c x load) (is.to_is ∙ ap (λ (l : Life). l.connid) dest);
      bears = subst (λ (i : Item). Bears i load) it is.bears;
      stamp_is = let s = ap (λ (x : Stamp). x.0) stamp in omega arith;
    }

-- each due item of a life went in a datagram
pub was_due_carried : (job : Job) (port : ℕ) (c : Connid) (to : Life) (item : Item) (t : Due) (k : ℕ) (log : List Entry) → Local job port log
    → WasDueAt (own_of job (life_of port c)) t k (of_life c (deeds_at job port log)) → due_going (Some t) ≡ Some (Goes to item) → Carrying job port c to item log
unfolding of_life deeds_at deeds
was_due_carried job port c to item t k [] l h g = elim h [ ]
was_due_carried job port c to item t k (e ∷ before) l h g =
    at_of_life (λ log. WasDueAt (own_of job (life_of port c)) t k log → Carrying job port c to item (e ∷ before)) c (deed_of (rank_of job port).ops e.act) (deeds_at job port before)
    (λ now h. elim h [
      | inl a ↦ (
          let p = act_pushed (rank_of job port).ops e.act a.0 in
          let does : Does job class_of (own_scene job port (deeds_at job port before)) before e (Push p.0) = (let P : Act → Type 0 = λ x. Does job class_of (own_scene job port (deeds_at job port before)) before e x in subst P p.4 l.2.2) in
          let next : GoesNext (life_scene (port_count job) (own_of job (life_of port c)) (deeds_at job port before) (of_life c (deeds_at job port before))) p.0 =
          subst (λ (s : Scene). GoesNext s p.0) (opened_scene job port c (deeds_at job port before) now) does.3 in
          let is = push_is (port_count job) (own_of job (life_of port c)) (deeds_at job port before) (of_life c (deeds_at job port before)) p.0 p.1 p.2 p.3 p.5 next in
          carrying_now job port c to item t e before p.1 p.2 p.3 p.0 p.4 l.1 p.5 does.0 does.2 is a.1 g)
      | inr a ↦ carrying_later job port c to item e before l.2.0 (was_due_carried job port c to item t k before l.0 a g)
    ])
    (λ other h. carrying_later job port c to item e before l.2.0 (was_due_carried job port c to item t k before l.0 h g))
    h
