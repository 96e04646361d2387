-- The deeds of a life, by themselves.
use Rattle.std.proofs.Common.{◌≡◌, ℕ, Bool, true, false, cond, List, [], ◌∷◌, length, Option, Some, None, refl, ◌⊎◌, sym, ◌∙◌, ap, subst}
use Rattle.std.specs.Prelude.{not, slice_get}
use Rattle.std.proofs.lemmas.Bool.{eq-eqb, eqb-true, not-false}
use Rattle.rdm_lists.specs.Lists.{first_case}
use Rattle.rdm_num.specs.Lives.{life}
use Rattle.rdm_num.specs.declared.numbers.Connid.{Connid}
use Rattle.rdm_num.specs.declared.numbers.Life.{Life}
use Rattle.rdm_wire.specs.declared.Datagram.{Datagram}
use Rattle.rdm_wire.specs.declared.Body.{Body}
use Rattle.rdm_wire.specs.declared.Body.TheVariants.{Note, Between}
use Rattle.rdm_wire.specs.declared.Load.{Load}
use Rattle.rdm_model.specs.declared.job.Job.{Job}
use Rattle.rdm_model.specs.declared.job.Instr.{Instr}
use Rattle.rdm_model.specs.declared.answer.DidWhat.{DidWhat}
use Rattle.rdm_model.specs.declared.answer.Next.{Next as Answer}
use Rattle.rdm_model.specs.declared.answer.Next.TheVariants.{Did as DidAnswer}
use Rattle.rdm_model.specs.declared.answer.Handled.{Handled}
use Rattle.rdm_model.specs.declared.answer.Handled.TheVariants.{Took as TookAnswer}
use Rattle.rdm_model.specs.declared.answer.Class.{Class}
use Rattle.rdm_model.specs.declared.answer.Class.TheVariants.{ToOther}
use Rattle.rdm_model.specs.declared.answer.Entered.{Entered}
use Rattle.rdm_model.specs.declared.entry.Entry.{Entry}
use Rattle.rdm_model.specs.declared.entry.Act.{Act}
use Rattle.rdm_model.specs.declared.entry.Act.TheVariants.{Next, Push, Handle, Poll}
use Rattle.rdm_model.specs.Deeds.{Deed, Did, PushedNote, Pushed, TookNote, Took, Polled, Nothing, Item, item_of, deed_by_next, deed_by_push, deed_by_handle, deed_of, deeds, open_life, is_connid, of_life, of_open_life}
use Rattle.rdm_model.specs.Beginnings.{Own, rank_of, port_count, life_at, own_of}
use Rattle.rdm_model.specs.Notes.{OwedNote, next_note}
use Rattle.rdm_model.specs.Dues.{Due, due}
use Rattle.rdm_num.specs.declared.completion.Completion.{Completion}
use Rattle.rdm_model.specs.Completions.{completions, poll_count}
use Rattle.rdm_model.specs.Scenes.{Scene, scene, deeds_at}
use Rattle.rdm_model.specs.Answers.{answer_of}
use Rattle.rdm_model.specs.Going.{Going, GoesNote, Goes, due_going, life_going, note_going, going, Bears, IsGoing, GoesNext}
use Rattle.rdm_model.specs.Classes.{item_class, body_class, class_of, item_class_by}
use Rattle.rdm_model.specs.Takes.{class_answer, handled_answer}
use Rattle.rdm_model.specs.Steps.{Does}
use Rattle.rdm_model.specs.Local.{heard_by, own_scene, Local}
use Rattle.rdm_num.proofs.Lives.{connid_is}

-- the scene of a life that is open, by what it took itself
abbrev pub life_scene : (ports : ℕ) → Own → (port_log log : List Deed) → Scene
life_scene ports own port_log log =
    record { ports = ports; now = Some own.life.connid; own = own; port_log = port_log; log = log; ms = heard_by own.limits.first log }

-- what a deed is to the life that did it, after those deeds of the life
abbrev pub LifeStep : Own → List Deed → Deed → Type 0
LifeStep own log (Did instr) = (ports : ℕ) × (port_log : List Deed) × (what : DidWhat) × (answer_of (life_scene ports own port_log log) instr ≡ DidAnswer what)
LifeStep own log Pushed = (t : Due) × (due own (heard_by own.limits.first log) log ≡ Some t)
LifeStep own log (Took from item) =
    (ports : ℕ) × (port_log : List Deed) × (item_class (life_scene ports own port_log log) from own.life.connid item ≡ None)
LifeStep own log PushedNote = Unit {0}
LifeStep own log (TookNote from note) = Unit {0}
LifeStep own log Polled = (c : Completion) × (slice_get (completions own (heard_by own.limits.first log) log) (poll_count log) ≡ Some c)
LifeStep own log Nothing = Unit {0}

-- each deed is one that the life may do, by what it took itself
abbrev pub LifeLocal : Own → List Deed → Type 0
LifeLocal own [] = Unit {0}
LifeLocal own (d ∷ log) = LifeLocal own log × LifeStep own log d

-- that due item was pushed, after so many deeds
abbrev pub WasDueAt : Own → Due → ℕ → List Deed → Type 0
WasDueAt own t k [] = ⊥
WasDueAt own t k (d ∷ before) =
    ((d ≡ Pushed) × (due own (heard_by own.limits.first before) before ≡ Some t) × (k ≡ length before)) ⊎ WasDueAt own t k before

-- the life of a port with that identifier
abbrev pub life_of : ℕ → Connid → Life
life_of port connid = record { port = record { 0 = port }; connid = connid }

-- an identifier that is open
pub is_connid-true : (o : Option Connid) (c : Connid) → is_connid o c ≡ true → o ≡ Some c
unfolding is_connid
is_connid-true None c h = cc
is_connid-true (Some d) c h = ap Some (connid_is d c (eqb-true d.0 c.0 h))

-- the identifier that is open passes the test
pub is_connid-from : (o : Option Connid) (c : Connid) → o ≡ Some c → is_connid o c ≡ true
unfolding is_connid
is_connid-from o c h = rw h (eq-eqb c.0 c.0 refl)

-- what holds of the deeds of a life as the port's log is longer by a deed
pub at_of_life : (P : List Deed → Type 0) (connid : Connid) (d : Deed) (before : List Deed)
    → (open_life before ≡ Some connid → P (d ∷ of_life connid before)) → (is_connid (open_life before) connid ≡ false → P (of_life connid before))
    → P (of_life connid (d ∷ before))
unfolding of_life
at_of_life P connid d before same other =
    elim (is_connid (open_life before) connid) as (λ b. is_connid (open_life before) connid ≡ b → P (cond b (d ∷ of_life connid before) (of_life connid before))) [
      | true ↦ λ is. same (is_connid-true (open_life before) connid is)
      | false ↦ λ is. other is
    ] refl

-- the scene of a port while a life is open
pub opened_scene : (job : Job) (port : ℕ) (connid : Connid) (log : List Deed) → open_life log ≡ Some connid
    → own_scene job port log ≡ life_scene (port_count job) (own_of job (life_of port connid)) log (of_life connid log)
unfolding own_scene scene life_at of_open_life own_of
opened_scene job port connid log h = rw h refl

-- what a due item gives is all that is asked of a push between lives
pub record GoesOut (own : Own) (log : List Deed) (to : Life) (item : Item) : Type 0 where
  pub due' : Due
  pub is : due own (heard_by own.limits.first log) log ≡ Some due'
  pub gives : due_going (Some due') ≡ Some (Goes to item)

-- what goes out between lives is of a due item
due_goes : (o : Option Due) (to : Life) (item : Item) → due_going o ≡ Some (Goes to item) → (t : Due) × (o ≡ Some t) × (due_going (Some t) ≡ Some (Goes to item))
unfolding due_going
due_goes None to item h = cc
due_goes (Some t) to item h = (t, refl, h)

-- what goes out between lives goes where no note does
pub note_goes : (o : Option OwedNote) (others : Option Going) (to : Life) (item : Item) → note_going o others ≡ Some (Goes to item) → others ≡ Some (Goes to item)
unfolding note_going
note_goes None others to item h = h
note_goes (Some note) others to item h = cc

-- what goes out of an open life is of its next due item
goes_out : (ports : ℕ) (own : Own) (port_log log : List Deed) (to : Life) (item : Item)
    → going (life_scene ports own port_log log) ≡ Some (Goes to item) → GoesOut own log to item
unfolding going life_going
goes_out ports own port_log log to item h =
    let g = note_goes (next_note ports own.life.port.0 port_log) (due_going (due own (heard_by own.limits.first log) log)) to item h in
    let r = due_goes (due own (heard_by own.limits.first log) log) to item g in
    record { due' = r.0; is = r.1; gives = r.2 }

-- a push between lives is of the life's next due item
pub record IsPush (own : Own) (log : List Deed) (d : Datagram) (from to : Connid) (load : Load) : Type 0 where
  pub dest : Life
  pub item : Item
  pub out : GoesOut own log dest item
  pub dst_is : d.dst ≡ dest.port
  pub to_is : to ≡ dest.connid
  pub from_is : from ≡ own.life.connid
  pub bears : Bears item load

-- a push of what goes between lives
push_is_going : (ports : ℕ) (own : Own) (port_log log : List Deed) (d : Datagram) (from to : Connid) (load : Load) (g : Going)
    → d.body ≡ Between from to load → going (life_scene ports own port_log log) ≡ Some g → IsGoing (life_scene ports own port_log log) g d
    → IsPush own log d from to load
push_is_going ports own port_log log d from to load (GoesNote note) b is h = let x = h.1 in cc
push_is_going ports own port_log log d from to load (Goes dest item) b is h =
    let bd : Between from to load ≡ Between own.life.connid dest.connid h.1.0 = sym b ∙ h.1.1 in
    let e : load ≡ h.1.0 = cc in
    record {
      dest = dest;
      item = item;
      out = goes_out ports own port_log log dest item is;
      dst_is = h.0;
      to_is = cc;
      from_is = cc;
      bears = (let B : Load → Type 0 = λ x. Bears item x in subst B (sym e) h.1.2);
    }

-- a push between lives that is next is of the next due item of the open life
pub push_is : (ports : ℕ) (own : Own) (port_log log : List Deed) (d : Datagram) (from to : Connid) (load : Load)
    → d.body ≡ Between from to load → GoesNext (life_scene ports own port_log log) d → IsPush own log d from to load
push_is ports own port_log log d from to load b n = push_is_going ports own port_log log d from to load n.0 b n.1 n.2

-- an instruction that did is one that the life may do
next_step : (ports : ℕ) (own : Own) (port_log log : List Deed) (o : Option Instr) (answer : Answer) (instr : Instr)
    → o ≡ Some instr → answer ≡ answer_of (life_scene ports own port_log log) instr → LifeStep own log (deed_by_next o answer)
unfolding deed_by_next
next_step ports own port_log log (Some i) (DidAnswer what) instr is h =
    let e : instr ≡ i = cc in
    (ports, port_log, what, subst (λ x. answer_of (life_scene ports own port_log log) x ≡ DidAnswer what) e (sym h))
next_step ports own port_log log _ answer instr is h = tt

-- a push is of what is next
push_step : (ports : ℕ) (own : Own) (port_log log : List Deed) (d : Datagram) (body : Body) → d.body ≡ body → GoesNext (life_scene ports own port_log log) d
    → LifeStep own log (deed_by_push body)
unfolding deed_by_push
push_step ports own port_log log d (Note note) b n = tt
push_step ports own port_log log d (Between from to load) b n =
    let p = push_is ports own port_log log d from to load b n in
    (p.out.due', p.out.is)

-- where no case holds, the first one does not
pub first_none : {A : Type 0} (b : Bool) (x : A) (cs : List (Bool × Option A)) → first_case ((b, Some x) ∷ cs) None ≡ None
    → (b ≡ false) × (first_case cs None ≡ None)
unfolding first_case
first_none true x cs h = cc
first_none false x cs h = (refl, h)

-- a datagram that was taken has no class
pub taken_class : (s : Scene) (d : Datagram) (c : Option Class) (entered : Option Entered) → class_answer s d c ≡ TookAnswer entered → c ≡ None
unfolding class_answer
taken_class s d None entered h = refl
taken_class s d (Some class') entered h = cc

-- what a life takes is for it
pub item_to : (s : Scene) (from : Life) (to : Connid) (item : Item) → item_class s from to item ≡ None → is_connid s.now to ≡ true
unfolding item_class_by
item_to s from to item h = not-false (is_connid s.now to) (first_none (not (is_connid s.now to)) ToOther _ h).0

-- a datagram that is taken has no class
handle_step : (ports : ℕ) (own : Own) (port_log log : List Deed) (d : Datagram) (body : Body) (answer : Handled) → d.body ≡ body
    → answer ≡ handled_answer class_of (life_scene ports own port_log log) d → LifeStep own log (deed_by_handle d.src body answer)
unfolding deed_by_handle handled_answer class_of body_class is_connid
handle_step ports own port_log log d (Between from to load) (TookAnswer entered) b h =
    let s = life_scene ports own port_log log in
    let none : body_class s d d.body ≡ None = taken_class s d (body_class s d d.body) entered (sym h) in
    let item : item_class s (life d.src from) to (item_of load) ≡ None = subst (λ x. body_class s d x ≡ None) b none in
    let e : own.life.connid ≡ to = connid_is own.life.connid to (eqb-true own.life.connid.0 to.0 (item_to s (life d.src from) to (item_of load) item)) in
    (ports, port_log, subst (λ x. item_class s (life d.src from) x (item_of load) ≡ None) (sym e) item)
handle_step ports own port_log log d (Note note) (TookAnswer entered) b h = tt
handle_step ports own port_log log d _ _ b h = tt

-- an entry that fits is one that the open life may make
pub life_step : (job : Job) (port : ℕ) (connid : Connid) (ports : ℕ) (port_log log : List Deed) (before : List Entry) (e : Entry) (act : Act) → e.port.0 ≡ port
    → Does job class_of (life_scene ports (own_of job (life_of port connid)) port_log log) before e act
    → LifeStep (own_of job (life_of port connid)) log (deed_of (rank_of job port).ops act)
unfolding deed_of
life_step job port connid ports port_log log before e (Next index op answer) p h =
    let at : slice_get (rank_of job port).ops index ≡ Some h.1.0 = subst (λ n. slice_get (rank_of job n).ops index ≡ Some h.1.0) p h.1.1 in
    next_step ports (own_of job (life_of port connid)) port_log log (slice_get (rank_of job port).ops index) answer h.1.0 at h.1.3
life_step job port connid ports port_log log before e (Push d) p h = push_step ports (own_of job (life_of port connid)) port_log log d d.body refl h.3
life_step job port connid ports port_log log before e (Handle d answer) p h =
    handle_step ports (own_of job (life_of port connid)) port_log log d d.body answer refl h.0
life_step job port connid ports port_log log before e (Poll c) p h = (c, h)

-- the deeds of each life are right by themselves
pub life_local : (job : Job) (port : ℕ) (connid : Connid) (log : List Entry) → Local job port log
    → LifeLocal (own_of job (life_of port connid)) (of_life connid (deeds_at job port log))
unfolding of_life deeds_at deeds
life_local job port connid [] l = tt
life_local job port connid (e ∷ before) l =
    let own = own_of job (life_of port connid) in
    let port_log = deeds_at job port before in
    let earlier : LifeLocal own (of_life connid port_log) = life_local job port connid before l.0 in
    at_of_life (λ log. LifeLocal own log) connid (deed_of (rank_of job port).ops e.act) port_log
    (λ s.
    let does : Does job class_of (life_scene (port_count job) own port_log (of_life connid port_log)) before e e.act =
    subst (λ x. Does job class_of x before e e.act) (opened_scene job port connid port_log s) l.2.2 in
    (earlier, life_step job port connid (port_count job) port_log (of_life connid port_log) before e e.act l.1 does))
    (λ s. earlier)
