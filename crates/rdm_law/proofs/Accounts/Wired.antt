-- What a life took was pushed by the life that it names.
use Rattle.std.proofs.Common.{◌≡◌, ℕ, true, List, [], ◌∷◌, Option, Some, None, refl, ◌⊎◌, inl, inr, sym, ◌∙◌, ap, subst}
use Rattle.std.specs.Prelude.{IsTrue, slice_get}
use Rattle.std.proofs.lemmas.Bool.{eqb-true}
use Rattle.rdm_lists.specs.Lists.{Member}
use Rattle.rdm_num.specs.Lives.{life}
use Rattle.rdm_num.specs.declared.numbers.PortNo.{PortNo}
use Rattle.rdm_num.specs.declared.numbers.Connid.{Connid}
use Rattle.rdm_num.specs.declared.numbers.Life.{Life}
use Rattle.rdm_pkt.proofs.ReadRtm.{packet_is_read}
use Rattle.rdm_wire.specs.declared.Datagram.{Datagram}
use Rattle.rdm_wire.specs.declared.Body.{Body}
use Rattle.rdm_wire.specs.declared.Body.TheVariants.{Note, Between}
use Rattle.rdm_wire.specs.declared.Load.{Load}
use Rattle.rdm_wire.specs.declared.Load.TheVariants.{Packet as PacketLoad, Ask, Given}
use Rattle.rdm_model.specs.declared.job.Job.{Job}
use Rattle.rdm_model.specs.declared.job.Instr.{Instr}
use Rattle.rdm_model.specs.declared.answer.Next.{Next as Answer}
use Rattle.rdm_model.specs.declared.answer.Next.TheVariants.{Did as DidAnswer}
use Rattle.rdm_model.specs.declared.answer.Entered.{Entered}
use Rattle.rdm_model.specs.declared.answer.Handled.{Handled}
use Rattle.rdm_model.specs.declared.answer.Handled.TheVariants.{Took as TookAnswer}
use Rattle.rdm_model.specs.declared.entry.Entry.{Entry}
use Rattle.rdm_model.specs.declared.entry.Act.{Act}
use Rattle.rdm_model.specs.declared.entry.Act.TheVariants.{Next, Push, Handle, Poll}
use Rattle.rdm_model.specs.Deeds.{Took, Item, Spelled, Asks, Gives, Garbled, item_of, packet_item, deed_by_next, deed_by_push, deed_by_handle, deed_of, deeds, log_of, open_life, is_connid, of_life}
use Rattle.rdm_model.specs.Beginnings.{rank_of, port_count, own_of}
use Rattle.rdm_model.specs.Jobs.{is_fair, law_ops}
use Rattle.rdm_model.specs.Dues.{Due}
use Rattle.rdm_model.specs.Scenes.{Scene, deeds_at}
use Rattle.rdm_model.specs.Going.{Goes, due_going, Bears}
use Rattle.rdm_model.specs.Classes.{item_class, body_class, class_of}
use Rattle.rdm_model.specs.Takes.{handled_answer}
use Rattle.rdm_model.specs.Steps.{Does}
use Rattle.rdm_model.specs.Local.{own_scene, Local}
use Rattle.rdm_model.specs.Lawful.{life_deeds, port_deeds}
use Rattle.rdm_model.specs.Wire.{PushedIn, IsOther, IsUnhandled, Comes, Wire}
use Rattle.rdm_law.proofs.Lives.Logs.{at_log_of, local_before}
use Rattle.rdm_law.proofs.Lives.Lives.{life_of, life_scene, LifeLocal, WasDueAt, life_local, at_of_life, opened_scene, item_to, taken_class}
use Rattle.rdm_law.proofs.Accounts.Pushed.{PlacedAt, PushedDue, pushed_due}
use Rattle.rdm_num.proofs.Lives.{port_is, connid_is}

-- logs that are right by themselves, of a fair job, on a wire that delivers once
pub record Played (job : Job) (history : List Entry) : Type 0 where
  pub fair : IsTrue (is_fair law_ops job)
  pub locals : (port : ℕ) → Local job port (log_of port history)
  pub wire : Wire history

-- and so they were before the newest entry
pub played_before : (job : Job) (e : Entry) (before : List Entry) → Played job (e ∷ before) → Played job before
played_before job e before played =
    record { fair = played.fair; locals = λ port. local_before job port e before (played.locals port); wire = played.wire.0 }

-- the deeds of each life are right by themselves
pub own_life : (job : Job) (history : List Entry) → Played job history → (life' : Life) → LifeLocal (own_of job life') (life_deeds job history life')
unfolding life_deeds port_deeds
own_life job history played life' = life_local job life'.port.0 life'.connid (log_of life'.port.0 history) (played.locals life'.port.0)

-- the datagram was taken in the log
abbrev pub HandledIn : Datagram → List Entry → Type 0
HandledIn d [] = ⊥
HandledIn d (e ∷ before) = ((entered : Option Entered) × (e.act ≡ Handle d (TookAnswer entered))) ⊎ HandledIn d before

-- the datagram was taken by that port
abbrev pub HandledBy : ℕ → Datagram → List Entry → Type 0
HandledBy port d [] = ⊥
HandledBy port d (e ∷ before) = ((entered : Option Entered) × (e.act ≡ Handle d (TookAnswer entered)) × (e.port.0 ≡ port)) ⊎ HandledBy port d before

-- what was taken: the datagram with it
pub record TakenAs (from : Life) (to : Connid) (item : Item) (d : Datagram) : Type 0 where
  pub load : Load
  pub src_is : d.src ≡ from.port
  pub body_is : d.body ≡ Between from.connid to load
  pub item_is : item_of load ≡ item

-- a take is of a datagram between lives
handle_took : (src : PortNo) (body : Body) (answer : Handled) (from : Life) (item : Item) → deed_by_handle src body answer ≡ Took from item
    → (entered : Option Entered) × (f to : Connid) × (load : Load) × (answer ≡ TookAnswer entered) × (body ≡ Between f to load) × (life src f ≡ from) × (item_of load ≡ item)
unfolding deed_by_handle
handle_took src (Between f to load) (TookAnswer entered) from item h = (entered, f, to, load, refl, refl, cc, cc)
handle_took src (Note note) (TookAnswer entered) from item h = cc
handle_took src _ _ from item h = cc

-- no instruction takes
next_took : (o : Option Instr) (answer : Answer) (from : Life) (item : Item) → deed_by_next o answer ≡ Took from item → ⊥
unfolding deed_by_next
next_took (Some instr) (DidAnswer what) from item h = cc
next_took _ _ from item h = cc

-- no push takes
push_took : (body : Body) (from : Life) (item : Item) → deed_by_push body ≡ Took from item → ⊥
unfolding deed_by_push
push_took (Note note) from item h = cc
push_took (Between f to load) from item h = cc

-- a deed that takes is the handling of a datagram
pub act_took : (ops : List Instr) (act : Act) (from : Life) (item : Item) → deed_of ops act ≡ Took from item
    → (d : Datagram) × (entered : Option Entered) × (to : Connid) × (act ≡ Handle d (TookAnswer entered)) × TakenAs from to item d
unfolding deed_of
act_took ops (Next index op answer) from item h = absurd (next_took (slice_get ops index) answer from item h)
act_took ops (Push d) from item h = absurd (push_took d.body from item h)
act_took ops (Handle d answer) from item h =
    let r = handle_took d.src d.body answer from item h in (
      d,
      r.0,
      r.2,
      ap (λ x. Handle d x) r.4,
      record {
        load = r.3;
        src_is = ap (λ (l : Life). l.port) r.6;
        body_is = r.5 ∙ ap (λ (l : Life). Between l.connid r.2 r.3) r.6;
        item_is = r.7;
      },
    )
act_took ops (Poll c) from item h = cc

-- what a life takes names it
pub took_to : (s : Scene) (d : Datagram) (f to : Connid) (load : Load) (entered : Option Entered) → TookAnswer entered ≡ handled_answer class_of s d → d.body ≡ Between f to load
    → is_connid s.now to ≡ true
unfolding handled_answer class_of body_class
took_to s d f to load entered h b =
    let none : body_class s d d.body ≡ None = taken_class s d (body_class s d d.body) entered (sym h) in
    let item : item_class s (life d.src f) to (item_of load) ≡ None = subst (λ x. body_class s d x ≡ None) b none in
    item_to s (life d.src f) to (item_of load) item

-- an identifier that is open is the one
own_connid : (c to : Connid) → is_connid (Some c) to ≡ true → c ≡ to
unfolding is_connid
own_connid c to h = connid_is c to (eqb-true c.0 to.0 h)

-- what is taken names the life that takes it
taken_named : (job : Job) (port : ℕ) (c to : Connid) (from : Life) (item : Item) (d : Datagram) → TakenAs from to item d → is_connid (Some (own_of job (life_of port c)).life.connid) to ≡ true
    → TakenAs from c item d
unfolding own_of
taken_named job port c to from item d t is =
    record { load = t.load; src_is = t.src_is; body_is = t.body_is ∙ ap (λ x. Between from.connid x t.load) (sym (own_connid c to is)); item_is = t.item_is }

-- what is taken while a life is open is for that life
pub taken_to : (job : Job) (port : ℕ) (c to : Connid) (from : Life) (item : Item) (e : Entry) (before : List Entry) (d : Datagram) (entered : Option Entered)
    → open_life (deeds_at job port before) ≡ Some c → Does job class_of (own_scene job port (deeds_at job port before)) before e e.act
    → e.act ≡ Handle d (TookAnswer entered) → TakenAs from to item d → TakenAs from c item d
taken_to job port c to from item e before d entered now h a t =
    let port_log = deeds_at job port before in
    let does : Does job class_of (own_scene job port port_log) before e (Handle d (TookAnswer entered)) =
    subst (λ x. Does job class_of (own_scene job port port_log) before e x) a h in
    let answer : TookAnswer entered ≡ handled_answer class_of (life_scene (port_count job) (own_of job (life_of port c)) port_log (of_life c port_log)) d =
    subst (λ x. TookAnswer entered ≡ handled_answer class_of x d) (opened_scene job port c port_log now) does.0 in
    let is = took_to (life_scene (port_count job) (own_of job (life_of port c)) port_log (of_life c port_log)) d from.connid to t.load entered answer t.body_is in
    taken_named job port c to from item d t is

-- each take of a life was the handling of a datagram for it
pub taken_handled : (job : Job) (port : ℕ) (c : Connid) (from : Life) (item : Item) (log : List Entry) → Local job port log
    → Member (Took from item) (of_life c (deeds_at job port log)) → (d : Datagram) × HandledIn d log × TakenAs from c item d
unfolding of_life deeds_at deeds
taken_handled job port c from item [] l m = elim m [ ]
taken_handled job port c from item (e ∷ before) l m =
    at_of_life (λ log. Member (Took from item) log → (d : Datagram) × HandledIn d (e ∷ before) × TakenAs from c item d) c (deed_of (rank_of job port).ops e.act)
    (deeds_at job port before)
    (λ now k. elim k [
      | inl is ↦
          let r = act_took (rank_of job port).ops e.act from item is in
          (r.0, inl (r.1, r.3), taken_to job port c r.2 from item e before r.0 r.1 now l.2.2 r.3 r.4)
      | inr a ↦ let r = taken_handled job port c from item before l.0 a in (r.0, inr r.1, r.2)
    ])
    (λ other k. let r = taken_handled job port c from item before l.0 k in (r.0, inr r.1, r.2)) m

-- a take in a port's log is one by that port
pub handled_by : (port : ℕ) (d : Datagram) (history : List Entry) → HandledIn d (log_of port history) → HandledBy port d history
unfolding log_of
handled_by port d [] h = elim h [ ]
handled_by port d (e ∷ before) h =
    at_log_of (λ log. HandledIn d log → HandledBy port d (e ∷ before)) port e before
    (λ s k. elim k [ inl a ↦ inl (a.0, a.1, s) | inr a ↦ inr (handled_by port d before a) ])
    (λ s k. inr (handled_by port d before k)) h

-- what was pushed stays so as the history grows
pushed_longer : (port : ℕ) (d : Datagram) (e : Entry) (before : List Entry) → PushedIn d (log_of port before) → PushedIn d (log_of port (e ∷ before))
pushed_longer port d e before h = at_log_of (λ log. PushedIn d log) port e before (λ s. inr h) (λ s. h)

-- what was taken is for its port and was pushed by its source
pub comes_of : (port : ℕ) (d : Datagram) (history : List Entry) → Wire history → HandledBy port d history → (d.dst.0 ≡ port) × PushedIn d (log_of d.src.0 history)
comes_of port d [] w h = elim h [ ]
comes_of port d (e ∷ before) w (inl h) =
    let c : Comes before e (Handle d (TookAnswer h.0)) = (let P : Act → Type 0 = λ act. Comes before e act in subst P h.1 w.1) in
    (ap (λ (p : PortNo). p.0) c.0 ∙ h.2, pushed_longer d.src.0 d e before c.1)
comes_of port d (e ∷ before) w (inr h) = let r = comes_of port d before w.0 h in (r.0, pushed_longer d.src.0 d e before r.1)

-- what was not handled is none of what was taken
pub taken_other : (port : ℕ) (c d : Datagram) (history : List Entry) → IsUnhandled d history → HandledBy port c history → c ≡ d → ⊥
taken_other port c d [] u h is = elim h [ ]
taken_other port c d (e ∷ before) u (inl h) is =
    let P : Act → Type 0 = λ act. IsOther d act in
    let o : IsOther d (Handle c (TookAnswer h.0)) = subst P h.1 u.1 in
    o (ap (λ (x : Datagram). x.src) is) (ap (λ (x : Datagram). x.number) is)
taken_other port c d (e ∷ before) u (inr h) is = taken_other port c d before u.0 h is

-- the item that a load bears is what is taken of it
pub bears_item : (item : Item) (load : Load) → Bears item load → item_of load ≡ item
unfolding item_of packet_item
bears_item (Spelled p) (PacketLoad bytes) b = let r = packet_is_read p bytes b in rw r refl
bears_item (Asks a) (Ask x) b = ap Asks (sym b)
bears_item (Gives g) (Given x) b = ap Gives (sym b)
bears_item (Spelled p) (Ask x) b = elim b [ ]
bears_item (Spelled p) (Given x) b = elim b [ ]
bears_item (Asks a) (PacketLoad bytes) b = elim b [ ]
bears_item (Asks a) (Given x) b = elim b [ ]
bears_item (Gives g) (PacketLoad bytes) b = elim b [ ]
bears_item (Gives g) (Ask x) b = elim b [ ]
bears_item Garbled load b = elim b [ ]

-- what a life took was a due item of the life that it names
pub record TakenDue (job : Job) (history : List Entry) (life' from : Life) (item : Item) (d : Datagram) : Type 0 where
  pub due' : Due
  pub place : ℕ
  pub was_due : WasDueAt (own_of job from) due' place (life_deeds job history from)
  pub placed : PlacedAt job from.port.0 from.connid d place (log_of from.port.0 history)
  pub gives : due_going (Some due') ≡ Some (Goes life' item)

-- lives of one port and identifier are one
same_life_parts : (p q : PortNo) (c d : Connid) → p ≡ q → c ≡ d → ◌≡◌ {A = Life} (record { port = p; connid = c }) (record { port = q; connid = d })
same_life_parts p q c d h k = rw (h, k) refl

-- the life that a datagram is for
same_life_at : (d : Datagram) (to : Connid) (life' : Life) → d.dst.0 ≡ life'.port.0 → to ≡ life'.connid → ◌≡◌ {A = Life} (record { port = d.dst; connid = to }) life'
same_life_at d to life' h k = same_life_parts d.dst life'.port to life'.connid (port_is d.dst life'.port h) k

-- what was pushed as a due item of a port is a due item of the life that the datagram names
due_taken : (job : Job) (history : List Entry) (life' from : Life) (item : Item) (d : Datagram) → TakenAs from life'.connid item d → d.dst.0 ≡ life'.port.0
    → (port : ℕ) → from.port.0 ≡ port → (load : Load) → item_of load ≡ item
    → PushedDue job port from.connid (record { port = d.dst; connid = life'.connid }) load d (log_of port history)
    → TakenDue job history life' from item d
unfolding life_deeds port_deeds
due_taken job history life' from item d t dst port p load is x =
    let to = same_life_at d life'.connid life' dst refl in
    let same : x.item ≡ item = sym (bears_item x.item load x.bears) ∙ is in
    record {
      due' = x.due';
      place = x.place;
      was_due = subst (λ (n : ℕ). WasDueAt (own_of job (life_of n from.connid)) x.due' x.place (of_life from.connid (deeds_at job n (log_of n history)))) (sym p) x.was_due;
      placed = subst (λ (n : ℕ). PlacedAt job n from.connid d x.place (log_of n history)) (sym p) x.placed;
      gives = x.gives ∙ (ap (λ (l : Life). Some (Goes l x.item)) to ∙ ap (λ (i : Item). Some (Goes life' i)) same);
    }

-- a datagram from a life to another that was pushed was a due item
pub pushed_taken : (job : Job) (history : List Entry) (life' from : Life) (item : Item) (d : Datagram) → Played job history → TakenAs from life'.connid item d
    → d.dst.0 ≡ life'.port.0 → PushedIn d (log_of d.src.0 history) → TakenDue job history life' from item d
pushed_taken job history life' from item d played t dst p =
    let x = pushed_due job d.src.0 from.connid life'.connid t.load d (log_of d.src.0 history) (played.locals d.src.0) p t.body_is in
    due_taken job history life' from item d t dst d.src.0 (ap (λ (p : PortNo). p.0) (sym t.src_is)) t.load t.item_is x.1

-- what a life took was taken once, and was a due item of the life that it names
pub record Taken (job : Job) (history : List Entry) (life' from : Life) (item : Item) : Type 0 where
  pub datagram : Datagram
  pub handled : HandledBy life'.port.0 datagram history
  pub taken : TakenDue job history life' from item datagram

-- what a life took was pushed by the life that it names
pub taken_pushed : (job : Job) (history : List Entry) (life' from : Life) (item : Item) → Played job history
    → Member (Took from item) (life_deeds job history life') → Taken job history life' from item
unfolding life_deeds port_deeds
taken_pushed job history life' from item played m =
    let h = taken_handled job life'.port.0 life'.connid from item (log_of life'.port.0 history) (played.locals life'.port.0) m in
    let by = handled_by life'.port.0 h.0 history h.1 in
    let c = comes_of life'.port.0 h.0 history played.wire by in
    record { datagram = h.0; handled = by; taken = pushed_taken job history life' from item h.0 played h.2 c.0 c.1 }
