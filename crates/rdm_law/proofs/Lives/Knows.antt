-- Each life that was inserted, or from which a datagram was taken, was opened.
use Rattle.std.proofs.Common.{◌≡◌, ℕ, Bool, true, false, List, [], ◌∷◌, ◌++◌, Option, Some, None, refl, ◌⊎◌, inl, inr, sym, ◌∙◌, ap, subst}
use Rattle.std.specs.Prelude.{not, ◌&&◌, ◌==◌, nat_eq, slice_get}
use Rattle.std.specs.Bool.{then_some}
use Rattle.std.specs.List.{list_any}
use Rattle.std.proofs.lemmas.Bool.{and_parts, or_cases, eqb-true, not-false}
use Rattle.rdm_lists.specs.Lists.{Member, first_case}
use Rattle.rdm_num.specs.declared.numbers.PortNo.{PortNo}
use Rattle.rdm_num.specs.declared.numbers.Connid.{Connid}
use Rattle.rdm_num.specs.declared.numbers.Life.{Life}
use Rattle.rdm_wire.specs.declared.Datagram.{Datagram}
use Rattle.rdm_wire.specs.declared.Body.{Body}
use Rattle.rdm_wire.specs.declared.Body.TheVariants.{Note, Between}
use Rattle.rdm_wire.specs.declared.NoteBody.{NoteBody}
use Rattle.rdm_wire.specs.declared.NoteBody.TheVariants.{Opened as OpenedNote}
use Rattle.rdm_model.specs.declared.job.Job.{Job}
use Rattle.rdm_model.specs.declared.job.Instr.{Instr}
use Rattle.rdm_model.specs.declared.job.Instr.TheVariants.{OpenLife, Insert}
use Rattle.rdm_model.specs.declared.answer.DidWhat.{DidWhat}
use Rattle.rdm_model.specs.declared.answer.Next.{Next as Answer}
use Rattle.rdm_model.specs.declared.answer.Next.TheVariants.{Did as DidAnswer}
use Rattle.rdm_model.specs.declared.answer.Entered.{Entered}
use Rattle.rdm_model.specs.declared.answer.Handled.{Handled}
use Rattle.rdm_model.specs.declared.answer.Handled.TheVariants.{Took as TookAnswer}
use Rattle.rdm_model.specs.declared.entry.Entry.{Entry}
use Rattle.rdm_model.specs.declared.entry.Act.{Act}
use Rattle.rdm_model.specs.declared.entry.Act.TheVariants.{Next, Push, Handle, Poll}
use Rattle.rdm_model.specs.Deeds.{Deed, Did, TookNote, Took, Item, deed_by_next, deed_by_push, deed_by_handle, deed_of, deeds, log_of, open_life, of_life}
use Rattle.rdm_model.specs.Beginnings.{own_of, rank_of, life_at}
use Rattle.rdm_model.specs.Currents.{inserted_by, last_inserted, seen_by, first_seen, current}
use Rattle.rdm_model.specs.Notes.{tells_open, opens, knows_open}
use Rattle.rdm_model.specs.Scenes.{Scene, scene, deeds_at}
use Rattle.rdm_model.specs.Answers.{answer_of, answer_by, insert_answer}
use Rattle.rdm_model.specs.Classes.{class_of}
use Rattle.rdm_model.specs.Steps.{Does}
use Rattle.rdm_model.specs.Local.{own_scene, Local}
use Rattle.rdm_model.specs.Lawful.{port_deeds, life_deeds}
use Rattle.rdm_law.proofs.Lives.Logs.{at_log_of}
use Rattle.rdm_law.proofs.Lives.Lives.{at_of_life}
use Rattle.rdm_law.proofs.Accounts.Wired.{Played, played_before, HandledIn, handled_by, comes_of, taken_pushed}
use Rattle.rdm_law.proofs.Accounts.Pushed.{PlacedAt}
use Rattle.rdm_law.proofs.Lives.Opened.{IsOpened, open_opened, note_pushed}
use Rattle.rdm_lists.proofs.Members.{member-append_right, list_any_member}
use Rattle.rdm_lists.proofs.Options.{or_else_cases}
use Rattle.rdm_num.proofs.Lives.{port_is, connid_is}

-- a take of a note is of a datagram
handle_note : (src : PortNo) (body : Body) (answer : Handled) (from : PortNo) (note : NoteBody) → deed_by_handle src body answer ≡ TookNote from note
    → (entered : Option Entered) × (answer ≡ TookAnswer entered) × (body ≡ Note note) × (src ≡ from)
unfolding deed_by_handle
handle_note src (Note n) (TookAnswer entered) from note h = (entered, refl, cc, cc)
handle_note src (Between f to load) (TookAnswer entered) from note h = cc
handle_note src _ _ from note h = cc

-- no instruction takes a note
next_note' : (o : Option Instr) (answer : Answer) (from : PortNo) (note : NoteBody) → deed_by_next o answer ≡ TookNote from note → ⊥
unfolding deed_by_next
next_note' (Some instr) (DidAnswer what) from note h = cc
next_note' _ _ from note h = cc

-- no push takes a note
push_note : (body : Body) (from : PortNo) (note : NoteBody) → deed_by_push body ≡ TookNote from note → ⊥
unfolding deed_by_push
push_note (Note n) from note h = cc
push_note (Between f to load) from note h = cc

-- a deed that takes a note is the handling of a datagram
act_note : (ops : List Instr) (act : Act) (from : PortNo) (note : NoteBody) → deed_of ops act ≡ TookNote from note
    → (d : Datagram) × (entered : Option Entered) × (act ≡ Handle d (TookAnswer entered)) × (d.body ≡ Note note) × (d.src ≡ from)
unfolding deed_of
act_note ops (Next index op answer) from note h = absurd (next_note' (slice_get ops index) answer from note h)
act_note ops (Push d) from note h = absurd (push_note d.body from note h)
act_note ops (Handle d answer) from note h = let r = handle_note d.src d.body answer from note h in (d, r.0, ap (λ x. Handle d x) r.1, r.2, r.3)
act_note ops (Poll c) from note h = cc

-- a note that a port took was handled
pub note_handled : (job : Job) (port : ℕ) (log : List Entry) (from : PortNo) (note : NoteBody) → Member (TookNote from note) (deeds_at job port log)
    → (d : Datagram) × HandledIn d log × (d.body ≡ Note note) × (d.src ≡ from)
unfolding deeds_at deeds
note_handled job port [] from note m = elim m [ ]
note_handled job port (e ∷ before) from note (inl is) = let r = act_note (rank_of job port).ops e.act from note is in (r.0, inl (r.1, r.2), r.3, r.4)
note_handled job port (e ∷ before) from note (inr m) = let r = note_handled job port before from note m in (r.0, inr r.1, r.2, r.3)

-- a note that tells of a life comes from the port that opened it
told_opened : (job : Job) (history : List Entry) (port : ℕ) (from : PortNo) (c : Connid) → Played job history → Member (TookNote from (OpenedNote c)) (port_deeds job port history)
    → Member (Did (OpenLife c)) (port_deeds job from.0 history)
unfolding port_deeds
told_opened job history port from c played m =
    let h = note_handled job port (log_of port history) from (OpenedNote c) m in
    let came = comes_of port h.0 history played.wire (handled_by port h.0 history h.1) in
    let o = note_pushed job h.0.src.0 (log_of h.0.src.0 history) h.0 c (played.locals h.0.src.0) came.1 h.2 in
    subst (λ (p : ℕ). Member (Did (OpenLife c)) (deeds_at job p (log_of p history))) (ap (λ (p : PortNo). p.0) h.3) o

-- what was opened stays so
pub opened_still : (job : Job) (e : Entry) (before : List Entry) (l : Life) → IsOpened job before l → IsOpened job (e ∷ before) l
unfolding port_deeds deeds_at deeds
opened_still job e before l m =
    at_log_of (λ log. Member (Did (OpenLife l.connid)) (deeds (rank_of job l.port.0).ops log)) l.port.0 e before (λ s. inr m) (λ s. m)

-- an open of the life
pub opens_parts : (l : Life) (d : Deed) → opens l d ≡ true → d ≡ Did (OpenLife l.connid)
unfolding opens
opens_parts l (Did (OpenLife c)) h = ap (λ x. Did (OpenLife x)) (connid_is c l.connid (eqb-true c.0 l.connid.0 h))
opens_parts l _ h = cc

-- a note that tells of the life
pub tells_parts : (l : Life) (d : Deed) → tells_open l d ≡ true → d ≡ TookNote l.port (OpenedNote l.connid)
unfolding tells_open
tells_parts l (TookNote from (OpenedNote c)) h =
    let p = and_parts (nat_eq from.0 l.port.0) (nat_eq c.0 l.connid.0) h in
    ap (λ x. TookNote x (OpenedNote c)) (port_is from l.port (eqb-true from.0 l.port.0 p.0)) ∙ ap (λ x. TookNote l.port (OpenedNote x)) (connid_is c l.connid (eqb-true c.0 l.connid.0 p.1))
tells_parts l _ h = cc

-- a life that a port knows to be open was opened
knows_opened : (job : Job) (history : List Entry) (port : ℕ) (l : Life) → Played job history → knows_open port (port_deeds job port history) l ≡ true → IsOpened job history l
unfolding knows_open
knows_opened job history port l played h =
    let log = port_deeds job port history in
    elim (or_cases (list_any (tells_open l) log) (nat_eq l.port.0 port && list_any (opens l) log) h) [
      | inl a ↦
          let r = list_any_member (tells_open l) log a in
          told_opened job history port l.port l.connid played (subst (λ (d : Deed). Member d log) (tells_parts l r.0 r.2) r.1)
      | inr a ↦
          let p = and_parts (nat_eq l.port.0 port) (list_any (opens l) log) a in
          let r = list_any_member (opens l) log p.1 in
          let m = subst (λ (d : Deed). Member d log) (opens_parts l r.0 r.2) r.1 in
          subst (λ (n : ℕ). Member (Did (OpenLife l.connid)) (port_deeds job n history)) (sym (eqb-true l.port.0 port p.0)) m
    ]

-- the first case does not hold where its answer is another
first_yes : (b : Bool) (x z : Answer) (cs : List (Bool × Answer)) (what : DidWhat) → first_case ((b, x) ∷ cs) z ≡ DidAnswer what → (x ≡ DidAnswer what → ⊥) → b ≡ false
unfolding first_case
first_yes true x z cs what h none = absurd (none h)
first_yes false x z cs what h none = refl

-- an insert that did was of a life that the port knew to be open
insert_knows : (s : Scene) (l : Life) (what : DidWhat) → answer_of s (Insert l) ≡ DidAnswer what → knows_open s.own.life.port.0 s.port_log l ≡ true
unfolding answer_by insert_answer
insert_knows s l what h = not-false (knows_open s.own.life.port.0 s.port_log l) (first_yes (not (knows_open s.own.life.port.0 s.port_log l)) _ _ _ what h (λ e. cc))

-- a scene's life is of its port
life_at_port : (port : ℕ) (now : Option Connid) → (life_at port now).port.0 ≡ port
unfolding life_at
life_at_port port None = refl
life_at_port port (Some c) = refl

-- a scene's port
pub own_port : (job : Job) (port : ℕ) (log : List Deed) → (own_scene job port log).own.life.port.0 ≡ port
unfolding own_scene scene own_of
own_port job port log = life_at_port port (open_life log)

-- a scene's log
own_port_log : (job : Job) (port : ℕ) (log : List Deed) → (own_scene job port log).port_log ≡ log
unfolding own_scene scene
own_port_log job port log = refl

-- the instruction that a deed did
pub did_instr : (o : Option Instr) (answer : Answer) (instr x : Instr) → o ≡ Some instr → deed_by_next o answer ≡ Did x → (what : DidWhat) × (answer ≡ DidAnswer what) × (instr ≡ x)
unfolding deed_by_next
did_instr (Some i) (DidAnswer what) instr x is h = (what, refl, (let e : i ≡ x = cc in cc))
did_instr _ answer instr x is h = cc

-- no push does an instruction
pub push_did : (body : Body) (x : Instr) → deed_by_push body ≡ Did x → ⊥
unfolding deed_by_push
push_did (Note n) x h = cc
push_did (Between f to load) x h = cc

-- no handling does an instruction
pub handle_did : (src : PortNo) (body : Body) (answer : Handled) (x : Instr) → deed_by_handle src body answer ≡ Did x → ⊥
unfolding deed_by_handle
handle_did src (Note n) (TookAnswer entered) x h = cc
handle_did src (Between f to load) (TookAnswer entered) x h = cc
handle_did src _ _ x h = cc

-- an instruction that an entry did answers so in the scene before
act_did : (job : Job) (port : ℕ) (s : Scene) (before : List Entry) (e : Entry) (act : Act) (x : Instr) → e.port.0 ≡ port → Does job class_of s before e act
    → deed_of (rank_of job port).ops act ≡ Did x → (what : DidWhat) × (answer_of s x ≡ DidAnswer what)
unfolding deed_of
act_did job port s before e (Next index op answer) x p does h =
    let at : slice_get (rank_of job port).ops index ≡ Some does.1.0 = subst (λ n. slice_get (rank_of job n).ops index ≡ Some does.1.0) p does.1.1 in
    let r = did_instr (slice_get (rank_of job port).ops index) answer does.1.0 x at h in
    (r.0, ap (λ i. answer_of s i) (sym r.2) ∙ sym does.1.3 ∙ r.1)
act_did job port s before e (Push d) x p does h = absurd (push_did d.body x h)
act_did job port s before e (Handle d answer) x p does h = absurd (handle_did d.src d.body answer x h)
act_did job port s before e (Poll c) x p does h = cc

-- an entry inserts what its port knows to be open
pub act_knows : (job : Job) (port : ℕ) (before : List Entry) (e : Entry) (l : Life) → e.port.0 ≡ port
    → Does job class_of (own_scene job port (deeds_at job port before)) before e e.act
    → deed_of (rank_of job port).ops e.act ≡ Did (Insert l) → knows_open port (deeds_at job port before) l ≡ true
act_knows job port before e l p does h =
    let log = deeds_at job port before in
    let s = own_scene job port log in
    let a = act_did job port s before e e.act (Insert l) p does h in
    let k = insert_knows s l a.0 a.1 in
    subst (λ n. knows_open n log l ≡ true) (own_port job port log) (subst (λ ds. knows_open s.own.life.port.0 ds l ≡ true) (own_port_log job port log) k)

-- the newest entry inserts what was opened
inserted_now : (job : Job) (port : ℕ) (before : List Entry) (e : Entry) (l : Life) → Played job before → e.port.0 ≡ port
    → Does job class_of (own_scene job port (port_deeds job port before)) (log_of port before) e e.act
    → deed_of (rank_of job port).ops e.act ≡ Did (Insert l) → IsOpened job before l
unfolding port_deeds
inserted_now job port before e l played p does h = knows_opened job before port l played (act_knows job port (log_of port before) e l p does h)

-- a life that a port inserted was opened
pub inserted_opened : (job : Job) (history : List Entry) (port : ℕ) (l : Life) → Played job history → Member (Did (Insert l)) (port_deeds job port history) → IsOpened job history l
unfolding port_deeds deeds_at deeds log_of
inserted_opened job [] port l played m = elim m [ ]
inserted_opened job (e ∷ before) port l played m =
    let earlier = played_before job e before played in
    let ops = (rank_of job port).ops in
    at_log_of (λ log. Local job port log → Member (Did (Insert l)) (deeds ops log) → IsOpened job (e ∷ before) l) port e before
    (λ s local k. elim k [
      | inl is ↦ opened_still job e before l (inserted_now job port before e l earlier s local.2.2 is)
      | inr a ↦ opened_still job e before l (inserted_opened job before port l earlier a)
    ])
    (λ s local k. opened_still job e before l (inserted_opened job before port l earlier k))
    (played.locals port) m

-- a deed of a life is one of its port
pub port_member : (c : Connid) (d : Deed) (log : List Deed) → Member d (of_life c log) → Member d log
unfolding of_life
port_member c d [] m = elim m [ ]
port_member c d (x ∷ before) m =
    at_of_life (λ log. Member d log → Member d (x ∷ before)) c x before
    (λ s k. elim k [ inl is ↦ inl is | inr a ↦ inr (port_member c d before a) ]) (λ s k. inr (port_member c d before k)) m

-- a datagram is placed by a life that was opened
placed_opened : (job : Job) (port : ℕ) (from : Connid) (d : Datagram) (k : ℕ) (log : List Entry) → PlacedAt job port from d k log → Member (Did (OpenLife from)) (deeds_at job port log)
unfolding deeds_at deeds
placed_opened job port from d k [] h = elim h [ ]
placed_opened job port from d k (e ∷ before) (inl h) = inr (open_opened (deeds (rank_of job port).ops before) from h.1)
placed_opened job port from d k (e ∷ before) (inr h) = inr (placed_opened job port from d k before h)

-- a life that pushed a datagram was opened
pub pushed_opened : (job : Job) (history : List Entry) (from : Life) (d : Datagram) (k : ℕ) → PlacedAt job from.port.0 from.connid d k (log_of from.port.0 history) → IsOpened job history from
unfolding port_deeds
pushed_opened job history from d k h = placed_opened job from.port.0 from.connid d k (log_of from.port.0 history) h

-- a life that a life inserted, or from which it took a datagram
abbrev pub HasMet : List Deed → Life → Type 0
HasMet log l = Member (Did (Insert l)) log ⊎ ((item : Item) × Member (Took l item) log)

-- a life that was met was opened
pub met_opened : (job : Job) (history : List Entry) (life' l : Life) → Played job history → HasMet (life_deeds job history life') l → IsOpened job history l
unfolding life_deeds
met_opened job history life' l played (inl m) =
    inserted_opened job history life'.port.0 l played (port_member life'.connid (Did (Insert l)) (port_deeds job life'.port.0 history) m)
met_opened job history life' l played (inr m) =
    let t = taken_pushed job history life' l m.0 played m.1 in
    pushed_opened job history l t.datagram t.taken.place t.taken.placed

-- a life that a test gives
then_life : (b : Bool) (x y : Life) → then_some b x ≡ Some y → x ≡ y
then_life true x y h = cc
then_life false x y h = cc

-- the life that a deed inserts
inserted_is : (port : ℕ) (d : Deed) (l : Life) → inserted_by port d ≡ Some l → d ≡ Did (Insert l)
unfolding inserted_by
inserted_is port (Did (Insert life')) l h = ap (λ x. Did (Insert x)) (then_life (life'.port.0 == port) life' l h)
inserted_is port _ l h = cc

-- the life from which a deed takes
seen_is : (port : ℕ) (d : Deed) (l : Life) → seen_by port d ≡ Some l → (item : Item) × (d ≡ Took l item)
unfolding seen_by
seen_is port (Took from item) l h = (item, ap (λ x. Took x item) (then_life (from.port.0 == port) from l h))
seen_is port _ l h = cc

-- the life that was inserted last was met
last_met : (log : List Deed) (port : ℕ) (l : Life) → last_inserted log port ≡ Some l → HasMet log l
unfolding last_inserted
last_met [] port l h = cc
last_met (d ∷ before) port l h =
    elim (or_else_cases (inserted_by port d) (last_inserted before port) l h) [
      | inl a ↦ inl (inl (inserted_is port d l a))
      | inr a ↦ elim (last_met before port l a.1) [ inl m ↦ inl (inr m) | inr m ↦ inr (m.0, inr m.1) ]
    ]

-- the life that was seen first was met
first_met : (log : List Deed) (port : ℕ) (l : Life) → first_seen log port ≡ Some l → HasMet log l
unfolding first_seen
first_met [] port l h = cc
first_met (d ∷ before) port l h =
    elim (or_else_cases (first_seen before port) (seen_by port d) l h) [
      | inl a ↦ elim (first_met before port l a) [ inl m ↦ inl (inr m) | inr m ↦ inr (m.0, inr m.1) ]
      | inr a ↦ (let s = seen_is port d l a.1 in inr (s.0, inl s.1))
    ]

-- the current life of a port was met
pub current_met : (log : List Deed) (port : ℕ) (l : Life) → current log port ≡ Some l → HasMet log l
unfolding current
current_met log port l h =
    elim (or_else_cases (last_inserted log port) (first_seen log port) l h) [ inl a ↦ last_met log port l a | inr a ↦ first_met log port l a.1 ]

-- and so in a longer log
pub met_longer : (newer : List Deed) (log : List Deed) (l : Life) → HasMet log l → HasMet (newer ++ log) l
met_longer newer log l (inl m) = inl (member-append_right (Did (Insert l)) newer log m)
met_longer newer log l (inr m) = inr (m.0, member-append_right (Took l m.0) newer log m.1)
