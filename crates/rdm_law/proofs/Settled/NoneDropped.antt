-- Where each rank has one life, nothing is dropped.
use Rattle.std.proofs.Common.{◌≡◌, ℕ, ◌<◌, ◌≤◌, Bool, true, false, List, [], ◌∷◌, Option, Some, None, refl, arith, inl, inr, sym, ◌∙◌, ap, subst}
use Rattle.std.specs.Prelude.{not, nat_eq}
use Rattle.std.specs.List.{list_any, list_all}
use Rattle.std.proofs.lemmas.Bool.{cases_lt, not-true, false_from_ne_true, and_from, eq-eqb, or_cases}
use Rattle.std.proofs.lemmas.List.{get_or_past}
use Rattle.rdm_lists.specs.Lists.{Member, below, first_case}
use Rattle.rdm_num.specs.Lives.{same_life, life}
use Rattle.rdm_num.specs.declared.numbers.PortNo.{PortNo}
use Rattle.rdm_num.specs.declared.numbers.Connid.{Connid}
use Rattle.rdm_num.specs.declared.numbers.Life.{Life}
use Rattle.rdm_wire.specs.declared.Datagram.{Datagram}
use Rattle.rdm_wire.specs.declared.Body.{Body}
use Rattle.rdm_wire.specs.declared.Body.TheVariants.{Note, Between}
use Rattle.rdm_wire.specs.declared.NoteBody.{NoteBody}
use Rattle.rdm_wire.specs.declared.Load.{Load}
use Rattle.rdm_model.specs.declared.job.Job.{Job}
use Rattle.rdm_model.specs.declared.job.Rank.{Rank}
use Rattle.rdm_model.specs.declared.job.Instr.TheVariants.{OpenLife}
use Rattle.rdm_model.specs.declared.answer.Class.{Class}
use Rattle.rdm_model.specs.declared.answer.Class.TheVariants.{ToOther, FromOther}
use Rattle.rdm_model.specs.declared.answer.Handled.TheVariants.{Dropped}
use Rattle.rdm_model.specs.declared.entry.Entry.{Entry}
use Rattle.rdm_model.specs.declared.entry.Act.{Act}
use Rattle.rdm_model.specs.declared.entry.Act.TheVariants.{Handle}
use Rattle.rdm_model.specs.Deeds.{Deed, Item, item_of, log_of, open_life, is_connid}
use Rattle.rdm_model.specs.Beginnings.{own_of, rank_of, no_rank, port_count}
use Rattle.rdm_model.specs.Currents.{current}
use Rattle.rdm_model.specs.Sources.{is_other}
use Rattle.rdm_model.specs.Sends.{Sent, sends}
use Rattle.rdm_model.specs.Scenes.{Scene, deeds_at}
use Rattle.rdm_model.specs.Classes.{class_of, body_lives_class, lives_class}
use Rattle.rdm_model.specs.Steps.{Does}
use Rattle.rdm_model.specs.Takes.{taken_answer, class_answer, handled_answer}
use Rattle.rdm_model.specs.Standing.{is_drop, has_one_life, NoneIsDropped}
use Rattle.rdm_model.specs.Local.{own_scene}
use Rattle.rdm_model.specs.Lawful.{port_deeds, life_deeds}
use Rattle.rdm_model.specs.Wire.{PushedIn, Comes}
use Rattle.rdm_model.proofs.Numbers.{made}
use Rattle.rdm_law.proofs.Lives.Lives.{life_of, life_scene, is_connid-from, opened_scene}
use Rattle.rdm_law.proofs.Accounts.Wired.{Played, played_before, TakenAs, TakenDue, pushed_taken}
use Rattle.rdm_law.proofs.Accounts.Went.{went}
use Rattle.rdm_law.proofs.Accounts.Known.{account}
use Rattle.rdm_law.proofs.Accounts.WasDue.{due_member}
use Rattle.rdm_law.proofs.Replies.Seen.{owed_seen}
use Rattle.rdm_law.proofs.Lives.Held.{current_port, to_new}
use Rattle.rdm_law.proofs.Central.Lawfully.{own_entry}
use Rattle.rdm_law.proofs.Classes.ClassLives.{AllFree, class_lives}
use Rattle.rdm_law.proofs.Lives.Opened.{IsOpened}
use Rattle.rdm_law.proofs.Lives.Knows.{HasMet, met_opened, current_met, met_longer, pushed_opened}
use Rattle.rdm_law.proofs.Lives.OneLife.{OneLife, did_op, one_life, one_open, open_stays}
use Rattle.rdm_num.proofs.Lives.{same_life-true, same_life-refl}
use Rattle.rdm_lists.proofs.Below.{all_below}

-- a port past the ranks has no instructions
past_ops : (job : Job) (port : ℕ) → port_count job ≤ port → (rank_of job port).ops ≡ []
unfolding rank_of
past_ops job port h = ap (λ (r : Rank). r.ops) (get_or_past job.ranks port no_rank h)

-- a life that was opened is opened by an instruction
opened_op : (job : Job) (history : List Entry) (l : Life) → IsOpened job history l → Member (OpenLife l.connid) (rank_of job l.port.0).ops
unfolding port_deeds deeds_at
opened_op job history l m = did_op (rank_of job l.port.0).ops (log_of l.port.0 history) (OpenLife l.connid) m

-- only ranks open lives
opened_port : (job : Job) (history : List Entry) (l : Life) → IsOpened job history l → l.port.0 < port_count job
opened_port job history l m =
    elim (cases_lt l.port.0 (port_count job)) [
      | inl less ↦ less
      | inr past ↦ (let never = subst (λ ops. Member (OpenLife l.connid) ops) (past_ops job l.port.0 past) (opened_op job history l m) in elim never [ ])
    ]

-- each rank of the job has one life
abbrev pub AllOne : Job → Type 0
AllOne job = list_all (has_one_life job) (below (port_count job)) ≡ true

-- a life that was opened is the one of its rank
opened_one : (job : Job) (history : List Entry) (l : Life) → AllOne job → IsOpened job history l → OneLife (rank_of job l.port.0).ops
opened_one job history l one m = one_life job l.port.0 (all_below (has_one_life job) (port_count job) l.port.0 one (opened_port job history l m))

-- lives of one port and identifier pass the test
same_from : (l m : Life) → l.port.0 ≡ m.port.0 → l.connid ≡ m.connid → same_life l m ≡ true
unfolding same_life
same_from l m e c =
    and_from (nat_eq l.port.0 m.port.0) (nat_eq l.connid.0 m.connid.0) (eq-eqb l.port.0 m.port.0 e) (eq-eqb l.connid.0 m.connid.0 (ap (λ (x : Connid). x.0) c))

-- lives of one port that were opened are one
opened_same : (job : Job) (history : List Entry) (l m : Life) → AllOne job → IsOpened job history l → IsOpened job history m → l.port.0 ≡ m.port.0 → l ≡ m
opened_same job history l m one h k e =
    let k' = subst (λ (n : ℕ). Member (OpenLife m.connid) (rank_of job n).ops) (sym e) (opened_op job history m k) in
    let c = one_open (rank_of job l.port.0).ops l.connid m.connid (opened_one job history l one h) (opened_op job history l h) k' in
    same_life-true l m (same_from l m e c)

-- and are open
opened_open : (job : Job) (history : List Entry) (l : Life) → AllOne job → IsOpened job history l → open_life (port_deeds job l.port.0 history) ≡ Some l.connid
unfolding port_deeds deeds_at
opened_open job history l one m = open_stays (rank_of job l.port.0).ops (log_of l.port.0 history) l.connid (opened_one job history l one m) m

-- a life that was met stays so
met_more : (d : Deed) (log : List Deed) (l : Life) → HasMet log l → HasMet (d ∷ log) l
met_more d log l (inl m) = inl (inr m)
met_more d log l (inr m) = inr (m.0, inr m.1)

-- a life to which something was sent was met
sent_met : (job : Job) (history : List Entry) (j : Life) (s : Sent) → Member s (sends (own_of job j) (account job history j) (life_deeds job history j)) → HasMet (life_deeds job history j) s.to
sent_met job history j s m =
    let e = made (own_of job j) (account job history j) (life_deeds job history j) s m in
    let to = to_new (own_of job j) (account job history j) e.before (sends (own_of job j) (account job history j) e.before) e.deed s e.new in
    let met = current_met e.before e.new.req.to.0 e.new.to e.new.current in
    let here = subst (λ (l : Life). HasMet e.before l) (sym to) met in
    subst (λ (ds : List Deed). HasMet ds s.to) (sym e.split) (met_longer e.newer (e.deed ∷ e.before) s.to (met_more e.deed e.before s.to here))

-- a life for which a datagram was pushed was opened
dest_opened : (job : Job) (history : List Entry) (i j : Life) (item : Item) (d : Datagram) → Played job history → TakenDue job history i j item d → IsOpened job history i
dest_opened job history i j item d played t =
    elim (went job history i j item d t) [
      | inl s ↦
          let m = due_member (own_of job j) s.sent s.packet t.place (life_deeds job history j) s.was_due in
          met_opened job history j i played (subst (λ (l : Life). HasMet (life_deeds job history j) l) s.to_is (sent_met job history j s.sent m))
      | inr r ↦
          let seen = owed_seen (own_of job j) (account job history j) r.reply (life_deeds job history j) r.owed in
          met_opened job history j i played (subst (λ (l : Life). HasMet (life_deeds job history j) l) r.to_is (elim seen [ inl a ↦ inr a | inr a ↦ inl a.0 ]))
    ]

-- another life is current
current_other : (o : Option Life) (from : Life) → is_other o from ≡ true → (x : Life) × (o ≡ Some x) × (same_life x from ≡ false)
unfolding is_other
current_other None from h = cc
current_other (Some x) from h = (x, refl, not-true (same_life x from) h)

-- what came is from the current life of its port
from_current : (job : Job) (history : List Entry) (i j : Life) → AllOne job → Played job history
    → IsOpened job history j → is_other (current (life_deeds job history i) j.port.0) j ≡ false
from_current job history i j one played opened =
    false_from_ne_true (is_other (current (life_deeds job history i) j.port.0) j) (λ t.
    let x = current_other (current (life_deeds job history i) j.port.0) j t in
    let met = met_opened job history i x.0 played (current_met (life_deeds job history i) j.port.0 x.0 x.1) in
    let port = current_port (life_deeds job history i) j.port.0 x.0 x.1 in
    let same = opened_same job history x.0 j one met opened port in
    let yes' = ap (λ (l : Life). same_life l j) same ∙ same_life-refl j in
    let no' = x.2 in
    cc)

-- no case of lives holds
no_case : (a b : Bool) (x y c : Class) → a ≡ false → b ≡ false → first_case ((a, Some x) ∷ (b, Some y) ∷ []) None ≡ Some c → ⊥
unfolding first_case
no_case false false x y c h k e = cc
no_case true b x y c h k e = cc
no_case false true x y c h k e = cc

-- a note has no class
note_kept : (s : Scene) (d : Datagram) (note : NoteBody) (c : Class) → body_lives_class s d (Note note) ≡ Some c → ⊥
unfolding body_lives_class
note_kept s d note c h = cc

-- the scene of a port while a life is open
opened_log : (job : Job) (before : List Entry) (port : ℕ) (to : Connid) → open_life (port_deeds job port before) ≡ Some to
    → own_scene job port (port_deeds job port before)
    ≡ life_scene (port_count job) (own_of job (life_of port to)) (port_deeds job port before) (life_deeds job before (life_of port to))
unfolding life_deeds
opened_log job before port to h = opened_scene job port to (port_deeds job port before) h

-- a datagram that came between lives has no class
between_kept : (job : Job) (before : List Entry) (port : ℕ) (d : Datagram) (from to : Connid) (load : Load) (c : Class) → AllOne job → Played job before → d.dst.0 ≡ port
    → PushedIn d (log_of d.src.0 before) → d.body ≡ Between from to load
    → body_lives_class (own_scene job port (port_deeds job port before)) d (Between from to load) ≡ Some c → ⊥
unfolding body_lives_class own_of
between_kept job before port d from to load c one played dst pushed body h =
    let i = life_of port to in
    let j = life d.src from in
    let item = item_of load in
    let as' : TakenAs j to item d = record { load = load; src_is = refl; body_is = body; item_is = refl } in
    let t = pushed_taken job before i j item d played as' dst pushed in
    let here = dest_opened job before i j item d played t in
    let open' = opened_open job before i one here in
    let s = own_scene job port (port_deeds job port before) in
    let is = opened_log job before port to open' in
    let now : is_connid s.now to ≡ true = subst (λ (x : Scene). is_connid x.now to ≡ true) (sym is) (is_connid-from (Some to) to refl) in
    let source = from_current job before i j one played (pushed_opened job before j d t.place t.placed) in
    let other : is_other (current s.log d.src.0) j ≡ false = subst (λ (x : Scene). is_other (current x.log d.src.0) j ≡ false) (sym is) source in
    no_case (not (is_connid s.now to)) (is_other (current s.log d.src.0) j) ToOther FromOther c (ap not now) other h

-- what a datagram that came has in it has no class
body_kept : (job : Job) (before : List Entry) (port : ℕ) (d : Datagram) (body : Body) (c : Class) → AllOne job → Played job before → d.dst.0 ≡ port
    → PushedIn d (log_of d.src.0 before) → d.body ≡ body → body_lives_class (own_scene job port (port_deeds job port before)) d body ≡ Some c → ⊥
body_kept job before port d (Note note) c one played dst pushed is h = note_kept (own_scene job port (port_deeds job port before)) d note c h
body_kept job before port d (Between from to load) c one played dst pushed is h = between_kept job before port d from to load c one played dst pushed is h

-- what is taken is not dropped
taken_not_dropped : (s : Scene) (d : Datagram) (body : Body) (c : Class) → Dropped c ≡ taken_answer s d body → ⊥
unfolding taken_answer
taken_not_dropped s d (Note note) c h = cc
taken_not_dropped s d (Between from to load) c h = cc

-- what is dropped has a class
dropped_class : (s : Scene) (d : Datagram) (c : Class) (o : Option Class) → Dropped c ≡ class_answer s d o → (x : Class) × (o ≡ Some x)
unfolding class_answer
dropped_class s d c None h = absurd (taken_not_dropped s d d.body c h)
dropped_class s d c (Some x) h = (x, refl)

-- the newest entry drops nothing
kept_by : (job : Job) (before : List Entry) (e : Entry) (act : Act) → AllOne job → AllFree job → Played job before → Comes before e act
    → Does job class_of (own_scene job e.port.0 (port_deeds job e.port.0 before)) (log_of e.port.0 before) e act → is_drop act ≡ true → ⊥
unfolding is_drop handled_answer lives_class
kept_by job before e (Handle d (Dropped c)) one free played comes does h =
    let s = own_scene job e.port.0 (port_deeds job e.port.0 before) in
    let x = dropped_class s d c (class_of s d) does.0 in
    let l = sym (class_lives job before e d (Dropped c) free played comes) ∙ x.1 in
    body_kept job before e.port.0 d d.body x.0 one played (ap (λ (p : PortNo). p.0) comes.0) comes.1 refl l
kept_by job before e _ one free played comes does h = cc

-- no entry drops
none_drop : (job : Job) (history : List Entry) → AllOne job → AllFree job → Played job history → list_any (λ (e : Entry). is_drop e.act) history ≡ true → ⊥
none_drop job [] one free played h = cc
none_drop job (e ∷ before) one free played h =
    let earlier = played_before job e before played in
    elim (or_cases (is_drop e.act) (list_any (λ (e : Entry). is_drop e.act) before) h) [
      | inl a ↦ kept_by job before e e.act one free earlier played.wire.1 (own_entry job e before (played.locals e.port.0)).2 a
      | inr a ↦ none_drop job before one free earlier a
    ]

-- where each rank has one life, nothing is dropped
pub none_dropped : (job : Job) (history : List Entry) → AllFree job → Played job history → NoneIsDropped job history
none_dropped job history free played one =
    false_from_ne_true (list_any (λ (e : Entry). is_drop e.act) history) (λ t. none_drop job history one free played t)
