-- The class of what a port of a job pushed is that by lives alone.
use Rattle.std.proofs.Common.{◌≡◌, ℕ, Bool, true, false, List, [], ◌∷◌, Option, Some, None, refl, sym, ◌∙◌, ap, subst}
use Rattle.std.specs.Prelude.{not, ◌&&◌, is_none}
use Rattle.rdm_lists.specs.Lists.{first_case}
use Rattle.rdm_num.specs.Lives.{life}
use Rattle.rdm_num.specs.declared.numbers.PortNo.{PortNo}
use Rattle.rdm_num.specs.declared.numbers.Connid.{Connid}
use Rattle.rdm_num.specs.declared.numbers.Life.{Life}
use Rattle.rdm_wire.specs.declared.Datagram.{Datagram}
use Rattle.rdm_wire.specs.declared.Body.{Body}
use Rattle.rdm_wire.specs.declared.Body.TheVariants.{Note, Between}
use Rattle.rdm_wire.specs.declared.Load.{Load}
use Rattle.rdm_model.specs.declared.job.Job.{Job}
use Rattle.rdm_model.specs.declared.answer.Class.{Class}
use Rattle.rdm_model.specs.declared.answer.Class.TheVariants.{ToOther, FromOther}
use Rattle.rdm_model.specs.declared.answer.Handled.{Handled}
use Rattle.rdm_model.specs.declared.entry.Entry.{Entry}
use Rattle.rdm_model.specs.declared.entry.Act.TheVariants.{Handle}
use Rattle.rdm_model.specs.Deeds.{Deed, Item, item_of, log_of, open_life, is_connid}
use Rattle.rdm_model.specs.Beginnings.{own_of, port_count}
use Rattle.rdm_model.specs.Currents.{current}
use Rattle.rdm_model.specs.Sources.{is_other, is_malformed, has_raw}
use Rattle.rdm_model.specs.Scenes.{Scene, scene}
use Rattle.rdm_model.specs.ClassFacts.{class_facts}
use Rattle.rdm_model.specs.Classes.{is_mismatch, is_overlap, item_class, body_class, class_of, body_lives_class, lives_class, is_bad_key, is_no_op, item_class_by}
use Rattle.rdm_model.specs.Local.{own_scene}
use Rattle.rdm_model.specs.Lawful.{port_deeds, life_deeds}
use Rattle.rdm_model.specs.Wire.{PushedIn, IsUnhandled, Comes}
use Rattle.rdm_law.proofs.Lives.Lives.{life_of, life_scene, opened_scene, is_connid-true}
use Rattle.rdm_law.proofs.Accounts.Wired.{Played, TakenAs, pushed_taken}
use Rattle.rdm_law.proofs.Classes.Classed.{taken_from}
use Rattle.rdm_law.proofs.Accounts.Arrives.{Arrives, arriving_scene}
use Rattle.std.proofs.lemmas.Bool.{not-false}

-- no test that asks more than lives holds of what came from a life
pub record IsFree (s : Scene) (from : Life) (item : Item) : Type 0 where
  pub well_formed : is_malformed from item ≡ false
  pub known : (is_none (current s.log from.port.0) && not (has_raw item)) ≡ false
  pub good_key : is_bad_key (class_facts s) from item ≡ false
  pub has_op : is_no_op (class_facts s) from item ≡ false
  pub agrees : is_mismatch (class_facts s) from item ≡ false
  pub new : is_overlap (class_facts s) from item ≡ false

-- the class by lives
abbrev lives_case : Bool → Bool → Option Class
lives_case other_life other_source = first_case ((other_life, Some ToOther) ∷ (other_source, Some FromOther) ∷ []) None

-- the first case holds
first_true : {A : Type 0} (b : Bool) (x : A) (cs : List (Bool × A)) (last : A) → b ≡ true → first_case ((b, x) ∷ cs) last ≡ x
unfolding first_case
first_true b x cs last h = rw h refl

-- the first case does not hold
first_false : {A : Type 0} (b : Bool) (x : A) (cs : List (Bool × A)) (last : A) → b ≡ false → first_case ((b, x) ∷ cs) last ≡ first_case cs last
unfolding first_case
first_false b x cs last h = rw h refl

-- no case of lives holds
lives_none : (a b : Bool) → a ≡ false → b ≡ false → lives_case a b ≡ None
unfolding first_case
lives_none a b h k = rw (h, k) refl

-- an item for another life is ToOther
item_other : (s : Scene) (from : Life) (to : Connid) (item : Item) → not (is_connid s.now to) ≡ true → item_class s from to item ≡ Some ToOther
unfolding item_class_by
item_other s from to item h = first_true (not (is_connid s.now to)) (Some ToOther) _ None h

-- an item of another life than the current one is FromOther
item_source : (s : Scene) (from : Life) (to : Connid) (item : Item) → not (is_connid s.now to) ≡ false → is_other (current s.log from.port.0) from ≡ true
    → item_class s from to item ≡ Some FromOther
unfolding item_class_by
item_source s from to item h k =
    first_false (not (is_connid s.now to)) (Some ToOther) _ None h ∙ first_true (is_other (current s.log from.port.0) from) (Some FromOther) _ None k

-- where a datagram that passes the tests of lives passes the others, its class is that by lives
item_lives : (s : Scene) (from : Life) (to : Connid) (item : Item)
    → (not (is_connid s.now to) ≡ false → is_other (current s.log from.port.0) from ≡ false → IsFree s from item)
    → item_class s from to item ≡ lives_case (not (is_connid s.now to)) (is_other (current s.log from.port.0) from)
item_lives s from to item free =
    (elim (not (is_connid s.now to)) as (λ a. not (is_connid s.now to) ≡ a → item_class s from to item ≡ lives_case a (is_other (current s.log from.port.0) from)) [
      | true ↦ λ is. item_other s from to item is ∙ sym (first_true true (Some ToOther) _ None refl)
      | false ↦ λ is.
          (elim (is_other (current s.log from.port.0) from) as (λ b. is_other (current s.log from.port.0) from ≡ b → item_class s from to item ≡ lives_case false b) [
            | true ↦ λ other. item_source s from to item is other ∙ sym (first_false false (Some ToOther) _ None refl ∙ first_true true (Some FromOther) _ None refl)
            | false ↦ λ other.
                let f = free is other in
                taken_from s from to item (record {
                  for_life = is;
                  from_current = other;
                  well_formed = f.well_formed;
                  known = f.known;
                  good_key = f.good_key;
                  has_op = f.has_op;
                  agrees = f.agrees;
                  new = f.new;
                })
                ∙ sym (lives_none false false refl refl)
          ]) refl
    ]) refl

-- what arrives passes each test
abbrev pub AllFree : Job → Type 0
AllFree job =
    (history : List Entry) (life' from : Life) (item : Item) (d : Datagram) → Arrives job history life' from item d → (ports : ℕ) (port_log : List Deed)
    → IsFree (arriving_scene job history life' ports port_log) from item

-- a datagram between lives that came
arrived_as : (job : Job) (before : List Entry) (port : ℕ) (d : Datagram) (from to : Connid) (load : Load) → Played job before → d.dst.0 ≡ port
    → PushedIn d (log_of d.src.0 before) → IsUnhandled d before → d.body ≡ Between from to load
    → is_other (current (life_deeds job before (life_of port to)) d.src.0) (life d.src from) ≡ false → Arrives job before (life_of port to) (life d.src from) (item_of load) d
arrived_as job before port d from to load played dst pushed fresh body other =
    let t : TakenAs (life d.src from) to (item_of load) d = record { load = load; src_is = refl; body_is = body; item_is = refl } in
    record {
      played = played;
      taken = pushed_taken job before (life_of port to) (life d.src from) (item_of load) d played t dst pushed;
      fresh = fresh;
      current = other;
    }

-- the life that a datagram is for is open
scene_now : (job : Job) (port : ℕ) (log : List Deed) (to : Connid) → not (is_connid (own_scene job port log).now to) ≡ false → open_life log ≡ Some to
unfolding own_scene scene
scene_now job port log to h = is_connid-true (open_life log) to (not-false (is_connid (open_life log) to) h)

-- a datagram between lives that came passes each test
between_free : (job : Job) (before : List Entry) (port : ℕ) (d : Datagram) (from to : Connid) (load : Load) → AllFree job → Played job before → d.dst.0 ≡ port
    → PushedIn d (log_of d.src.0 before) → IsUnhandled d before → d.body ≡ Between from to load
    → (s : Scene) → s ≡ life_scene (port_count job) (own_of job (life_of port to)) (port_deeds job port before) (life_deeds job before (life_of port to))
    → is_other (current s.log d.src.0) (life d.src from) ≡ false → IsFree s (life d.src from) (item_of load)
between_free job before port d from to load free played dst pushed fresh body s is other =
    let here = life_scene (port_count job) (own_of job (life_of port to)) (port_deeds job port before) (life_deeds job before (life_of port to)) in
    let other' : is_other (current here.log d.src.0) (life d.src from) ≡ false = subst (λ (x : Scene). is_other (current x.log d.src.0) (life d.src from) ≡ false) is other in
    let a = arrived_as job before port d from to load played dst pushed fresh body other' in
    let f = free before (life_of port to) (life d.src from) (item_of load) d a (port_count job) (port_deeds job port before) in
    subst (λ (x : Scene). IsFree x (life d.src from) (item_of load)) (sym is) f

-- the scene of a port while a life is open
opened_here : (job : Job) (before : List Entry) (port : ℕ) (to : Connid) → open_life (port_deeds job port before) ≡ Some to
    → own_scene job port (port_deeds job port before)
    ≡ life_scene (port_count job) (own_of job (life_of port to)) (port_deeds job port before) (life_deeds job before (life_of port to))
unfolding life_deeds
opened_here job before port to h = opened_scene job port to (port_deeds job port before) h

-- the class of what a datagram that came has in it is that by lives
body_lives : (job : Job) (before : List Entry) (port : ℕ) (d : Datagram) (body : Body) → AllFree job → Played job before → d.dst.0 ≡ port
    → PushedIn d (log_of d.src.0 before) → IsUnhandled d before → d.body ≡ body
    → body_class (own_scene job port (port_deeds job port before)) d body ≡ body_lives_class (own_scene job port (port_deeds job port before)) d body
unfolding body_class body_lives_class
body_lives job before port d (Note note) free played dst pushed fresh is = refl
body_lives job before port d (Between from to load) free played dst pushed fresh is =
    item_lives (own_scene job port (port_deeds job port before)) (life d.src from) to (item_of load)
    (λ now other.
    let open' = scene_now job port (port_deeds job port before) to now in
    between_free job before port d from to load free played dst pushed fresh is (own_scene job port (port_deeds job port before)) (opened_here job before port to open') other)

-- the class of a datagram that was pushed to a port and not handled is that by lives
pub class_waits : (job : Job) (history : List Entry) (port : ℕ) (d : Datagram) → AllFree job → Played job history → d.dst.0 ≡ port
    → PushedIn d (log_of d.src.0 history) → IsUnhandled d history
    → class_of (own_scene job port (port_deeds job port history)) d ≡ lives_class (own_scene job port (port_deeds job port history)) d
unfolding class_of lives_class
class_waits job history port d free played dst pushed fresh = body_lives job history port d d.body free played dst pushed fresh refl

-- so is the class of one that comes over the wire
pub class_lives : (job : Job) (before : List Entry) (e : Entry) (d : Datagram) (answer : Handled) → AllFree job → Played job before → Comes before e (Handle d answer)
    → class_of (own_scene job e.port.0 (port_deeds job e.port.0 before)) d ≡ lives_class (own_scene job e.port.0 (port_deeds job e.port.0 before)) d
class_lives job before e d answer free played c = class_waits job before e.port.0 d free played (ap (λ (p : PortNo). p.0) c.0) c.1 c.2
