-- The law: logs that are right by themselves, on a wire that delivers once, make a lawful history.
use Rattle.std.proofs.Common.{◌≡◌, ℕ, true, List, [], ◌∷◌, Option, Some, None, refl, sym, ◌∙◌, subst}
use Rattle.std.specs.Prelude.{IsTrue}
use Rattle.rdm_num.specs.declared.numbers.Connid.{Connid}
use Rattle.rdm_num.specs.declared.numbers.Life.{Life}
use Rattle.rdm_match.specs.Matcher.{is_pair}
use Rattle.rdm_model.specs.declared.job.Job.{Job}
use Rattle.rdm_model.specs.declared.answer.Handled.TheVariants.{Took as TookAnswer}
use Rattle.rdm_model.specs.declared.entry.Entry.{Entry}
use Rattle.rdm_model.specs.declared.entry.Act.{Act}
use Rattle.rdm_model.specs.declared.entry.Act.TheVariants.{Handle}
use Rattle.rdm_model.specs.Deeds.{Took, Item, is_connid, deed_of, log_of, open_life, of_life, of_open_life}
use Rattle.rdm_model.specs.Beginnings.{Messages, own_of, rank_of, port_count, life_at}
use Rattle.rdm_model.specs.Heard.{heard_head}
use Rattle.rdm_model.specs.Matches.{pairs, matching}
use Rattle.rdm_model.specs.Receives.{is_filled}
use Rattle.rdm_model.specs.Scenes.{Scene, scene, deeds_at}
use Rattle.rdm_model.specs.Classes.{class_of, lives_class}
use Rattle.rdm_model.specs.Steps.{Does, Fits}
use Rattle.rdm_model.specs.Local.{own_scene, heard_by, Local}
use Rattle.rdm_model.specs.Lawful.{port_deeds, life_deeds, sent_to, sent_scene, Carries, Confirms, Lawful}
use Rattle.rdm_model.specs.Jobs.{is_fair, law_ops}
use Rattle.rdm_law.specs.Law.{Law, JointLaw}
use Rattle.rdm_model.specs.Wire.{Comes, IsInOrder}
use Rattle.rdm_model.proofs.SameRegions.{Agree}
use Rattle.rdm_model.proofs.SameAnswers.{by_account, AgreesIn}
use Rattle.rdm_model.proofs.SameClasses.{lives_class_same}
use Rattle.rdm_model.proofs.SameFits.{fits_same}
use Rattle.rdm_law.proofs.Lives.Logs.{log_of-same}
use Rattle.rdm_law.proofs.Central.Joint.{joint_parts}
use Rattle.rdm_law.proofs.Central.Confirmed.{confirms_at}
use Rattle.rdm_law.proofs.Lives.Lives.{life_scene, life_of, life_step, opened_scene}
use Rattle.rdm_law.proofs.Accounts.Wired.{Played, played_before, act_took, took_to}
use Rattle.rdm_law.proofs.Accounts.Carried.{carried_parts}
use Rattle.rdm_law.proofs.Accounts.Sent.{SendsAre, agree_sent}
use Rattle.rdm_law.proofs.Accounts.SendsAre.{sends_are}
use Rattle.rdm_law.proofs.Accounts.Carries.{CarriesAt, carries_open}
use Rattle.rdm_law.proofs.Classes.ClassLives.{AllFree, class_lives}

-- the scene of a port by what was sent is its own by another account
pub sent_account : (job : Job) (port : ℕ) (before : List Entry)
    → sent_scene job port before ≡ by_account (own_scene job port (port_deeds job port before)) (sent_to job before (life_at port (open_life (port_deeds job port before))))
unfolding sent_scene own_scene scene
sent_account job port before = refl

-- accounts agree where nothing was done
agree_none : (first : ℕ) (ms ns : Messages) → Agree first ms ns []
unfolding heard_head is_filled matching is_pair
agree_none first ms ns = record { heads = λ source n h is. absurd (cc); bytes = λ p is. absurd (cc) }

-- the accounts of an open life agree
agree_life : (job : Job) (port : ℕ) (before : List Entry) (c : Connid) → Played job before → SendsAre job before
    → Agree (own_of job (life_of port c)).limits.first (heard_by job.limits.first (of_life c (port_deeds job port before))) (sent_to job before (life_of port c))
    (of_life c (port_deeds job port before))
unfolding life_deeds own_of
agree_life job port before c played are = agree_sent job before (life_of port c) played are

-- the accounts of a port agree
agree_at : (job : Job) (port : ℕ) (before : List Entry) (now : Option Connid) → Played job before → SendsAre job before
    → Agree (own_of job (life_at port now)).limits.first (heard_by job.limits.first (of_open_life now (port_deeds job port before))) (sent_to job before (life_at port now))
    (of_open_life now (port_deeds job port before))
unfolding of_open_life life_at
agree_at job port before None played are = agree_none _ _ _
agree_at job port before (Some c) played are = agree_life job port before c played are

-- the accounts of a port agree at each time
pub agree_now : (job : Job) (port : ℕ) (before : List Entry) → Played job before → SendsAre job before
    → AgreesIn (own_scene job port (port_deeds job port before)) (sent_to job before (life_at port (open_life (port_deeds job port before))))
unfolding own_scene scene
agree_now job port before played are = agree_at job port before (open_life (port_deeds job port before)) played are

-- the scene of a port with that life open, by what was sent
abbrev scene_by : Job → ℕ → List Entry → Option Connid → Scene
scene_by job port before now =
    record {
      ports = port_count job;
      now = now;
      own = own_of job (life_at port now);
      port_log = port_deeds job port before;
      log = of_open_life now (port_deeds job port before);
      ms = sent_to job before (life_at port now);
    }

-- the scene of a port by what was sent, by its open life
scene_is_by : (job : Job) (port : ℕ) (before : List Entry) → sent_scene job port before ≡ scene_by job port before (open_life (port_deeds job port before))
unfolding sent_scene scene
scene_is_by job port before = refl

-- a port that has no life open takes nothing from a life
closed_takes : (job : Job) (port : ℕ) (before : List Entry) (e : Entry) (source : Life) (item : Item) → open_life (port_deeds job port before) ≡ None
    → Does job class_of (own_scene job port (port_deeds job port before)) (log_of port before) e e.act
    → deed_of (rank_of job port).ops e.act ≡ Took source item → ⊥
unfolding own_scene scene is_connid
closed_takes job port before e source item none does is =
    let r = act_took (rank_of job port).ops e.act source item is in
    let s = own_scene job port (port_deeds job port before) in
    let h : Does job class_of s (log_of port before) e (Handle r.0 (TookAnswer r.1)) = subst (λ x. Does job class_of s (log_of port before) e x) r.3 does in
    let t = took_to s r.0 source.connid r.2 r.4.load r.1 h.0 r.4.body_is in
    let f : is_connid None r.2 ≡ true = subst (λ o. is_connid o r.2 ≡ true) none t in
    cc

-- what an open life takes carries what was sent
carries_life : (job : Job) (before : List Entry) (e : Entry) (c : Connid) → Played job before → SendsAre job before → Comes before e e.act
    → open_life (port_deeds job e.port.0 before) ≡ Some c
    → Does job class_of (own_scene job e.port.0 (port_deeds job e.port.0 before)) (log_of e.port.0 before) e e.act
    → CarriesAt job (life_of e.port.0 c) (sent_to job before (life_of e.port.0 c)) (of_life c (port_deeds job e.port.0 before)) (deed_of (rank_of job e.port.0).ops e.act)
unfolding life_deeds port_deeds
carries_life job before e c played are comes now does =
    let port_log = deeds_at job e.port.0 (log_of e.port.0 before) in
    let own = own_of job (life_of e.port.0 c) in
    let does' : Does job class_of (life_scene (port_count job) own port_log (of_life c port_log)) (log_of e.port.0 before) e e.act =
    subst (λ x. Does job class_of x (log_of e.port.0 before) e e.act) (opened_scene job e.port.0 c port_log now) does in
    carries_open job before e c played are comes now does (life_step job e.port.0 c (port_count job) port_log (of_life c port_log) (log_of e.port.0 before) e e.act refl does')

-- what a port takes carries what was sent, whichever life is open
carries_at : (job : Job) (before : List Entry) (e : Entry) (now : Option Connid) → Played job before → SendsAre job before → Comes before e e.act
    → open_life (port_deeds job e.port.0 before) ≡ now
    → Does job class_of (own_scene job e.port.0 (port_deeds job e.port.0 before)) (log_of e.port.0 before) e e.act
    → Carries (scene_by job e.port.0 before now) (deed_of (rank_of job e.port.0).ops e.act)
unfolding life_at of_open_life
carries_at job before e None played are comes now does source n x is =
    let p = carried_parts (pairs (own_of job (life_at e.port.0 None)).limits.first (sent_to job before (life_at e.port.0 None)).head []) source n
    (deed_of (rank_of job e.port.0).ops e.act) x is in
    absurd (closed_takes job e.port.0 before e source p.0 now does p.1)
carries_at job before e (Some c) played are comes now does source n x is = carries_life job before e c played are comes now does source n x is

-- what a port takes carries what was sent
carries_scene : (job : Job) (before : List Entry) (e : Entry) → Played job before → SendsAre job before → Comes before e e.act
    → Does job class_of (own_scene job e.port.0 (port_deeds job e.port.0 before)) (log_of e.port.0 before) e e.act
    → Carries (sent_scene job e.port.0 before) (deed_of (rank_of job e.port.0).ops e.act)
carries_scene job before e played are comes does =
    subst (λ s. Carries s (deed_of (rank_of job e.port.0).ops e.act)) (sym (scene_is_by job e.port.0 before))
    (carries_at job before e (open_life (port_deeds job e.port.0 before)) played are comes refl does)

-- what a port does completes no confirmed send ahead of its receive
confirms_scene : (job : Job) (before : List Entry) (e : Entry) → Played job before → SendsAre job before → Comes before e e.act
    → Does job class_of (own_scene job e.port.0 (port_deeds job e.port.0 before)) (log_of e.port.0 before) e e.act
    → Confirms job before (sent_scene job e.port.0 before) (deed_of (rank_of job e.port.0).ops e.act)
unfolding sent_scene scene
confirms_scene job before e played are comes does =
    confirms_at job before e (open_life (port_deeds job e.port.0 before)) (sent_scene job e.port.0 before) played are comes refl does refl refl refl

-- an entry that fits by what its port took fits by what was sent
fits_sent : (job : Job) (before : List Entry) (e : Entry) → AllFree job → Played job before → SendsAre job before → Comes before e e.act
    → Fits job class_of (own_scene job e.port.0 (port_deeds job e.port.0 before)) (log_of e.port.0 before) e
    → Fits job lives_class (sent_scene job e.port.0 before) (log_of e.port.0 before) e
fits_sent job before e free played are comes fits =
    let s = own_scene job e.port.0 (port_deeds job e.port.0 before) in
    let ns = sent_to job before (life_at e.port.0 (open_life (port_deeds job e.port.0 before))) in
    let C : Act → Type 0 = λ act. Comes before e act in
    subst (λ x. Fits job lives_class x (log_of e.port.0 before) e) (sym (sent_account job e.port.0 before))
    (fits_same job class_of lives_class s ns (log_of e.port.0 before) e (agree_now job e.port.0 before played are)
    (λ d answer is. class_lives job before e d answer free played (subst C is comes) ∙ lives_class_same s ns d) fits)

-- the newest entry fits by what its port took
pub own_entry : (job : Job) (e : Entry) (before : List Entry) → Local job e.port.0 (log_of e.port.0 (e ∷ before))
    → Fits job class_of (own_scene job e.port.0 (port_deeds job e.port.0 before)) (log_of e.port.0 before) e
unfolding port_deeds
own_entry job e before l =
    let P : List Entry → Type 0 = λ log. Local job e.port.0 log in
    let mine : Local job e.port.0 (e ∷ log_of e.port.0 before) = subst P (log_of-same e.port.0 e before refl) l in
    mine.2

-- each entry is lawful
law_from : (job : Job) (history : List Entry) → AllFree job → IsInOrder history → Played job history → Lawful job history
law_from job [] free order played = tt
law_from job (e ∷ before) free order played =
    let earlier = played_before job e before played in
    let are = sends_are job before earlier in
    let fits = own_entry job e before (played.locals e.port.0) in (
      law_from job before free order.0 earlier,
      order.1,
      played.wire.1,
      fits_sent job before e free earlier are played.wire.1 fits,
      carries_scene job before e earlier are played.wire.1 fits.2,
      confirms_scene job before e earlier are played.wire.1 fits.2,
    )

-- the law, where what arrives passes each test
pub the_law_where : ((job : Job) → IsTrue (is_fair law_ops job) → AllFree job) → Law
the_law_where free job history fair order wire locals = law_from job history (free job fair) order (record { fair = fair; locals = locals; wire = wire })

-- the law of logs, where what arrives passes each test
pub the_joint_law_where : ((job : Job) → IsTrue (is_fair law_ops job) → AllFree job) → JointLaw
the_joint_law_where free job logs history fair joint d locals =
    let p = joint_parts job logs history joint d locals in
    the_law_where free job history fair joint.in_order p.wire p.locals
