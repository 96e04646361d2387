-- The law the other way round: the logs of a lawful history are right by themselves.
use Rattle.std.proofs.Common.{◌≡◌, ℕ, List, [], ◌∷◌, refl, sym, ◌∙◌, ap, subst}
use Rattle.std.specs.Prelude.{IsTrue}
use Rattle.rdm_wire.specs.declared.Datagram.{Datagram}
use Rattle.rdm_model.specs.declared.job.Job.{Job}
use Rattle.rdm_model.specs.declared.answer.Handled.{Handled}
use Rattle.rdm_model.specs.declared.entry.Entry.{Entry}
use Rattle.rdm_model.specs.declared.entry.Act.{Act}
use Rattle.rdm_model.specs.declared.entry.Act.TheVariants.{Handle}
use Rattle.rdm_model.specs.Deeds.{Deed, log_of, open_life}
use Rattle.rdm_model.specs.Beginnings.{Messages, life_at}
use Rattle.rdm_model.specs.Scenes.{Scene, scene}
use Rattle.rdm_model.specs.Jobs.{is_fair, law_ops}
use Rattle.rdm_model.specs.Classes.{class_of, lives_class}
use Rattle.rdm_model.specs.Steps.{Fits}
use Rattle.rdm_model.specs.Local.{own_scene, Local}
use Rattle.rdm_model.specs.Lawful.{port_deeds, sent_to, sent_scene, Lawful}
use Rattle.rdm_model.specs.Wire.{Comes, IsInOrder}
use Rattle.rdm_model.proofs.SameReceives.{is_filled_same}
use Rattle.rdm_model.proofs.SameRegions.{Agree}
use Rattle.rdm_model.proofs.SameAnswers.{by_account, AgreesIn}
use Rattle.rdm_model.proofs.SameClasses.{lives_class_same}
use Rattle.rdm_model.proofs.SameFits.{fits_same}
use Rattle.rdm_law.proofs.Lives.Logs.{at_log_of}
use Rattle.rdm_law.proofs.Accounts.Wired.{Played}
use Rattle.rdm_law.proofs.Accounts.SendsAre.{sends_are}
use Rattle.rdm_law.proofs.Classes.ClassLives.{AllFree, class_lives}
use Rattle.rdm_law.proofs.Central.Lawfully.{sent_account, agree_now}

-- accounts agree both ways
pub agree_back : (first : ℕ) (ms ns : Messages) (log : List Deed) → Agree first ms ns log → Agree first ns ms log
agree_back first ms ns log a =
    record {
      heads = λ source n h is. sym (a.heads source n h is);
      bytes = λ p is. sym (a.bytes p (is_filled_same first ms.head ns.head log p a.heads ∙ is));
    }

-- the scene by what was sent, by what the port took itself
back_account : (job : Job) (port : ℕ) (before : List Entry)
    → by_account (sent_scene job port before) (own_scene job port (port_deeds job port before)).ms ≡ own_scene job port (port_deeds job port before)
unfolding sent_scene own_scene scene
back_account job port before = refl

-- what was sent agrees with what was taken
agree_sent_own : (job : Job) (port : ℕ) (before : List Entry) → Played job before
    → AgreesIn (sent_scene job port before) (own_scene job port (port_deeds job port before)).ms
agree_sent_own job port before played =
    let s = own_scene job port (port_deeds job port before) in
    let ns = sent_to job before (life_at port (open_life (port_deeds job port before))) in
    let a = agree_now job port before played (sends_are job before played) in
    subst (λ (x : Scene). AgreesIn x s.ms) (sym (sent_account job port before)) (agree_back s.own.limits.first s.ms ns s.log a)

-- the class by lives is the class by the whole table
class_back : (job : Job) (before : List Entry) (e : Entry) (d : Datagram) (answer : Handled) → AllFree job → Played job before → Comes before e (Handle d answer)
    → lives_class (sent_scene job e.port.0 before) d ≡ class_of (own_scene job e.port.0 (port_deeds job e.port.0 before)) d
class_back job before e d answer free played c =
    let s = own_scene job e.port.0 (port_deeds job e.port.0 before) in
    let ns = sent_to job before (life_at e.port.0 (open_life (port_deeds job e.port.0 before))) in
    ap (λ (x : Scene). lives_class x d) (sent_account job e.port.0 before) ∙ sym (lives_class_same s ns d) ∙ sym (class_lives job before e d answer free played c)

-- an entry that fits by what was sent fits by what its port took
fits_own : (job : Job) (before : List Entry) (e : Entry) → AllFree job → Played job before → Comes before e e.act
    → Fits job lives_class (sent_scene job e.port.0 before) (log_of e.port.0 before) e
    → Fits job class_of (own_scene job e.port.0 (port_deeds job e.port.0 before)) (log_of e.port.0 before) e
fits_own job before e free played comes fits =
    let s = own_scene job e.port.0 (port_deeds job e.port.0 before) in
    let C : Act → Type 0 = λ act. Comes before e act in
    let back = back_account job e.port.0 before in
    subst (λ (x : Scene). Fits job class_of x (log_of e.port.0 before) e) back
    (fits_same job lives_class class_of (sent_scene job e.port.0 before) s.ms (log_of e.port.0 before) e (agree_sent_own job e.port.0 before played)
    (λ d answer is. class_back job before e d answer free played (subst C is comes) ∙ ap (λ (x : Scene). class_of x d) (sym back)) fits)

-- a port's log with its newest entry is right by itself
local_entry : (job : Job) (before : List Entry) (e : Entry) (port : ℕ) → Local job port (log_of port before)
    → Fits job class_of (own_scene job e.port.0 (port_deeds job e.port.0 before)) (log_of e.port.0 before) e → e.port.0 ≡ port → Local job port (e ∷ log_of port before)
unfolding port_deeds
local_entry job before e port earlier fits is = (
  earlier,
  is,
  subst (λ (p : ℕ). Fits job class_of (own_scene job p (port_deeds job p before)) (log_of p before) e) is fits,
)

-- the logs of a lawful history are right by themselves
pub lawful_played : (job : Job) (history : List Entry) → IsTrue (is_fair law_ops job) → AllFree job → Lawful job history → Played job history
unfolding log_of
lawful_played job [] fair free l = record { fair = fair; locals = λ port. tt; wire = tt }
lawful_played job (e ∷ before) fair free l =
    let earlier = lawful_played job before fair free l.0 in
    let fits = fits_own job before e free earlier l.2 l.3 in
    record {
      fair = fair;
      locals = λ port. at_log_of (λ log. Local job port log) port e before (λ is. local_entry job before e port (earlier.locals port) fits is) (λ is. earlier.locals port);
      wire = (earlier.wire, l.2);
    }

-- the entries of a lawful history are in order
pub lawful_order : (job : Job) (history : List Entry) → Lawful job history → IsInOrder history
lawful_order job [] l = tt
lawful_order job (e ∷ before) l = (lawful_order job before l.0, l.1)
