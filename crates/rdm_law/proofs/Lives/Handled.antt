-- The deed of a life by the newest entry, and the datagram that it takes.
use Rattle.std.proofs.Common.{◌≡◌, ℕ, List, ◌∷◌, Some, inl, inr, sym, ◌∙◌, ap, subst}
use Rattle.std.proofs.lemmas.Bool.{cases_eq}
use Rattle.rdm_num.specs.declared.numbers.PortNo.{PortNo}
use Rattle.rdm_num.specs.declared.numbers.Connid.{Connid}
use Rattle.rdm_num.specs.declared.numbers.Life.{Life}
use Rattle.rdm_wire.specs.declared.Datagram.{Datagram}
use Rattle.rdm_model.specs.declared.job.Job.{Job}
use Rattle.rdm_model.specs.declared.entry.Entry.{Entry}
use Rattle.rdm_model.specs.declared.entry.Act.{Act}
use Rattle.rdm_model.specs.declared.entry.Act.TheVariants.{Handle}
use Rattle.rdm_model.specs.declared.answer.Handled.TheVariants.{Took as TookAnswer}
use Rattle.rdm_model.specs.Deeds.{Deed, Took, Item, deed_of, deeds, log_of, open_life, of_life}
use Rattle.rdm_model.specs.Beginnings.{rank_of}
use Rattle.rdm_model.specs.Scenes.{deeds_at}
use Rattle.rdm_model.specs.Classes.{class_of}
use Rattle.rdm_model.specs.Steps.{Does}
use Rattle.rdm_model.specs.Local.{own_scene, Local}
use Rattle.rdm_model.specs.Lawful.{life_deeds, port_deeds}
use Rattle.rdm_model.specs.Wire.{IsUnhandled, Comes}
use Rattle.rdm_law.proofs.Lives.Logs.{log_of-same, log_of-other}
use Rattle.rdm_law.proofs.Lives.Lives.{life_of, at_of_life}
use Rattle.rdm_law.proofs.Accounts.Pushed.{of_life_newest}
use Rattle.rdm_law.proofs.Accounts.Wired.{Played, played_before, HandledBy, TakenDue, act_took, taken_to, pushed_taken}

-- what holds of the deeds of a life as the history is longer by an entry: it is the life's, or not
pub at_life : (P : List Deed → Type 0) (job : Job) (l : Life) (e : Entry) (before : List Entry)
    → (e.port.0 ≡ l.port.0 → open_life (port_deeds job l.port.0 before) ≡ Some l.connid → P (deed_of (rank_of job l.port.0).ops e.act ∷ life_deeds job before l))
    → P (life_deeds job before l) → P (life_deeds job (e ∷ before) l)
unfolding life_deeds port_deeds deeds_at deeds
at_life P job l e before same other =
    let ops = (rank_of job l.port.0).ops in
    let port = l.port.0 in
    elim (cases_eq e.port.0 port) [
      | inl s ↦
          subst (λ (log : List Entry). P (of_life l.connid (deeds ops log))) (sym (log_of-same port e before s))
          (at_of_life P l.connid (deed_of ops e.act) (deeds ops (log_of port before)) (λ o. same s o) (λ o. other))
      | inr s ↦ subst (λ (log : List Entry). P (of_life l.connid (deeds ops log))) (sym (log_of-other port e before s)) other
    ]

-- the deeds of a life that is open, by the newest entry of its port
pub life_newest : (job : Job) (l : Life) (e : Entry) (before : List Entry) → e.port.0 ≡ l.port.0 → open_life (port_deeds job l.port.0 before) ≡ Some l.connid
    → life_deeds job (e ∷ before) l ≡ deed_of (rank_of job l.port.0).ops e.act ∷ life_deeds job before l
unfolding life_deeds port_deeds
life_newest job l e before s o =
    ap (λ (log : List Entry). of_life l.connid (deeds_at job l.port.0 log)) (log_of-same l.port.0 e before s) ∙ of_life_newest job l.port.0 l.connid e (log_of l.port.0 before) o

-- the datagram that a life takes by the newest entry: it was pushed before by the life that it names, and not handled before
pub record NewTake (job : Job) (before : List Entry) (e : Entry) (l source : Life) (item : Item) : Type 0 where
  pub datagram : Datagram
  pub due' : TakenDue job before l source item datagram
  pub fresh : IsUnhandled datagram before
  pub handled : HandledBy l.port.0 datagram (e ∷ before)

-- the same, by the port and identifier of the life
new_take_at : (job : Job) (before : List Entry) (e : Entry) (port : ℕ) (c : Connid) (source : Life) (item : Item) → Played job (e ∷ before) → e.port.0 ≡ port
    → open_life (deeds_at job port (log_of port before)) ≡ Some c → deed_of (rank_of job port).ops e.act ≡ Took source item
    → NewTake job before e (life_of port c) source item
new_take_at job before e port c source item played s o is =
    let local : Local job port (e ∷ log_of port before) = subst (λ (log : List Entry). Local job port log) (log_of-same port e before s) (played.locals port) in
    let does : Does job class_of (own_scene job port (deeds_at job port (log_of port before))) (log_of port before) e e.act = local.2.2 in
    let r = act_took (rank_of job port).ops e.act source item is in
    let t = taken_to job port c r.2 source item e (log_of port before) r.0 r.1 o does r.3 r.4 in
    let C : Act → Type 0 = λ act. Comes before e act in
    let came : Comes before e (Handle r.0 (TookAnswer r.1)) = subst C r.3 played.wire.1 in
    record {
      datagram = r.0;
      due' = pushed_taken job before (life_of port c) source item r.0 (played_before job e before played) t (ap (λ (p : PortNo). p.0) came.0 ∙ s) came.1;
      fresh = came.2;
      handled = inl (r.1, r.3, s);
    }

-- what a life takes by the newest entry is a datagram that came over the wire
pub new_take : (job : Job) (before : List Entry) (e : Entry) (l source : Life) (item : Item) → Played job (e ∷ before) → e.port.0 ≡ l.port.0
    → open_life (port_deeds job l.port.0 before) ≡ Some l.connid → deed_of (rank_of job l.port.0).ops e.act ≡ Took source item
    → NewTake job before e l source item
unfolding port_deeds
new_take job before e l source item played s o is = new_take_at job before e l.port.0 l.connid source item played s o is
