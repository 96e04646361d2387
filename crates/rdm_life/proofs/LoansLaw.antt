-- What is lent for a datagram of an open life stays so by each deed that spares it.
use Rattle.std.proofs.Common.{◌≡◌, ℕ, ◌<◌, List, ◌∷◌, Some, None, sym, ◌∙◌, subst}
use Rattle.rdm_num.specs.declared.numbers.Life.{Life}
use Rattle.rdm_num.specs.declared.numbers.Connid.{Connid}
use Rattle.rdm_wire.specs.declared.Load.{Load}
use Rattle.rdm_model.specs.declared.job.Job.{Job}
use Rattle.rdm_model.specs.declared.entry.Entry.{Entry}
use Rattle.rdm_model.specs.Beginnings.{Own, own_of, rank_of, port_count}
use Rattle.rdm_model.specs.Classes.{item_class}
use Rattle.rdm_model.specs.Deeds.{Deed, item_of, deed_of, open_life, of_life}
use Rattle.rdm_model.specs.Local.{Local}
use Rattle.rdm_model.specs.Scenes.{Scene, deeds_at}
use Rattle.rdm_law.proofs.Accounts.Pushed.{of_life_newest}
use Rattle.rdm_law.proofs.Lives.Lives.{life_scene, life_of, LifeLocal, life_local, opened_scene}
use Rattle.rdm_life.specs.Handling.{kept, after}
use Rattle.rdm_life.specs.Lending.{Loan, brought, Spares}
use Rattle.rdm_life.specs.Laws.{kept_in, IsLent, LoansBegin, LoansLast}
use Rattle.rdm_life.proofs.TakenRead.{AllTakenRead, act_fits, deeds_fit}
use Rattle.rdm_life.proofs.RecordKept.{record_kept}
use Rattle.rdm_life.proofs.FactsLaw.{answers_as}
use Rattle.rdm_life.proofs.LoansLast.{lasts}
use Rattle.rdm_life.proofs.LoansBrought.{brings_missing}
use Rattle.rdm_life.proofs.LoansTaken.{still_taken}

-- a range that may be lent is missing
lent_first : (own : Own) (ports : ℕ) (port_log log : List Deed) (from : Life) (to : Connid) (load : Load) (l : Loan) → LifeLocal own log → AllTakenRead log
    → item_class (life_scene ports own port_log log) from to (item_of load) ≡ None → brought (kept own log) from (item_of load) ≡ Some l → 0 < l.len → IsLent (kept own log) from to load l
lent_first own ports port_log log from to load l local fit none brings some =
    let k = record_kept own log fit local in
    let taken = (answers_as own ports port_log log (kept own log) local k).classes from to load ∙ none in
    record { taken = taken; brings = brings; missing = brings_missing own log (kept own log) from to (item_of load) l local k taken brings some }

-- it may be lent by the scene of an open life
pub loans_begin : LoansBegin
loans_begin job port connid log from to load l local is =
    let own = own_of job (life_of port connid) in
    let port_log = deeds_at job port log in
    subst (λ (s : Scene). item_class s from to (item_of load) ≡ None → brought (kept_in s) from (item_of load) ≡ Some l → 0 < l.len → IsLent (kept_in s) from to load l)
    (sym (opened_scene job port connid port_log is))
    (λ none brings some. lent_first own (port_count job) port_log (of_life connid port_log) from to load l (life_local job port connid log local) (deeds_fit job port connid log) none brings some)

-- it stays lent by a deed that spares it
lent_still : (own : Own) (d : Deed) (log : List Deed) (from : Life) (to : Connid) (load : Load) (l : Loan) → LifeLocal own (d ∷ log) → AllTakenRead (d ∷ log)
    → IsLent (kept own log) from to load l → Spares (kept own log) d l → IsLent (after d (kept own log)) from to load l
lent_still own d log from to load l local fit lent spares =
    let k = record_kept own log fit.0 local.0 in
    let still = still_taken own d log (kept own log) from to (item_of load) l local fit k lent.taken lent.brings lent.missing.some_place spares in
    record { taken = still.0; brings = still.1; missing = (lasts own d log (kept own log) l local fit k lent.missing spares).still }

-- the deeds of an open life, with one more
pub local_more : (job : Job) (port : ℕ) (connid : Connid) (e : Entry) (log : List Entry) → Local job port (e ∷ log) → open_life (deeds_at job port log) ≡ Some connid
    → LifeLocal (own_of job (life_of port connid)) (deed_of (rank_of job port).ops e.act ∷ of_life connid (deeds_at job port log))
local_more job port connid e log local is =
    subst (LifeLocal (own_of job (life_of port connid))) (of_life_newest job port connid e log is) (life_local job port connid (e ∷ log) local)

-- so it is in a log
pub loans_last : LoansLast
loans_last job port connid e log from to load l local is =
    let own = own_of job (life_of port connid) in
    let port_log = deeds_at job port log in
    let d = deed_of (rank_of job port).ops e.act in
    subst (λ (s : Scene). IsLent (kept_in s) from to load l → Spares (kept_in s) d l → IsLent (after d (kept_in s)) from to load l) (sym (opened_scene job port connid port_log is))
    (λ lent spares. lent_still own d (of_life connid port_log) from to load l (local_more job port connid e log local is) (deeds_fit job port connid log, act_fits (rank_of job port).ops e.act) lent spares)
