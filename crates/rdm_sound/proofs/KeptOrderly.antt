-- What is kept of the deeds of a life is orderly, what was heard of is early in it, and receives that wait are live.
use Rattle.std.proofs.Common.{◌∙◌, List, [], ◌∷◌}
use Rattle.rdm_model.specs.Beginnings.{Own, own_of, life_at}
use Rattle.rdm_model.specs.Deeds.{Deed, Did, of_life}
use Rattle.rdm_model.specs.Facts.{port_facts}
use Rattle.rdm_model.specs.Scenes.{deeds_at}
use Rattle.rdm_law.proofs.Lives.Lives.{life_scene, life_of, LifeStep, LifeLocal, life_local}
use Rattle.rdm_life.specs.Kept.{Kept}
use Rattle.rdm_life.specs.Keeps.{Keeps}
use Rattle.rdm_life.specs.Handling.{kept}
use Rattle.rdm_life.proofs.FactsKept.{answer_kept}
use Rattle.rdm_life.proofs.RecordKept.{record_kept}
use Rattle.rdm_life.proofs.TakenRead.{AllTakenRead, deeds_fit}
use Rattle.rdm_sound.specs.Premises.{IsOrderly}
use Rattle.rdm_sound.specs.Orders.{IsAllowed, KeptIsOrderly}
use Rattle.rdm_sound.specs.Heard.{IsHeardEarly, KeptIsHeard}
use Rattle.rdm_sound.specs.Waiting.{AreWaiting, KeptIsWaiting}
use Rattle.rdm_sound.proofs.Allowed.{answers_allow}
use Rattle.rdm_sound.proofs.Deeds.{begins_orderly, stays_orderly}
use Rattle.rdm_sound.proofs.HeardDeeds.{begins_heard, stays_heard}
use Rattle.rdm_sound.proofs.WaitingDeeds.{begins_waiting, stays_waiting}

-- a deed that a life may do is one that its record allows
step_allowed : (own : Own) (d : Deed) (log : List Deed) (v : Kept) → LifeStep own log d → LifeLocal own log → Keeps own log v → IsAllowed v d
step_allowed own (Did instr) log v step local k =
    answers_allow (port_facts (life_scene step.0 own step.1 log)) v instr step.2 (answer_kept step.0 own step.1 log v instr local k ∙ step.3)
step_allowed own _ log v step local k = tt

-- so all its deeds leave the record as it has to be
all_kept : (own : Own) (log : List Deed) → AllTakenRead log → LifeLocal own log → IsOrderly (kept own log) × IsHeardEarly (kept own log) × AreWaiting (kept own log)
unfolding kept
all_kept own [] fit local = (begins_orderly own, begins_heard own, begins_waiting own)
all_kept own (d ∷ log) fit local =
    let v : Kept = kept own log in
    let before = all_kept own log fit.0 local.0 in
    let allowed = step_allowed own d log v local.1 local.0 (record_kept own log fit.0 local.0) in
    (stays_orderly d v before.0 allowed, stays_heard d v before.0 before.1 allowed, stays_waiting d v before.0 before.2 allowed)

pub kept_is_orderly : KeptIsOrderly
unfolding life_at
kept_is_orderly job port connid log local =
    (all_kept (own_of job (life_of port connid)) (of_life connid (deeds_at job port log)) (deeds_fit job port connid log) (life_local job port connid log local)).0

pub kept_is_heard : KeptIsHeard
unfolding life_at
kept_is_heard job port connid log local =
    (all_kept (own_of job (life_of port connid)) (of_life connid (deeds_at job port log)) (deeds_fit job port connid log) (life_local job port connid log local)).1

pub kept_is_waiting : KeptIsWaiting
unfolding life_at
kept_is_waiting job port connid log local =
    (all_kept (own_of job (life_of port connid)) (of_life connid (deeds_at job port log)) (deeds_fit job port connid log) (life_local job port connid log local)).2
