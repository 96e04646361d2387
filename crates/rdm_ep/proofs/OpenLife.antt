-- The scene of a port while a life is open is that of the life.
use Rattle.std.proofs.Common.{◌≡◌, ℕ, List, Some, refl}
use Rattle.rdm_num.specs.declared.numbers.Connid.{Connid}
use Rattle.rdm_model.specs.declared.job.Job.{Job}
use Rattle.rdm_model.specs.Deeds.{Deed, open_life, of_life, of_open_life}
use Rattle.rdm_model.specs.Beginnings.{own_of, life_at, port_count}
use Rattle.rdm_model.specs.Scenes.{scene}
use Rattle.rdm_model.specs.Local.{own_scene}
use Rattle.rdm_ep.specs.Answers.{life_scene}

-- a port's scene by its own deeds, where that life is open
pub open_scene : (job : Job) (port : ℕ) (port_log : List Deed) (connid : Connid) → open_life port_log ≡ Some connid
    → own_scene job port port_log ≡ life_scene (port_count job) (own_of job (life_at port (Some connid))) port_log (of_life connid port_log)
unfolding own_scene scene of_open_life life_at own_of
open_scene job port port_log connid e = rw e refl
