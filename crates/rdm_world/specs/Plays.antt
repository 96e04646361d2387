-- What the report of a world is made of.
use Rattle.std.specs.Prelude.{◌≡◌, Bool, List, map, is_some}
use Rattle.std.specs.List.{list_any}
use Rattle.rdm_lists.specs.Lists.{below}
use Rattle.rdm_model.specs.declared.job.Job.{Job}
use Rattle.rdm_model.specs.declared.report.End.{End}
use Rattle.rdm_model.specs.Beginnings.{port_count}
use Rattle.rdm_model.specs.Settled.{instruction_left}
use Rattle.rdm_model.specs.Worlds.{World}
use Rattle.rdm_model.specs.Played.{end_at}
use Rattle.rdm_world.specs.Views.{WorldView}
use Rattle.rdm_world.specs.Shows.{IsWorld}

-- the ends of the ports, in each world that is shown
abbrev pub AreEnds : WorldView → List End → Type 0
AreEnds v ends = (job : Job) (w : World) → IsWorld job w v → ends ≡ map (end_at job w) (below (port_count job))

-- whether some program has an instruction left, in each world that is shown
abbrev pub IsStuckAs : WorldView → Bool → Type 0
IsStuckAs v stuck =
    (job : Job) (w : World) → IsWorld job w v → stuck ≡ list_any (λ port. is_some (instruction_left job port (w.logs port))) (below (port_count job))
