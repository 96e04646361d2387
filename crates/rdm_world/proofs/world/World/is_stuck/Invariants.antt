use Rattle.std.proofs.Common.{◌≡◌, false}
use Rattle.std.specs.Prelude.{is_some}
use Rattle.std.specs.List.{list_any}
use Rattle.rdm_lists.specs.Lists.{below}
use Rattle.rdm_model.specs.declared.job.Job.{Job}
use Rattle.rdm_model.specs.Settled.{instruction_left}
use Rattle.rdm_model.specs.Worlds.{World}
use Rattle.rdm_world.specs.Shows.{IsWorld}
use Rattle.rdm_world.proofs.world.World.is_stuck.Given as goal

abbrev pub invariant-loop-port : goal.invariant-loop-port
invariant-loop-port l = (job : Job) (w : World) → IsWorld job w l.self → list_any (λ port. is_some (instruction_left job port (w.logs port))) (below l.port-index) ≡ false
