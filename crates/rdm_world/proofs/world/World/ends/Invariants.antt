use Rattle.std.proofs.Common.{◌≡◌, map}
use Rattle.rdm_lists.specs.Lists.{below}
use Rattle.rdm_model.specs.declared.job.Job.{Job}
use Rattle.rdm_model.specs.Worlds.{World}
use Rattle.rdm_model.specs.Played.{end_at}
use Rattle.rdm_world.specs.Shows.{IsWorld}
use Rattle.rdm_world.proofs.world.World.ends.Given as goal

abbrev pub invariant-loop-port : goal.invariant-loop-port
invariant-loop-port l = (job : Job) (w : World) → IsWorld job w l.self → l.ends.items ≡ map (end_at job w) (below l.port-index)
