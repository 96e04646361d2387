use Rattle.std.proofs.Common.{◌≡◌, length}
use Rattle.rdm_lists.specs.Lists.{below}
use Rattle.rdm_model.specs.Played.{visits_of}
use Rattle.rdm_world.specs.Steps.{Makes}
use Rattle.rdm_world.proofs.world.World.round.Given as goal

abbrev pub invariant-loop-rank : goal.invariant-loop-rank
invariant-loop-rank l = record {
  count : length l.self.ports ≡ length l.fn.self.ports;
  visits : Makes (λ job w. visits_of job w (below l.rank)) l.fn.self l.self l.changed;
}
