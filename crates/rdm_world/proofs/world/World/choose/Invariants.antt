use Rattle.std.proofs.Common.{◌≡◌, length, drop}
use Rattle.rdm_world.proofs.Playing.{Choosing}
use Rattle.rdm_world.proofs.world.World.choose.Given as goal

abbrev pub invariant-loop-choice : goal.invariant-loop-choice
invariant-loop-choice l = record {
  count : length l.self.ports ≡ length l.fn.self.ports;
  rest : Choosing l.job (drop l.choice-index l.choice-items) l.choice-items l.fn.self l.self;
}
