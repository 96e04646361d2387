use Rattle.std.proofs.Common.{◌≡◌, ◌-◌, length}
use Rattle.rdm_world.proofs.Settling.{Settling}
use Rattle.rdm_world.proofs.world.World.settle.Given as goal

abbrev pub invariant-loop-round : goal.invariant-loop-round
invariant-loop-round l = record {
  count : length l.self.ports ≡ length l.fn.self.ports;
  rest : Settling l.job (l.budget - l._round) l.budget l.fn.self l.self;
}
