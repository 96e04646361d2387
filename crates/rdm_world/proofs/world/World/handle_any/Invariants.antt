use Rattle.std.proofs.Common.{◌≡◌, ◌<◌, length}
use Rattle.rdm_world.proofs.Trying.{Trying}
use Rattle.rdm_world.proofs.world.World.handle_any.Given as goal

abbrev pub invariant-loop-pick : goal.invariant-loop-pick
invariant-loop-pick l = record {
  count : length l.self.ports ≡ length l.fn.self.ports;
  some : l.pick < l.waiting;
  small : l.waiting < 18446744073709551616;
  tries : Trying l.rank l.pick l.fn.self l.self l.changed;
}
