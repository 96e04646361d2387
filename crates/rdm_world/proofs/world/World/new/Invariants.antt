use Rattle.std.proofs.Common.{◌≡◌, ◌<◌, ◌≤◌, ℕ, get_or, vec_len, vec_capacity}
use Rattle.rdm_port.specs.Views.{PortView, new_port}
use Rattle.rdm_world.proofs.world.World.new.Given as goal

abbrev pub invariant-loop-number : goal.invariant-loop-number
invariant-loop-number l = record {
  count : vec_len l.ports ≡ l.number;
  room : l.count ≤ vec_capacity l.ports;
  fresh : (i : ℕ) (d : PortView) → i < l.number → get_or l.ports.items i d ≡ new_port l.job i;
}
