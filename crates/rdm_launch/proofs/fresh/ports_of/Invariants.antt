use Rattle.std.proofs.Common.{◌≡◌, ◌≤◌, vec_len, vec_capacity}
use Rattle.rdm_launch.proofs.Starting.{AreNewPorts}
use Rattle.rdm_launch.proofs.fresh.ports_of.Given as goal

abbrev pub invariant-loop-number : goal.invariant-loop-number
invariant-loop-number l = record {
  count : vec_len l.ports ≡ l.number;
  room : l.count ≤ vec_capacity l.ports;
  fresh : AreNewPorts l.job l.ports.items;
}
