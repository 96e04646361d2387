use Rattle.std.proofs.Common.{◌≡◌, ◌++◌, drop}
use Rattle.rdm_world.specs.Joined.{joined}
use Rattle.rdm_world.proofs.joint.all_entries.Given as goal

abbrev pub invariant-loop-port : goal.invariant-loop-port
invariant-loop-port l = l.entries.items ++ joined (drop l.port-index l.ports) ≡ joined l.ports
