use Rattle.std.proofs.Common.{◌≡◌, ◌++◌, drop}
use Rattle.rdm_world.proofs.joint.add_entries.Given as goal

abbrev pub invariant-loop-entry : goal.invariant-loop-entry
invariant-loop-entry l = l.entries.items ++ drop l.entry-index l.log ≡ l.fn.entries.items ++ l.log
