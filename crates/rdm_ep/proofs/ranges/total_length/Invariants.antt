use Rattle.std.proofs.Common.{◌≡◌, ◌≤◌, ◌*◌, take}
use Rattle.rdm_model.specs.Jobs.{spans_length}
use Rattle.rdm_ep.proofs.ranges.total_length.Given as goal

abbrev pub invariant-loop-span : goal.invariant-loop-span
invariant-loop-span l = (l.total ≡ spans_length (take l.span-index l.span-items)) × (l.total ≤ l.span-index * 18446744073709551615)
