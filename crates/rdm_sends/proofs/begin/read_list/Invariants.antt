use Rattle.std.proofs.Common.{◌≡◌, ◌≤◌, take, length}
use Rattle.rdm_model.specs.Sends.{read_list}
use Rattle.rdm_sends.proofs.begin.read_list.Given as goal

abbrev pub invariant-loop-part : goal.invariant-loop-part
invariant-loop-part l = record { list : l.entries.items ≡ read_list (take l.part-index l.ranges); few : length l.entries.items ≤ l.part-index }
