use Rattle.std.proofs.Common.{◌≡◌, ◌+◌, ◌++◌, map, drop}
use Rattle.serde_json.specs.View.{view}
use Rattle.rdm_generate.specs.Programs.{sends_from, total_of}
use Rattle.rdm_generate.proofs.program.put_sends.Given as goal

abbrev pub invariant-loop-message : goal.invariant-loop-message
invariant-loop-message l = record {
  ops : map view l.ops.items ++ sends_from l.at (drop l.message-index l.messages) ≡ map view l.fn.ops.items ++ sends_from 0 l.messages;
  bytes : l.at + total_of (drop l.message-index l.messages) ≡ total_of l.messages;
}
