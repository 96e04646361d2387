use Rattle.std.proofs.Common.{◌≡◌, ◌++◌, map}
use Rattle.serde_json.specs.View.{view}
use Rattle.std.specs.List.{range_with_len}
use Rattle.rdm_generate.specs.Programs.{inserts}
use Rattle.rdm_generate.proofs.program.put_inserts.Given as goal

abbrev pub invariant-loop-port : goal.invariant-loop-port
invariant-loop-port l = map view l.ops.items ≡ map view l.fn.ops.items ++ inserts (range_with_len 0 l.port)
