use Rattle.std.proofs.Common.{◌≡◌, [], ◌++◌, map}
use Rattle.std.specs.List.{range_with_len}
use Rattle.serde_json.specs.View.{view}
use Rattle.rdm_generate.specs.Script.{rank_json}
use Rattle.rdm_generate.proofs.script.rank_values.Given as goal

abbrev pub invariant-loop-rank : goal.invariant-loop-rank
invariant-loop-rank l = map view l.ranks.items ≡ [] ++ map (rank_json l.seed l.messages) (range_with_len 0 l.rank)
