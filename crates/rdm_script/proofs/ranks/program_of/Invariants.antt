use Rattle.std.proofs.Common.{◌≡◌, [], map, drop, reverse}
use Rattle.serde_json.specs.View.{view}
use Rattle.rdm_json.specs.Results.{with_front}
use Rattle.rdm_script.specs.Programs.{program_of}
use Rattle.rdm_script.proofs.ranks.program_of.Given as goal

abbrev pub invariant-loop-value : goal.invariant-loop-value
invariant-loop-value l =
    with_front (reverse l.program) (program_of l.version l.rank l.ports l.program (map view (drop l.value-index l.values))) ≡ program_of l.version l.rank l.ports [] (map view l.values)
