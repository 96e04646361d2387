use Rattle.std.proofs.Common.{◌≡◌, length, map, drop}
use Rattle.serde_json.specs.View.{view}
use Rattle.rdm_json.specs.Results.{with_front}
use Rattle.rdm_script.specs.Ranges.{each_written}
use Rattle.rdm_script.proofs.ranges.each_written.Given as goal

abbrev pub invariant-loop-value : goal.invariant-loop-value
invariant-loop-value l =
    (length l.written.items ≡ l.value-index)
    × (with_front l.written.items (each_written (map view (drop l.value-index l.values))) ≡ each_written (map view l.values))
