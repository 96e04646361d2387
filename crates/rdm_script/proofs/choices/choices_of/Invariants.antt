use Rattle.std.proofs.Common.{◌≡◌, length, map, drop}
use Rattle.serde_json.specs.View.{view}
use Rattle.rdm_json.specs.Results.{with_front}
use Rattle.rdm_script.specs.Choices.{choices_of}
use Rattle.rdm_script.proofs.choices.choices_of.Given as goal

abbrev pub invariant-loop-value : goal.invariant-loop-value
invariant-loop-value l =
    (length l.choices.items ≡ l.value-index)
    × (with_front l.choices.items (choices_of l.value-index l.ports (map view (drop l.value-index l.values))) ≡ choices_of 0 l.ports (map view l.values))
