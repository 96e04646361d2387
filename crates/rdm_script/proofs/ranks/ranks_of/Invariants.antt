use Rattle.std.proofs.Common.{◌≡◌, length, map, drop}
use Rattle.serde_json.specs.View.{view}
use Rattle.rdm_json.specs.Results.{with_front}
use Rattle.rdm_script.specs.Programs.{ranks_of}
use Rattle.rdm_script.specs.Drafts.{made_rank}
use Rattle.rdm_script.proofs.ranks.ranks_of.Given as goal

abbrev pub invariant-loop-value : goal.invariant-loop-value
invariant-loop-value l =
    (length l.ranks.items ≡ l.value-index)
    × (with_front (map made_rank l.ranks.items) (ranks_of l.version l.limits l.value-index l.ports (map view (drop l.value-index l.values))) ≡ ranks_of l.version l.limits 0 l.ports (map view l.values))
