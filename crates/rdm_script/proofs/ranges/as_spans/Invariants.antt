use Rattle.std.proofs.Common.{◌≡◌, length, drop}
use Rattle.rdm_json.specs.Results.{with_front}
use Rattle.rdm_script.specs.Ranges.{as_spans}
use Rattle.rdm_script.proofs.ranges.as_spans.Given as goal

abbrev pub invariant-loop-range : goal.invariant-loop-range
invariant-loop-range l = (length l.spans.items ≡ l.range-index) × (with_front l.spans.items (as_spans (drop l.range-index l.written)) ≡ as_spans l.written)
