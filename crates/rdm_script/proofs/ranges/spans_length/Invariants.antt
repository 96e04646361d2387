use Rattle.std.proofs.Common.{◌≡◌, take}
use Rattle.rdm_model.specs.Jobs.{spans_length}
use Rattle.rdm_script.specs.Drafts.{capped}
use Rattle.rdm_script.proofs.ranges.spans_length.Given as goal

abbrev pub invariant-loop-span : goal.invariant-loop-span
invariant-loop-span l = l.length ≡ capped (spans_length (take l.span-index l.spans))
