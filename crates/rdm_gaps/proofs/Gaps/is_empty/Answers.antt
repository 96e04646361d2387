use Rattle.std.proofs.Common.{◌==◌, sym, ap, ◌∙◌}
use Rattle.rdm_gaps.specs.Places.{count_missing}
use Rattle.rdm_gaps.proofs.Covered.{count-places_of}
use Rattle.rdm_gaps.proofs.Gaps.is_empty.Goals as goal

pub returns : goal.returns
returns c = ap (λ n. n == 0) (c.self.invariant.left ∙ sym (count-places_of 0 c.self.inside.size c.self.inside.gaps.items) ∙ ap count_missing c.self.view_is)
