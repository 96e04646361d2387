use Rattle.std.proofs.Common.{ap, ◌∙◌}
use Rattle.std.specs.FinMap as finite
use Rattle.rdm_regions.specs.Ranges.{hold_key}
use Rattle.rdm_regions.specs.Registry.{Registry}
use Rattle.rdm_regions.proofs.tests.hold_four.Goals as goal

pub returns : goal.returns
returns c = (
  ap (λ (r : Registry). r.leased) c.drop_hold.ensures ∙ c.out_and_back-all.ensures,
  λ i lt. ap (λ (r : Registry). finite.get r.held (hold_key 7 i)) c.drop_hold.ensures ∙ c.holds_law.ensures.dropped c.out_and_back-all.new.regions 7 i lt,
)
