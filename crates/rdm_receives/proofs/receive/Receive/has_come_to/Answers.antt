use Rattle.std.proofs.Common.{◌≡◌, leb, ap, ◌∙◌}
use Rattle.rdm_lists.specs.Lists.{each_below}
use Rattle.rdm_land.specs.Arrivals.{has_come}
use Rattle.rdm_receives.specs.View.{ReceiveView}
use Rattle.rdm_receives.proofs.Fullness.{front_each}
use Rattle.rdm_receives.proofs.receive.Receive.has_come_to.Goals as goal

pub returns : goal.returns
returns c =
    front_each c.self.inside.landing c.front.result c.front.ensures c.args.end
    ∙ ap (λ (r : ReceiveView). each_below (has_come r.landed) c.args.end) c.self.view_is
