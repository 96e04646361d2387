use Rattle.std.proofs.Common.{ap, subst, ◌∙◌}
use Rattle.rdm_regions.specs.Registry.{hold_refusal}
use Rattle.rdm_regions.specs.Tallies.{IsRegionOf}
use Rattle.rdm_regions.proofs.Refusals.{meets_leased, hold_refusal_is}
use Rattle.rdm_regions.proofs.regions.Regions.hold_refusal.Goals as goal

pub returns-in-Ok : goal.returns-in-Ok
returns-in-Ok c =
    let x = c.args.range.now in
    let i = c.self.inside in
    let o : IsRegionOf x i.regions.items c.in-Ok.region.now = subst (λ rs. IsRegionOf x rs c.in-Ok.region.now) c.deref.ensures.value c.in-Ok.ensures in
    let busy = meets_leased x i.regions.items i.held.entries i.leased.entries c.self.invariant c.in-Ok.region.now o c.meets_leased.result c.meets_leased.ensures in
    c.busy_if.ensures
    ∙ hold_refusal_is x i.regions.items i.held.entries i.leased.entries c.self.invariant c.in-Ok.region.now o c.meets_leased.result busy
    ∙ ap (λ r. hold_refusal r x) c.self.view_is
