use Rattle.std.proofs.Common.{ap, subst, ◌∙◌}
use Rattle.rdm_regions.specs.Registry.{lease_refusal}
use Rattle.rdm_regions.specs.Tallies.{IsRegionOf}
use Rattle.rdm_regions.proofs.Refusals.{marked_here, meets_leased, meets_held, lease_refusal_is}
use Rattle.rdm_regions.proofs.regions.Regions.lease_refusal.Goals as goal

pub meets_held-held-requires-clause-starts_rise : goal.meets_held-held-requires-clause-starts_rise
meets_held-held-requires-clause-starts_rise c =
    let i = c.self.inside in
    let o : IsRegionOf c.args.range.now i.regions.items c.in-Ok.region.now = subst (λ rs. IsRegionOf c.args.range.now rs c.in-Ok.region.now) c.deref.ensures.value c.in-Ok.ensures in
    (marked_here c.args.range.now i.regions.items i.held.entries i.leased.entries c.self.invariant c.in-Ok.region.now o).starts_rise

pub meets_held-held-requires-clause-ends_rise : goal.meets_held-held-requires-clause-ends_rise
meets_held-held-requires-clause-ends_rise c =
    let i = c.self.inside in
    let o : IsRegionOf c.args.range.now i.regions.items c.in-Ok.region.now = subst (λ rs. IsRegionOf c.args.range.now rs c.in-Ok.region.now) c.deref.ensures.value c.in-Ok.ensures in
    (marked_here c.args.range.now i.regions.items i.held.entries i.leased.entries c.self.invariant c.in-Ok.region.now o).ends_rise

pub returns-in-Ok : goal.returns-in-Ok
returns-in-Ok c =
    let x = c.args.range.now in
    let i = c.self.inside in
    let o : IsRegionOf x i.regions.items c.in-Ok.region.now = subst (λ rs. IsRegionOf x rs c.in-Ok.region.now) c.deref.ensures.value c.in-Ok.ensures in
    let a = meets_leased x i.regions.items i.held.entries i.leased.entries c.self.invariant c.in-Ok.region.now o c.meets_leased-leased.result c.meets_leased-leased.ensures in
    let b = meets_held x i.regions.items i.held.entries i.leased.entries c.self.invariant c.in-Ok.region.now o c.meets_held-held.result c.meets_held-held.ensures in
    c.busy_if.ensures
    ∙ lease_refusal_is x i.regions.items i.held.entries i.leased.entries c.self.invariant c.in-Ok.region.now o c.meets_leased-leased.result c.meets_held-held.result a b
    ∙ ap (λ r. lease_refusal r x) c.self.view_is
