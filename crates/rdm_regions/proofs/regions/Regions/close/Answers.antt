use Rattle.std.proofs.Common.{ap, ◌∙◌}
use Rattle.std.specs.Prelude.{Some}
use Rattle.std.proofs.lemmas.List.Elements.{All-pop}
use Rattle.rdm_regions.specs.Registry.{Registry}
use Rattle.rdm_regions.specs.Tallies.{MayClose}
use Rattle.rdm_regions.proofs.Registering.{all_close}
use Rattle.rdm_regions.proofs.regions.Regions.close.Goals as goal

pub loop-region-init : goal.loop-region-init
loop-region-init c =
    let i = c.self.inside in
    all_close i.regions.items i.held.entries i.leased.entries c.self.invariant (ap (λ (r : Registry). r.leased) c.self.view_is ∙ c.requires)

pub close-requires-clause-home : goal.close-requires-clause-home
close-requires-clause-home c = (All-pop MayClose c.loop-region.regions.items c.pop.new.self.items (Some c.in-Some.region) c.in-Some.ensures.items c.loop-region.invariant).1.0

pub loop-region-preserved : goal.loop-region-preserved
loop-region-preserved c = (All-pop MayClose c.loop-region.regions.items c.pop.new.self.items (Some c.in-Some.region) c.in-Some.ensures.items c.loop-region.invariant).0
