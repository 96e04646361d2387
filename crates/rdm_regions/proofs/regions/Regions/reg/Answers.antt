use Rattle.std.proofs.Common.{ap, sym, subst, ◌∙◌, ◌++◌, ◌∷◌, []}
use Rattle.rdm_regions.specs.Tallies.{Keeps}
use Rattle.rdm_regions.proofs.Refusals.{registry_of}
use Rattle.rdm_regions.proofs.Registering.{keeps_more, view_more}
use Rattle.rdm_regions.proofs.regions.Regions.reg.Goals as goal

pub invariant_of-self : goal.invariant_of-self
invariant_of-self c = subst (λ rs. Keeps rs c.self.inside.held.entries c.self.inside.leased.entries) (sym c.in_err-reserve.ensures.items) c.self.invariant

pub invariant_of-self-in_err-region : goal.invariant_of-self-in_err-region
invariant_of-self-in_err-region c = subst (λ rs. Keeps rs c.self.inside.held.entries c.self.inside.leased.entries) (sym c.in_ok-reserve.ensures.items) c.self.invariant

pub invariant_of-self-2 : goal.invariant_of-self-2
invariant_of-self-2 c =
    let i = c.self.inside in
    subst (λ rs. Keeps rs i.held.entries i.leased.entries) (ap (λ rs. rs ++ c.in_ok-region.region ∷ []) (sym c.in_ok-reserve.ensures.items) ∙ sym c.push_reserved.ensures.items)
    (keeps_more i.regions.items c.args.bytes.now c.in_ok-region.region c.in_ok-region.ensures i.held.entries i.leased.entries c.self.invariant)

pub returns-clause-ok : goal.returns-clause-ok
returns-clause-ok c =
    let i = c.self.inside in (
      c.in_ok-region.region.home.block,
      ap (λ rs. registry_of rs i.held.entries i.leased.entries) (c.push_reserved.ensures.items ∙ ap (λ rs. rs ++ c.in_ok-region.region ∷ []) c.in_ok-reserve.ensures.items)
          ∙ view_more i.regions.items c.args.bytes.now c.in_ok-region.region c.in_ok-region.ensures i.held.entries i.leased.entries c.args.self.now c.self.view_is,
    )
