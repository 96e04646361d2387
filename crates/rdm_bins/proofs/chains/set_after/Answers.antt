use Rattle.std.proofs.Common.{sym, ap, ◌∙◌}
use Rattle.rdm_bins.specs.Chains.{with_after}
use Rattle.rdm_bins.proofs.Links.{set_is_after, past_after}
use Rattle.rdm_bins.proofs.chains.set_after.Goals as goal

pub returns-in-Some-get_mut-clause-links : goal.returns-in-Some-get_mut-clause-links
unfolding with_after
returns-in-Some-get_mut-clause-links c =
    set_is_after c.args.links.now.items c.in-Some.place c.in-Some-get_mut.link.now c.args.after c.in-Some-get_mut.ensures.value
    ∙ ap (λ p. with_after c.args.links.now.items p c.args.after) (sym c.in-Some.is)

pub returns-in_default-get_mut-clause-links : goal.returns-in_default-get_mut-clause-links
unfolding with_after
returns-in_default-get_mut-clause-links c =
    past_after c.args.links.now.items c.in-Some.place c.args.after c.in_default-get_mut.ensures.item.3
    ∙ ap (λ p. with_after c.args.links.now.items p c.args.after) (sym c.in-Some.is)

pub returns-in_default-clause-links : goal.returns-in_default-clause-links
unfolding with_after
returns-in_default-clause-links c = ap (λ p. with_after c.args.links.now.items p c.args.after) (sym c.in_default.is)
