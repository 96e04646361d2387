use Rattle.std.proofs.Common.{sym, ap, ◌∙◌}
use Rattle.rdm_bins.specs.Chains.{with_before}
use Rattle.rdm_bins.proofs.Links.{set_is_before, past_before}
use Rattle.rdm_bins.proofs.chains.set_before.Goals as goal

pub returns-in-Some-get_mut-clause-links : goal.returns-in-Some-get_mut-clause-links
unfolding with_before
returns-in-Some-get_mut-clause-links c =
    set_is_before c.args.links.now.items c.in-Some.place c.in-Some-get_mut.link.now c.args.before c.in-Some-get_mut.ensures.value
    ∙ ap (λ p. with_before c.args.links.now.items p c.args.before) (sym c.in-Some.is)

pub returns-in_default-get_mut-clause-links : goal.returns-in_default-get_mut-clause-links
unfolding with_before
returns-in_default-get_mut-clause-links c =
    past_before c.args.links.now.items c.in-Some.place c.args.before c.in_default-get_mut.ensures.item.3
    ∙ ap (λ p. with_before c.args.links.now.items p c.args.before) (sym c.in-Some.is)

pub returns-in_default-clause-links : goal.returns-in_default-clause-links
unfolding with_before
returns-in_default-clause-links c = ap (λ p. with_before c.args.links.now.items p c.args.before) (sym c.in_default.is)
