use Rattle.std.proofs.Common.{sym, ap, ◌∙◌}
use Rattle.std.specs.Prelude.{cond, nat_eq}
use Rattle.std.specs.Option.{option_eq}
use Rattle.rdm_bins.specs.Chains.{ends_at}
use Rattle.rdm_bins.proofs.Changes.{first_came, next_came, written_twice}
use Rattle.rdm_bins.proofs.chains.Chains.end_with.Goals as goal

pub returns-in-Some-clause-ends : goal.returns-in-Some-clause-ends
returns-in-Some-clause-ends c = λ b.
    c.change_ends.ensures.ends b
    ∙ ap (cond (option_eq nat_eq c.args.bin b) _) (c.set_ends-old.ensures.ends b)
    ∙ written_twice (option_eq nat_eq c.args.bin b) _ _ _
    ∙ ap (λ w. cond (option_eq nat_eq c.args.bin b) w (ends_at c.args.self.now b)) (next_came _ c.in-Some.ends c.args.place (sym c.set_ends-old.ensures.answer ∙ c.in-Some.is))

pub returns-in_default-clause-ends : goal.returns-in_default-clause-ends
returns-in_default-clause-ends c = λ b.
    c.set_ends-old.ensures.ends b
    ∙ ap (λ w. cond (option_eq nat_eq c.args.bin b) w (ends_at c.args.self.now b)) (first_came _ c.args.place (sym c.set_ends-old.ensures.answer ∙ c.in_default.is))
