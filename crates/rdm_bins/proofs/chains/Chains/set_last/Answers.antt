use Rattle.std.proofs.Common.{sym, ap, ◌∙◌, Some, None}
use Rattle.std.specs.Prelude.{cond, nat_eq}
use Rattle.std.specs.Option.{option_eq}
use Rattle.rdm_bins.specs.Chains.{ends_at}
use Rattle.rdm_bins.proofs.Changes.{ends_kept, none_left, end_gone}
use Rattle.rdm_bins.proofs.chains.Chains.set_last.Goals as goal

pub returns-in-Some-clause-ends : goal.returns-in-Some-clause-ends
returns-in-Some-clause-ends c = λ b.
    c.change_ends.ensures.ends b
    ∙ ap (λ w. cond (option_eq nat_eq c.args.bin b) w (ends_at c.args.self.now b)) (end_gone _ c.in-Some.ends c.args.last (sym c.ends.ensures ∙ c.in-Some.is))

pub returns-in_default-clause-ends : goal.returns-in_default-clause-ends
returns-in_default-clause-ends c = ends_kept c.args.self.now _ c.args.bin (none_left _ (Some c.args.last) None (sym c.ends.ensures ∙ c.in_default.is))
