use Rattle.std.proofs.Common.{refl, ◌∙◌}
use Rattle.std.specs.Prelude.{cond, nat_eq}
use Rattle.std.specs.Option.{option_eq}
use Rattle.rdm_bins.specs.Chains.{ends_at, ends_without}
use Rattle.rdm_bins.proofs.Changes.{ends_same}
use Rattle.rdm_bins.proofs.chains.Chains.remove.Goals as goal

pub returns-clause-ends : goal.returns-clause-ends
returns-clause-ends c = λ b.
    ends_same c.close_ends.new.self _ refl (λ q. refl) b
    ∙ c.close_ends.ensures.ends b
    ∙ (λ i. cond (option_eq nat_eq c.args.bin b) (ends_without (ends_at c.args.self.now c.args.bin) (c.before-before.ensures i) (c.after-after.ensures i)) (ends_at c.args.self.now b))
