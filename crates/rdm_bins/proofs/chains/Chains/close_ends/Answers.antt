use Rattle.std.proofs.Common.{sym, ap, ◌∙◌}
use Rattle.std.specs.Prelude.{cond, nat_eq}
use Rattle.std.specs.Option.{option_eq}
use Rattle.rdm_bins.specs.Chains.{ends_at, ends_without}
use Rattle.rdm_bins.proofs.Changes.{ends_kept, last_gone, middle_gone}
use Rattle.rdm_bins.proofs.chains.Chains.close_ends.Goals as goal

pub returns-in-None-None-clause-ends : goal.returns-in-None-None-clause-ends
returns-in-None-None-clause-ends c = λ b.
    c.drop_ends.ensures.ends b
    ∙ ap (λ w. cond (option_eq nat_eq c.args.bin b) w (ends_at c.args.self.now b)) (last_gone _ c.args.before c.args.after c.in-None-None.is-0 c.in-None-None.is-1)

pub returns-in-None-Some-clause-ends : goal.returns-in-None-Some-clause-ends
returns-in-None-Some-clause-ends c = λ b.
    c.set_first.ensures.ends b
    ∙ sym (λ i. cond (option_eq nat_eq c.args.bin b) (ends_without (ends_at c.args.self.now c.args.bin) (c.in-None-Some.is-0 i) (c.in-None-Some.is-1 i)) (ends_at c.args.self.now b))

pub returns-in-Some-None-clause-ends : goal.returns-in-Some-None-clause-ends
returns-in-Some-None-clause-ends c = λ b.
    c.set_last.ensures.ends b
    ∙ sym (λ i. cond (option_eq nat_eq c.args.bin b) (ends_without (ends_at c.args.self.now c.args.bin) (c.in-Some-None.is-0 i) (c.in-Some-None.is-1 i)) (ends_at c.args.self.now b))

pub returns-in-Some-Some-clause-ends : goal.returns-in-Some-Some-clause-ends
returns-in-Some-Some-clause-ends c = ends_kept c.args.self.now _ c.args.bin (middle_gone _ c.args.before c.args.after c.in-Some-Some._before c.in-Some-Some._after c.in-Some-Some.is-0 c.in-Some-Some.is-1)
