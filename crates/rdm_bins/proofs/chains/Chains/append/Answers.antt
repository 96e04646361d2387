use Rattle.std.proofs.Common.{◌≡◌, refl, ap, ◌∙◌, rules, length, Some}
use Rattle.std.specs.Prelude.{cond, nat_eq}
use Rattle.std.specs.Option.{option_eq}
use Rattle.rdm_bins.specs.Chains.{ends_at, ends_with}
use Rattle.rdm_bins.proofs.Changes.{ends_same}
use Rattle.rdm_bins.proofs.chains.Chains.append.Goals as goal

pub returns-clause-ends : goal.returns-clause-ends
returns-clause-ends c = λ b.
    let place : c.len-place.result ≡ length c.args.self.now.links.items = search rules in
    ends_same c.end_with.new.self _ refl (λ q. refl) b
    ∙ c.end_with.ensures.ends b
    ∙ ap (λ n. cond (option_eq nat_eq c.args.bin b) (Some (ends_with (ends_at c.args.self.now c.args.bin) n)) (ends_at c.args.self.now b)) place
