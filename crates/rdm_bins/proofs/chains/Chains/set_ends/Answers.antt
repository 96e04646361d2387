use Rattle.std.proofs.Common.{refl, false, Some}
use Rattle.rdm_bins.proofs.Places.{not_both_ways}
use Rattle.rdm_bins.proofs.Changes.{other_set, tagged_set}
use Rattle.rdm_bins.proofs.chains.Chains.set_ends.Goals as goal

pub unreachable-requires : goal.unreachable-requires
unreachable-requires c = not_both_ways false (c.in_default.ensures.succeeds c.requires) refl

pub returns-in-None-clause-ends : goal.returns-in-None-clause-ends
returns-in-None-clause-ends c = other_set c.args.self.now _ (Some c.args.ends) c.args.bin c.in-None.is c.replace.ensures.after refl

pub returns-in-Ok-clause-ends : goal.returns-in-Ok-clause-ends
returns-in-Ok-clause-ends c = tagged_set c.args.self.now _ (Some c.args.ends) c.args.bin c.in-Some.tag c.in-Some.is refl c.in-Ok.ensures.updates.0
