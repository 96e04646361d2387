use Rattle.std.proofs.Common.{refl, None}
use Rattle.rdm_bins.proofs.Changes.{other_set, tagged_set}
use Rattle.rdm_bins.proofs.chains.Chains.drop_ends.Goals as goal

pub returns-in-None-clause-ends : goal.returns-in-None-clause-ends
returns-in-None-clause-ends c = other_set c.args.self.now _ None c.args.bin c.in-None.is refl refl

pub returns-in-Some-clause-ends : goal.returns-in-Some-clause-ends
returns-in-Some-clause-ends c = tagged_set c.args.self.now _ None c.args.bin c.in-Some.tag c.in-Some.is refl c.remove.ensures.updates.0
