use Rattle.std.proofs.Common.{refl, ap}
use Rattle.std.specs.Prelude.{nat_eq}
use Rattle.std.specs.Map.{lookup}
use Rattle.rdm_bins.proofs.Changes.{none_yet}
use Rattle.rdm_bins.proofs.chains.Chains.new.Goals as goal

pub returns-clause-ends : goal.returns-clause-ends
returns-clause-ends c = none_yet _ refl (λ q. ap (lookup (nat_eq q)) c.new.ensures.empty)
