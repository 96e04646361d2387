use Rattle.std.proofs.Common.{refl}
use Rattle.rdm_bins.proofs.Changes.{ends_same}
use Rattle.rdm_bins.proofs.chains.Chains.reserve.Goals as goal

pub returns-in_err-reserve-clause-ends : goal.returns-in_err-reserve-clause-ends
returns-in_err-reserve-clause-ends c = ends_same c.args.self.now _ refl (λ q. refl)

pub returns-in_err-reserve-2-clause-ends : goal.returns-in_err-reserve-2-clause-ends
returns-in_err-reserve-2-clause-ends c = ends_same c.args.self.now _ refl c.reserve-2.ensures.entries.2

pub returns-clause-ends : goal.returns-clause-ends
returns-clause-ends c = ends_same c.args.self.now _ refl c.reserve-2.ensures.entries.2
