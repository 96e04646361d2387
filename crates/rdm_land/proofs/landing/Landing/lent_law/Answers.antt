use Rattle.rdm_land.proofs.LandingViews.{agrees_seen}
use Rattle.rdm_land.proofs.LoansStay.{lent_are_loans, loans_are_apart}
use Rattle.rdm_land.proofs.landing.Landing.lent_law.Goals as goal

pub returns-clause-loans : goal.returns-clause-loans
returns-clause-loans c = lent_are_loans c.args.self.now (agrees_seen _ _ _ c.self.invariant.agrees _ c.self.view_is)

pub returns-clause-apart : goal.returns-clause-apart
returns-clause-apart c = loans_are_apart c.args.self.now (agrees_seen _ _ _ c.self.invariant.agrees _ c.self.view_is)
