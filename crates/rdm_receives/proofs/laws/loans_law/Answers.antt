use Rattle.rdm_receives.proofs.Lent.{lend_shows, unlend_shows, land_shows, free_is_missing}
use Rattle.rdm_receives.proofs.laws.loans_law.Goals as goal

pub returns-clause-lend : goal.returns-clause-lend
returns-clause-lend c = lend_shows

pub returns-clause-unlend : goal.returns-clause-unlend
returns-clause-unlend c = unlend_shows

pub returns-clause-land : goal.returns-clause-land
returns-clause-land c = land_shows

pub returns-clause-free : goal.returns-clause-free
returns-clause-free c = free_is_missing
