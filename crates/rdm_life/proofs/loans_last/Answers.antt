use Rattle.rdm_life.proofs.loans_last.Goals as goal
use Rattle.rdm_life.proofs.LoansLaw.{loans_begin, loans_last}

pub returns-clause-begins : goal.returns-clause-begins
returns-clause-begins c = loans_begin

pub returns-clause-lasts : goal.returns-clause-lasts
returns-clause-lasts c = loans_last
