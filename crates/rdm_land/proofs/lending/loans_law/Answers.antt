use Rattle.rdm_land.proofs.LoansStay.{lend_gives_loan, stay_reserved, stay_placed, stay_filled, stay_lent, stay_landed, stay_unlent}
use Rattle.rdm_land.proofs.lending.loans_law.Goals as goal

pub returns-clause-given : goal.returns-clause-given
returns-clause-given c = lend_gives_loan

pub returns-clause-reserved : goal.returns-clause-reserved
returns-clause-reserved c = stay_reserved

pub returns-clause-placed : goal.returns-clause-placed
returns-clause-placed c = stay_placed

pub returns-clause-filled : goal.returns-clause-filled
returns-clause-filled c = stay_filled

pub returns-clause-lent : goal.returns-clause-lent
returns-clause-lent c = stay_lent

pub returns-clause-landed : goal.returns-clause-landed
returns-clause-landed c = stay_landed

pub returns-clause-unlent : goal.returns-clause-unlent
returns-clause-unlent c = stay_unlent
