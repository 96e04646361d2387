use Rattle.rdm_life.proofs.loans_stand.Goals as goal
use Rattle.rdm_life.proofs.LoansStand.{lending_stands, unlending_stands, landing_stands}

pub returns-clause-lends : goal.returns-clause-lends
returns-clause-lends c = lending_stands

pub returns-clause-unlends : goal.returns-clause-unlends
returns-clause-unlends c = unlending_stands

pub returns-clause-lands : goal.returns-clause-lands
returns-clause-lands c = landing_stands
