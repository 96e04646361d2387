use Rattle.rdm_land.proofs.Laws.{lend_lends, unlend_undoes_lend, land_is_unlend_and_place}
use Rattle.rdm_land.proofs.lending.lending_law.Goals as goal

pub returns-clause-lent : goal.returns-clause-lent
returns-clause-lent c = lend_lends

pub returns-clause-undone : goal.returns-clause-undone
returns-clause-undone c = unlend_undoes_lend

pub returns-clause-placed : goal.returns-clause-placed
returns-clause-placed c = land_is_unlend_and_place
