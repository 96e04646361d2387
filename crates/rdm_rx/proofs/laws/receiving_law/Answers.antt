use Rattle.rdm_rx.proofs.ReadLists.{heads_fit, first_parts_fit}
use Rattle.rdm_rx.proofs.Runs.{windows_follow, grants_stay_within}
use Rattle.rdm_rx.proofs.laws.receiving_law.Goals as goal

pub returns-clause-heads : goal.returns-clause-heads
returns-clause-heads c = heads_fit

pub returns-clause-first : goal.returns-clause-first
returns-clause-first c = first_parts_fit

pub returns-clause-windows : goal.returns-clause-windows
returns-clause-windows c = windows_follow

pub returns-clause-within : goal.returns-clause-within
returns-clause-within c = grants_stay_within
