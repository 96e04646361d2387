use Rattle.rdm_regions.proofs.Survive.{stay_registered, stay_held, stay_dropped, stay_leased, stay_returned}
use Rattle.rdm_regions.proofs.Undone.{back_undoes_lease}
use Rattle.rdm_regions.proofs.survival.survival_law.Goals as goal

pub returns-clause-registered : goal.returns-clause-registered
returns-clause-registered c = stay_registered

pub returns-clause-held : goal.returns-clause-held
returns-clause-held c = stay_held

pub returns-clause-dropped : goal.returns-clause-dropped
returns-clause-dropped c = stay_dropped

pub returns-clause-leased : goal.returns-clause-leased
returns-clause-leased c = stay_leased

pub returns-clause-returned : goal.returns-clause-returned
returns-clause-returned c = stay_returned

pub returns-clause-undone : goal.returns-clause-undone
returns-clause-undone c = back_undoes_lease
