use Rattle.rdm_regions.proofs.Several.{each_is_held, none_is_held}
use Rattle.rdm_regions.proofs.survival.holds_law.Goals as goal

pub returns-clause-held : goal.returns-clause-held
returns-clause-held c = each_is_held

pub returns-clause-dropped : goal.returns-clause-dropped
returns-clause-dropped c = none_is_held
