use Rattle.rdm_law.proofs.histories_are_bounded.Goals as goal
use Rattle.rdm_law.proofs.Bound.Bounded.{is_bounded}

pub returns : goal.returns
returns c = is_bounded
