use Rattle.rdm_law.proofs.played_is_right.Goals as goal
use Rattle.rdm_law.proofs.Played.PlaysRight.{plays_right}
use Rattle.rdm_law.proofs.Bound.Bounded.{is_bounded}

pub returns : goal.returns
returns c = plays_right is_bounded
