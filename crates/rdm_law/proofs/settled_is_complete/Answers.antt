use Rattle.rdm_law.proofs.settled_is_complete.Goals as goal
use Rattle.rdm_law.proofs.Central.TheLaw.{the_end}

pub returns : goal.returns
returns c = the_end
