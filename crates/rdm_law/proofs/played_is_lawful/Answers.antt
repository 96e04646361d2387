use Rattle.rdm_law.proofs.played_is_lawful.Goals as goal
use Rattle.rdm_law.proofs.Central.TheLaw.{the_joint_law}
use Rattle.rdm_law.proofs.Played.PlaysLawfully.{plays_lawfully}

pub returns : goal.returns
returns c = plays_lawfully the_joint_law
