use Rattle.rdm_law.proofs.central_law.Goals as goal
use Rattle.rdm_law.proofs.Central.TheLaw.{the_law, the_joint_law}

pub returns-clause-law : goal.returns-clause-law
returns-clause-law c = the_law

pub returns-clause-joint : goal.returns-clause-joint
returns-clause-joint c = the_joint_law
