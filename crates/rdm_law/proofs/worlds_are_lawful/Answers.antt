use Rattle.rdm_law.proofs.worlds_are_lawful.Goals as goal
use Rattle.rdm_law.proofs.Played.JointWorlds.{lawful_after_choices, lawful_after_rounds}
use Rattle.rdm_law.proofs.Played.Stopped.{stopped_is_right}
use Rattle.rdm_law.proofs.Played.Logs.{logs_are_delivered, stopped_logs_are_right}

pub returns-clause-choices : goal.returns-clause-choices
returns-clause-choices c = lawful_after_choices

pub returns-clause-rounds : goal.returns-clause-rounds
returns-clause-rounds c = lawful_after_rounds

pub returns-clause-stopped_is_right : goal.returns-clause-stopped_is_right
returns-clause-stopped_is_right c = stopped_is_right

pub returns-clause-delivered : goal.returns-clause-delivered
returns-clause-delivered c = logs_are_delivered

pub returns-clause-stopped_logs_are_right : goal.returns-clause-stopped_logs_are_right
returns-clause-stopped_logs_are_right c = stopped_logs_are_right
