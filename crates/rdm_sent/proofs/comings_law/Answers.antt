use Rattle.rdm_sent.proofs.Granting.{may_be_granted, grants_as_kept}
use Rattle.rdm_sent.proofs.Asking.{may_be_asked, room_is_kept, asks_as_kept, gives_as_kept, answers_as_kept}
use Rattle.rdm_sent.proofs.comings_law.Goals as goal

pub returns-clause-may_be_granted : goal.returns-clause-may_be_granted
returns-clause-may_be_granted c = may_be_granted

pub returns-clause-grants : goal.returns-clause-grants
returns-clause-grants c = grants_as_kept

pub returns-clause-may_be_asked : goal.returns-clause-may_be_asked
returns-clause-may_be_asked c = may_be_asked

pub returns-clause-room : goal.returns-clause-room
returns-clause-room c = room_is_kept

pub returns-clause-asks : goal.returns-clause-asks
returns-clause-asks c = asks_as_kept

pub returns-clause-gives : goal.returns-clause-gives
returns-clause-gives c = gives_as_kept

pub returns-clause-answers : goal.returns-clause-answers
returns-clause-answers c = answers_as_kept
