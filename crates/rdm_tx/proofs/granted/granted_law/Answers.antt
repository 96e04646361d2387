use Rattle.rdm_tx.proofs.GrantLaws.{granted_follow, granted_is_counted, granted_are_due}
use Rattle.rdm_tx.proofs.granted.granted_law.Goals as goal

pub returns-clause-follow : goal.returns-clause-follow
returns-clause-follow c = granted_follow

pub returns-clause-counted : goal.returns-clause-counted
returns-clause-counted c = granted_is_counted

pub returns-clause-due : goal.returns-clause-due
returns-clause-due c = granted_are_due
