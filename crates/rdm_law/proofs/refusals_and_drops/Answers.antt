use Rattle.rdm_law.proofs.refusals_and_drops.Goals as goal
use Rattle.rdm_law.proofs.Refusals.AgainFull.{again_is_full}
use Rattle.rdm_law.proofs.Refusals.DroppedOnly.{bytes_come_once, drops_are_of_others, drops_change_nothing}
use Rattle.rdm_law.proofs.Refusals.OwesNothing.{drops_owe_nothing}

pub returns-clause-again : goal.returns-clause-again
returns-clause-again c = again_is_full

pub returns-clause-once : goal.returns-clause-once
returns-clause-once c = bytes_come_once

pub returns-clause-drops : goal.returns-clause-drops
returns-clause-drops c = drops_are_of_others

pub returns-clause-nothing : goal.returns-clause-nothing
returns-clause-nothing c = drops_change_nothing

pub returns-clause-owed : goal.returns-clause-owed
returns-clause-owed c = drops_owe_nothing
