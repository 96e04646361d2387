use Rattle.rdm_sent.proofs.Begun.{begins_as_kept}
use Rattle.rdm_sent.proofs.Going.{next_is_kept, goes_out_as_kept, pushes_as_kept}
use Rattle.rdm_sent.proofs.pushes_law.Goals as goal

pub returns-clause-begins : goal.returns-clause-begins
returns-clause-begins c = begins_as_kept

pub returns-clause-next : goal.returns-clause-next
returns-clause-next c = next_is_kept

pub returns-clause-goes_out : goal.returns-clause-goes_out
returns-clause-goes_out c = goes_out_as_kept

pub returns-clause-pushes : goal.returns-clause-pushes
returns-clause-pushes c = pushes_as_kept
