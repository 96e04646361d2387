use Rattle.rdm_mr.proofs.Undone.{taken_is_out, back_undoes_out}
use Rattle.rdm_mr.proofs.home.home_law.Goals as goal

pub returns-clause-out : goal.returns-clause-out
returns-clause-out c = taken_is_out

pub returns-clause-back : goal.returns-clause-back
returns-clause-back c = back_undoes_out
