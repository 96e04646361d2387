use Rattle.rdm_answers.proofs.Singles.{all_at_once}
use Rattle.rdm_answers.proofs.answer.Answer.left.Goals as goal

pub returns-in_default-clause-left : goal.returns-in_default-clause-left
returns-in_default-clause-left c = all_at_once c.args.self c.in_default.not-Asks
