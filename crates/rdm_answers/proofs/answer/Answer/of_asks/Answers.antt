use Rattle.rdm_answers.proofs.Singles.{some_left}
use Rattle.rdm_answers.proofs.answer.Answer.of_asks.Goals as goal

pub returns-in-Some-clause-item : goal.returns-in-Some-clause-item
returns-in-Some-clause-item c = some_left c.in-Some.asks (rw c.in-Some.is at c.requires)
