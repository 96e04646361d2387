use Rattle.rdm_answers.proofs.Singles.{asks_gone, asks_left, asks_there}
use Rattle.rdm_answers.proofs.answer.next_asks.Goals as goal

pub returns-then-is_done-clause-left : goal.returns-then-is_done-clause-left
returns-then-is_done-clause-left c = asks_gone c.args.asks c.step.new.self c.is_done.result c.step.ensures c.is_done.ensures c.if-is_done.true

pub returns-else-is_done-clause-left : goal.returns-else-is_done-clause-left
returns-else-is_done-clause-left c = asks_left c.args.asks c.step.new.self c.step.ensures

pub returns-else-is_done-clause-items : goal.returns-else-is_done-clause-items
returns-else-is_done-clause-items c = asks_there c.step.new.self c.is_done.result c.is_done.ensures c.if-is_done.false
