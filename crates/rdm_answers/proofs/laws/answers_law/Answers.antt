use Rattle.rdm_answers.proofs.Received.{dues_are_owed, windows_agree, greetings_greet, givens_give}
use Rattle.rdm_answers.proofs.Given.{only_given_bytes_count}
use Rattle.rdm_answers.proofs.laws.answers_law.Goals as goal

pub returns-clause-dues : goal.returns-clause-dues
returns-clause-dues c = dues_are_owed

pub returns-clause-windows : goal.returns-clause-windows
returns-clause-windows c = windows_agree

pub returns-clause-greetings : goal.returns-clause-greetings
returns-clause-greetings c = greetings_greet

pub returns-clause-givens : goal.returns-clause-givens
returns-clause-givens c = givens_give

pub returns-clause-bytes : goal.returns-clause-bytes
returns-clause-bytes c = only_given_bytes_count
