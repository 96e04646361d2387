use Rattle.rdm_tx.proofs.Laws.{steps_give_openings, spans_law, packets_carry_parts}
use Rattle.rdm_tx.proofs.cursor_law.Goals as goal

pub returns-clause-packets : goal.returns-clause-packets
returns-clause-packets c = steps_give_openings

pub returns-clause-spans : goal.returns-clause-spans
returns-clause-spans c = spans_law

pub returns-clause-bytes : goal.returns-clause-bytes
returns-clause-bytes c = packets_carry_parts
