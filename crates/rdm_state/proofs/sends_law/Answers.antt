use Rattle.rdm_state.proofs.Sends.{grants_come, asks_come, answers_go, sends_end, sends_lost}
use Rattle.rdm_state.proofs.sends_law.Goals as goal

pub returns : goal.returns
returns c = record { grants = grants_come; asks = asks_come; answers = answers_go; ends = sends_end; lost = sends_lost }
