use Rattle.rdm_state.proofs.Begins.{starts, registers, polls}
use Rattle.rdm_state.proofs.state_law.Goals as goal

pub returns : goal.returns
returns c = record { starts = starts; registers = registers; polls = polls }
