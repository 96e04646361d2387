use Rattle.rdm_state.proofs.Changed.{grants, fills}
use Rattle.rdm_state.proofs.Over.{ends, cancels, loses}
use Rattle.rdm_state.proofs.receives_law.Goals as goal

pub returns : goal.returns
returns c = record { grants = grants; fills = fills; ends = ends; cancels = cancels; loses = loses }
