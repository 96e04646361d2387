use Rattle.rdm_state.proofs.Fitting.{begins_fitting, stays_fitting}
use Rattle.rdm_state.proofs.fitting_law.Goals as goal

pub returns : goal.returns
returns c = record { begins = begins_fitting; stays = stays_fitting }
