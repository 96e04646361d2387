use Rattle.rdm_state.proofs.Giving.{owes_none}
use Rattle.rdm_state.proofs.GivingDeeds.{begins_giving, stays_giving}
use Rattle.rdm_state.proofs.giving_law.Goals as goal

pub returns : goal.returns
returns c = record { begins = begins_giving; stays = stays_giving; none = owes_none }
