use Rattle.rdm_state.proofs.Counted.{begins_counted, stays_counted, tells_counts}
use Rattle.rdm_state.proofs.counted_law.Goals as goal

pub returns : goal.returns
returns c = record { begins = begins_counted; stays = stays_counted; tells = tells_counts }
