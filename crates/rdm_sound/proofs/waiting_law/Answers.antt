use Rattle.rdm_sound.proofs.waiting_law.Goals as goal
use Rattle.rdm_sound.proofs.KeptOrderly.{kept_is_waiting}
use Rattle.rdm_sound.proofs.Waiting.{accepts_free}
use Rattle.rdm_sound.proofs.WaitingDeeds.{begins_waiting, stays_waiting, steps_waiting}

pub returns : goal.returns
returns c = record {
  begins = begins_waiting;
  stays = stays_waiting;
  steps = steps_waiting;
  accepts = accepts_free;
  kept = kept_is_waiting;
}
