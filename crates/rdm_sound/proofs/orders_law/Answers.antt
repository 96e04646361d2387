use Rattle.rdm_sound.proofs.orders_law.Goals as goal
use Rattle.rdm_sound.proofs.Deeds.{begins_orderly, stays_orderly, steps_orderly}
use Rattle.rdm_sound.proofs.Allowed.{answers_allow}
use Rattle.rdm_sound.proofs.KeptOrderly.{kept_is_orderly}

pub returns : goal.returns
returns c = record {
  begins = begins_orderly;
  stays = stays_orderly;
  steps = steps_orderly;
  allows = answers_allow;
  kept = kept_is_orderly;
}
