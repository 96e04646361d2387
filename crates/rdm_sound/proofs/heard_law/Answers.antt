use Rattle.rdm_sound.proofs.heard_law.Goals as goal
use Rattle.rdm_sound.proofs.HeardDeeds.{begins_heard, stays_heard}
use Rattle.rdm_sound.proofs.HeardNext.{enters_next, enters_none}
use Rattle.rdm_sound.proofs.HeardRuns.{enters_while, enters_until}
use Rattle.rdm_sound.proofs.HeardSteps.{steps_heard, enters_early}
use Rattle.rdm_sound.proofs.KeptOrderly.{kept_is_heard}

pub returns : goal.returns
returns c = record {
  begins = begins_heard;
  stays = stays_heard;
  steps = steps_heard;
  early = enters_early;
  enters = enters_while;
  ends = enters_until;
  next = enters_next;
  none = enters_none;
  kept = kept_is_heard;
}
