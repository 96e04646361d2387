-- After every log that a life can have, what is kept of lives, regions and counts, of messages and of the matcher, is what the definitions say.
use Rattle.std.proofs.Common.{List, [], ◌∷◌}
use Rattle.rdm_model.specs.Beginnings.{Own}
use Rattle.rdm_model.specs.Deeds.{Deed}
use Rattle.rdm_law.proofs.Lives.Lives.{LifeLocal}
use Rattle.rdm_life.specs.Keeps.{KeepsLives, KeepsMatching}
use Rattle.rdm_life.specs.Handling.{kept}
use Rattle.rdm_life.proofs.LivesKept.{lives_start, lives_step}
use Rattle.rdm_life.proofs.MatchingStep.{matching_start, matching_step}

-- by the deeds, one after another
pub messages_are_kept : (own : Own) (log : List Deed) → LifeLocal own log → KeepsLives own log (kept own log) × KeepsMatching own log (kept own log)
unfolding kept
messages_are_kept own [] local = (lives_start own, matching_start own)
messages_are_kept own (d ∷ before) local =
    let k = messages_are_kept own before local.0 in
    (lives_step own d before (kept own before) local k.0, matching_step own d before (kept own before) local k.0 k.1)
