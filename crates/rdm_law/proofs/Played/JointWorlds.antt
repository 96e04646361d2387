-- Any choices keep a world sound, and so do rounds; the joint history of a sound world is lawful.
use Rattle.std.proofs.Common.{List, [], ◌∷◌, IsTrue}
use Rattle.rdm_model.specs.declared.job.Job.{Job}
use Rattle.rdm_model.specs.declared.job.Choice.{Choice}
use Rattle.rdm_model.specs.declared.entry.Entry.{Entry}
use Rattle.rdm_model.specs.Jobs.{is_fair, law_ops}
use Rattle.rdm_model.specs.Lawful.{Lawful}
use Rattle.rdm_model.specs.Joint.{IsJoint}
use Rattle.rdm_model.specs.Worlds.{World, new_world, after_choice, after_choices}
use Rattle.rdm_model.specs.Played.{rounds}
use Rattle.rdm_law.specs.Worlds.{LawfulAfterChoices, LawfulAfterRounds}
use Rattle.rdm_law.proofs.Central.TheLaw.{the_joint_law}
use Rattle.rdm_law.proofs.Played.Sound.{Sound, waiting_in}
use Rattle.rdm_law.proofs.Played.SoundSteps.{new_sound}
use Rattle.rdm_law.proofs.Played.SoundHandles.{choice_sound}
use Rattle.rdm_law.proofs.Played.GoesWell.{goes_well}
use Rattle.rdm_law.proofs.Played.PlayedSteps.{rounds_keep}
use Rattle.rdm_law.proofs.Played.PlaysLawfully.{sound_keeps}
use Rattle.rdm_law.proofs.Played.JointDelivered.{joint_delivered}

-- any choices keep a world sound
pub choices_sound : (job : Job) (choices : List Choice) (w : World) → IsTrue (is_fair law_ops job) → Sound job w → Sound job (after_choices job w choices)
unfolding after_choices
choices_sound job [] w fair s = s
choices_sound job (c ∷ cs) w fair s = choices_sound job cs (after_choice job w c) fair (choice_sound job w c (goes_well job fair) s)

-- the joint history of a sound world is lawful
pub sound_lawful : (job : Job) (w : World) (history : List Entry) → IsTrue (is_fair law_ops job) → Sound job w → IsJoint w.logs history → Lawful job history
sound_lawful job w history fair s joint =
    the_joint_law job w.logs history fair joint (joint_delivered w.logs (waiting_in w) history s.delivers joint) s.local

-- after choices
pub lawful_after_choices : LawfulAfterChoices
lawful_after_choices job choices history fair joint =
    sound_lawful job (after_choices job new_world choices) history fair (choices_sound job choices new_world fair (new_sound job)) joint

-- after rounds that follow them
pub lawful_after_rounds : LawfulAfterRounds
lawful_after_rounds job choices count history fair joint =
    let w = after_choices job new_world choices in
    sound_lawful job (rounds count job w) history fair
    (rounds_keep job (Sound job) (sound_keeps job fair) count w (choices_sound job choices new_world fair (new_sound job))) joint
