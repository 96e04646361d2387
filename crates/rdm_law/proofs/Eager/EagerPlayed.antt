-- An eager job: each choice of a rank keeps a world eager.
use Rattle.std.proofs.Common.{ℕ, IsTrue}
use Rattle.rdm_num.specs.declared.numbers.Connid.{Connid}
use Rattle.rdm_model.specs.declared.job.Job.{Job}
use Rattle.rdm_model.specs.Jobs.{is_fair, law_ops}
use Rattle.rdm_model.specs.Worlds.{World, new_world}
use Rattle.rdm_law.proofs.Played.Sound.{Sound}
use Rattle.rdm_law.proofs.Played.SoundSteps.{new_sound}
use Rattle.rdm_law.proofs.Played.PlaysLawfully.{sound_keeps}
use Rattle.rdm_law.proofs.Played.PlayedSteps.{Keeps}
use Rattle.rdm_law.proofs.Eager.EagerPorts.{EagerJob}
use Rattle.rdm_law.proofs.Eager.EagerSteps.{HasEager, new_eager, choice_eager}

-- a sound world whose datagrams are eager
pub record EagerWorld (job : Job) (lives : ℕ → Connid) (w : World) : Type 0 where
  pub sound : Sound job w
  pub has : HasEager lives job.limits.first w

-- before any step
pub new_eager_world : (job : Job) (lives : ℕ → Connid) → EagerWorld job lives new_world
new_eager_world job lives = record { sound = new_sound job; has = new_eager lives job.limits.first }

-- each choice of a rank keeps it
pub eager_keeps : (job : Job) (lives : ℕ → Connid) → IsTrue (is_fair law_ops job) → EagerJob job lives → Keeps job (EagerWorld job lives)
eager_keeps job lives fair plain w c rank p = record { sound = sound_keeps job fair w c rank p.sound; has = choice_eager job lives w c fair plain p.sound p.has }
