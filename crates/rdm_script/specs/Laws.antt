-- What is known of every job, as statements.
use Rattle.std.specs.Prelude.{◌≡◌, ℕ, IsTrue, List, Ok}
use Rattle.serde_json.specs.Data.{Data}
use Rattle.rdm_model.specs.declared.job.Job.{Job}
use Rattle.rdm_model.specs.Jobs.{is_fair, law_ops}
use Rattle.rdm_script.specs.Played.{is_played}
use Rattle.rdm_script.specs.Script.{formed_job, job_in}

-- every job of a well formed script is fair, whether it is played or not
abbrev pub FormedAreFair : Type 0
FormedAreFair = (script : Data) (job : Job) → formed_job script ≡ Ok job → IsTrue (is_fair law_ops job)

-- every job that comes of a script is fair
abbrev pub ReadAreFair : Type 0
ReadAreFair = (bytes : List ℕ) (job : Job) → job_in bytes ≡ Ok job → IsTrue (is_fair law_ops job)

-- every job that comes of a script is played
abbrev pub ReadArePlayed : Type 0
ReadArePlayed = (bytes : List ℕ) (job : Job) → job_in bytes ≡ Ok job → IsTrue (is_played job)
