-- Every job that comes of a script is fair, and played.
use Rattle.std.proofs.Common.{◌≡◌, ℕ, Bool, true, false, List, length, Option, Some, None, Ok, Err, Result, refl, subst, if◌then◌else◌}
use Rattle.std.specs.Prelude.{nat_le}
use Rattle.std.specs.Str.{is_utf8}
use Rattle.serde_json.specs.Data.{Data}
use Rattle.serde_json.specs.Read.{read}
use Rattle.rdm_model.specs.declared.job.Job.{Job}
use Rattle.rdm_json.specs.declared.refusal.BadScript.{BadScript}
use Rattle.rdm_json.proofs.Chains.{gave, given}
use Rattle.rdm_script.specs.Played.{is_played}
use Rattle.rdm_script.specs.Script.{formed_job, if_played, value_job, read_job, text_job, job_in, script_max}
use Rattle.rdm_script.specs.Laws.{ReadAreFair, ReadArePlayed}
use Rattle.rdm_script.proofs.Formed.{formed_are_fair}

-- a choice between a result and a refusal that gave a job gave the result's, and its test held
chosen : (b : Bool) (said : Result Job BadScript) (bad : BadScript) (job : Job) → (if b then said else Err bad) ≡ Ok job → (b ≡ true) × (said ≡ Ok job)
chosen true said bad job h = (refl, h)
chosen false said bad job h = cc

-- a value of which a job came is well formed, and the job is played
record Came (script : Data) (job : Job) : Type 0 where
  formed : formed_job script ≡ Ok job
  played : is_played job ≡ true

of_value : (script : Data) (job : Job) → value_job script ≡ Ok job → Came script job
of_value script job h =
    let (formed, said, h) = gave (formed_job script) if_played job h in
    let (played, h) = chosen (is_played formed) (Ok formed) _ job h in
    subst (λ j. Came script j) (given {E = BadScript} formed job h) (record { formed = said; played = played })

of_read : (o : Option Data) (job : Job) → read_job o ≡ Ok job → (script : Data) × Came script job
of_read None job h = cc
of_read (Some script) job h = (script, of_value script job h)

-- a job that comes of a script comes of a value
came : (bytes : List ℕ) (job : Job) → job_in bytes ≡ Ok job → (script : Data) × Came script job
came bytes job h =
    let (_, h) = chosen (nat_le (length bytes) script_max) (text_job bytes) _ job h in
    let (_, h) = chosen (is_utf8 bytes) (read_job (read bytes)) _ job h in
    of_read (read bytes) job h

pub read_are_fair : ReadAreFair
read_are_fair bytes job h = let (script, is) = came bytes job h in formed_are_fair script job is.formed

pub read_are_played : ReadArePlayed
read_are_played bytes job h = let (script, is) = came bytes job h in is.played
