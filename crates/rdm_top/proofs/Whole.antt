-- A script that is built was read to its end.
use Rattle.std.proofs.Common.{◌≡◌, ◌≤◌, ◌<◌, ◌⊎◌, inl, inr, ℕ, true, false, List, Option, Some, None, Ok, length, refl, arith, if◌then◌else◌, ◌∙◌, sym}
use Rattle.std.specs.Prelude.{nat_le}
use Rattle.std.proofs.lemmas.Bool.{leb-true}
use Rattle.std.specs.Io.KnownBytes.{IsAtEnd, Keeps}
use Rattle.rdm_model.specs.declared.job.Job.{Job}
use Rattle.rdm_model.specs.declared.report.Report.{Report}
use Rattle.rdm_model.specs.Played.{IsPlayed}
use Rattle.rdm_json.specs.declared.refusal.Reason.TheVariants.{TooLong}
use Rattle.rdm_script.specs.Script.{job_in, text_job, whole, script_max}
use Rattle.rdm_top.specs.Reads.{IsRead}
use Rattle.rdm_top.specs.Promise.{Plays}
use Rattle.rdm_top.proofs.PlayedJobs.{is_fair-job_in}
use Rattle.rdm_law.proofs.Played.PlaysRight.{plays_right}
use Rattle.rdm_law.proofs.Bound.Bounded.{is_bounded}
use Rattle.rdm_law.proofs.Central.TheLaw.{the_headline}

-- known bytes that are not touched are kept
pub keeps : (known : Option (List ℕ)) → Keeps known known
keeps None = tt
keeps (Some bytes) = refl

-- more bytes than a script may have are refused
too_long : (bytes : List ℕ) → script_max < length bytes → job_in bytes ≡ whole TooLong
too_long bytes long =
    elim (nat_le (length bytes) script_max) as (λ t. nat_le (length bytes) script_max ≡ t → (if t then text_job bytes else whole TooLong) ≡ whole TooLong) [
      | true ↦ λ e. let short : length bytes ≤ script_max = leb-true _ _ e in absurd (omega (arith, short, long))
      | false ↦ λ e. refl
    ] refl

-- a script that says a job was read to its end
at_end : (rest : Option (List ℕ)) (bytes : List ℕ) (job : Job) → IsAtEnd rest ⊎ (script_max < length bytes) → job_in bytes ≡ Ok job → IsAtEnd rest
at_end rest bytes job (inl end) is_job = end
at_end rest bytes job (inr long) is_job = let wrong : whole TooLong ≡ Ok job = sym (too_long bytes long) ∙ is_job in cc

-- what was read is the script of the report
pub plays : (left rest : Option (List ℕ)) (bytes : List ℕ) (job : Job) (report : Report) → IsRead left rest bytes → job_in bytes ≡ Ok job → IsPlayed job report → Plays left rest report
plays left rest bytes job report read is_job played =
    let fair = is_fair-job_in bytes job is_job in
    let right = plays_right is_bounded job report fair played in
    record {
      bytes = bytes;
      job = job;
      read = read.0;
      to_end = at_end rest bytes job read.1 is_job;
      is_job = is_job;
      played = played;
      right = right;
      says = the_headline job report fair right;
    }
