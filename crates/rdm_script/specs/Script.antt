-- The job that a script says, or what is wrong with it first.
use Rattle.std.specs.Prelude.{ℕ, not, nat_le, List, length, codes, if◌then◌else◌, Option, Some, None, Result, Ok, Err}
use Rattle.std.specs.Str.{is_utf8}
use Rattle.serde_json.specs.Data.{Data}
use Rattle.serde_json.specs.Find.{get}
use Rattle.serde_json.specs.Read.{read}
use Rattle.rdm_num.specs.declared.limits.EpLimits.{EpLimits}
use Rattle.rdm_model.specs.declared.job.Job.{Job}
use Rattle.rdm_model.specs.declared.job.Rank.{Rank}
use Rattle.rdm_json.specs.declared.place.Place.TheVariants.{Whole}
use Rattle.rdm_json.specs.declared.refusal.Reason.{Reason}
use Rattle.rdm_json.specs.declared.refusal.Reason.TheVariants.{TooLong, NotJson, TooBig, Unbuilt}
use Rattle.rdm_json.specs.declared.refusal.BadScript.{BadScript}
use Rattle.rdm_script.specs.declared.fields.Version.{Version}
use Rattle.rdm_script.specs.declared.fields.Protocol.{Protocol}
use Rattle.rdm_script.specs.declared.fields.PoolSizes.{PoolSizes}
use Rattle.rdm_json.specs.Results.{◌>>=◌, ◌>>◌, tested, placed}
use Rattle.rdm_script.specs.Fields.{version_of, protocol_of, pools_of, ranks_field, choices_field}
use Rattle.rdm_script.specs.Programs.{ranks_of, is_too_big}
use Rattle.rdm_script.specs.Choices.{choices_of}
use Rattle.rdm_script.specs.Played.{is_played}

-- the most bytes of a script
abbrev pub script_max : ℕ
script_max = 8388608

-- the script is refused as a whole
abbrev pub whole : Reason → Result Job BadScript
whole why = Err (record { place = Whole; why = why })

-- the limits of an endpoint
abbrev pub limits_of : Protocol → PoolSizes → EpLimits
limits_of p s =
    record {
      mtu = p.mtu;
      medium = p.medium;
      read_limit = p.read_limit;
      runt = p.runt;
      credits = p.credits;
      first = p.first;
      tx = s.tx;
      rx = s.rx;
      early = s.early;
      cq = s.cq;
    }

-- the ranks that values say, which are not too big together
abbrev pub programs_of : Version → EpLimits → List Data → Result (List Rank) BadScript
programs_of version limits values = do
  ranks ← ranks_of version limits 0 (length values) values
  placed Whole (tested TooBig (not (is_too_big ranks)))
  Ok ranks

-- the job of a well formed script: its version, its fields, its ranks and then its choices
abbrev pub formed_job : Data → Result Job BadScript
formed_job script = do
  version ← version_of script
  protocol ← protocol_of script
  pools ← pools_of (get (codes "pools") script)
  values ← ranks_field script
  picks ← choices_field script
  ranks ← programs_of version (limits_of protocol pools) values
  choices ← choices_of 0 (length values) picks
  Ok (record { limits = limits_of protocol pools; inbox = pools.inbox; clock = protocol.clock; ranks = ranks; choices = choices })

-- the job, where it is played
abbrev pub if_played : Job → Result Job BadScript
if_played job = if is_played job then Ok job else whole Unbuilt

-- the job that a JSON value says, where it is played
abbrev pub value_job : Data → Result Job BadScript
value_job script = formed_job script >>= if_played

-- the job of a JSON value, where there is one
abbrev pub read_job : Option Data → Result Job BadScript
read_job None = whole NotJson
read_job (Some script) = value_job script

-- the job that bytes say, of whatever length
abbrev pub text_job : List ℕ → Result Job BadScript
text_job bytes = if is_utf8 bytes then read_job (read bytes) else whole NotJson

-- the job that bytes say, or what is wrong with them first
abbrev pub job_in : List ℕ → Result Job BadScript
job_in bytes = if nat_le (length bytes) script_max then text_job bytes else whole TooLong
