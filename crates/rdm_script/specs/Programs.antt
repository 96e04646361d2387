-- The programs of the ranks.
use Rattle.std.specs.Prelude.{ℕ, ◌+◌, Bool, false, not, ◌||◌, ◌==◌, nat_le, nat_lt, ⊤, List, [], ◌∷◌, ◌++◌, length, sum_by, codes, Option, Some, None, Result, Ok}
use Rattle.std.specs.List.{list_any}
use Rattle.serde_json.specs.Data.{Data}
use Rattle.serde_json.specs.Find.{get}
use Rattle.rdm_num.specs.declared.numbers.PortNo.{PortNo}
use Rattle.rdm_num.specs.declared.limits.EpLimits.{EpLimits}
use Rattle.rdm_model.specs.declared.job.Instr.{Instr}
use Rattle.rdm_model.specs.declared.job.Instr.TheVariants.{OpenLife, Insert, Reg, Send, Recv, Note, Await}
use Rattle.rdm_model.specs.declared.job.Rank.{Rank}
use Rattle.rdm_model.specs.Jobs.{is_rank_or_none, needs_life, is_open_after, opened_by, features_fit, sent_length}
use Rattle.rdm_json.specs.declared.place.Place.TheVariants as place
use Rattle.rdm_json.specs.declared.refusal.BadScript.{BadScript}
use Rattle.rdm_json.specs.declared.refusal.Reason.{Reason}
use Rattle.rdm_json.specs.declared.refusal.Reason.TheVariants.{Limit, NoRank, NoLife, OpenTwice, RepeatConnid}
use Rattle.rdm_json.specs.declared.value.Form.{Form}
use Rattle.rdm_json.specs.declared.value.Form.TheVariants as form
use Rattle.rdm_json.specs.Results.{◌>>=◌, ◌>>◌, tested, placed}
use Rattle.rdm_json.specs.Values.{known, number_or, array, found_at}
use Rattle.rdm_script.specs.declared.fields.Version.{Version}
use Rattle.rdm_script.specs.declared.fields.Version.TheVariants.{One, Two}
use Rattle.rdm_script.specs.Fields.{pool_size}
use Rattle.rdm_script.specs.Instructions.{instr_of}

-- the port that an instruction names
abbrev pub port_named : Instr → Option PortNo
port_named (Insert life) = Some life.port
port_named (Send req) = Some req.to
port_named (Recv req) = req.from
port_named (Note to what) = Some to
port_named (Await from what) = Some from
port_named _ = None

-- a life is open after these instructions, the newest first
abbrev pub is_open : List Instr → Bool
is_open [] = false
is_open (i ∷ before) = is_open_after (is_open before) i

-- the identifiers that these instructions opened
abbrev pub opened : List Instr → List ℕ
opened [] = []
opened (i ∷ before) = opened_by i ++ opened before

-- an open comes where no life is open and with an identifier that was not opened before, and what needs a life comes where one is open
abbrev pub lives_tested : (before : List Instr) → Instr → Result ⊤ Reason
lives_tested before (OpenLife connid) = do
  tested OpenTwice (not (is_open before))
  tested RepeatConnid (not (list_any (λ c. c == connid.0) (opened before)))
lives_tested before i = tested NoLife (is_open before || not (needs_life i))

-- the next instruction after these, the newest first
abbrev pub next_instr : Version → (ports : ℕ) → (before : List Instr) → Data → Result Instr Reason
next_instr version ports before d = do
  i ← instr_of version d
  tested NoRank (is_rank_or_none ports (port_named i))
  lives_tested before i
  Ok i

-- the instructions that come after these, the newest first
abbrev pub program_of : Version → (rank ports : ℕ) → (before : List Instr) → List Data → Result (List Instr) BadScript
program_of version rank ports before [] = Ok []
program_of version rank ports before (d ∷ ds) = do
  i ← placed (place.Op rank (length before)) (next_instr version ports before d)
  is ← program_of version rank ports (i ∷ before) ds
  Ok (i ∷ is)

-- the keys of a rank: from version 2 on it may have pools of its own
abbrev pub rank_form : Version → Form
rank_form One = form.Rank
rank_form Two = form.RankWithPools

-- a rank's own pools are an object with the keys of pools, but for the inbox
abbrev pub own_pools_known : Option Data → Result ⊤ Reason
own_pools_known None = Ok tt
own_pools_known (Some pools) = known form.OwnPools pools

-- the job's limits, with a rank's own pools in place
abbrev pub own_limits : EpLimits → Option Data → Result EpLimits Reason
own_limits limits pools = do
  tx ← pool_size limits.tx (found_at (codes "tx") pools)
  rx ← pool_size limits.rx (found_at (codes "rx") pools)
  early ← pool_size limits.early (found_at (codes "early") pools)
  cq ← pool_size limits.cq (found_at (codes "cq") pools)
  Ok (record limits { tx = tx; rx = rx; early = early; cq = cq })

-- the features of a rank, its limits, and its instructions as values: it has the keys of a rank, with values of their kinds, and then its features, each of its pools and the count of its instructions are in their limits
abbrev pub rank_parts : Version → EpLimits → Data → Result (ℕ × EpLimits × List Data) Reason
rank_parts version limits d = do
  known (rank_form version) d
  features ← number_or 25 (get (codes "features") d)
  ops ← array (codes "ops") d
  own_pools_known (get (codes "pools") d)
  tested Limit (features_fit features)
  own ← own_limits limits (get (codes "pools") d)
  tested Limit (nat_le (length ops) 20000)
  Ok (features, own, ops)

-- a rank and then its instructions, one after the other
abbrev pub rank_of : Version → EpLimits → (rank ports : ℕ) → Data → Result Rank BadScript
rank_of version limits rank ports d = do
  parts ← placed (place.Rank rank) (rank_parts version limits d)
  ops ← program_of version rank ports [] parts.2
  Ok (record { features = parts.0; limits = parts.1; ops = ops })

-- the ranks from one on, one after the other
abbrev pub ranks_of : Version → EpLimits → (rank ports : ℕ) → List Data → Result (List Rank) BadScript
ranks_of version limits rank ports [] = Ok []
ranks_of version limits rank ports (d ∷ ds) = do
  r ← rank_of version limits rank ports d
  rs ← ranks_of version limits (rank + 1) ports ds
  Ok (r ∷ rs)

-- how many bytes a reg makes
abbrev pub made_length : Instr → ℕ
made_length (Reg content) = length content
made_length _ = 0

-- all instructions, all regions or all sends together are too many
abbrev pub is_too_big : List Rank → Bool
is_too_big ranks =
    nat_lt 100000 (sum_by (λ (r : Rank). length r.ops) ranks)
    || nat_lt 67108864 (sum_by (λ (r : Rank). sum_by made_length r.ops) ranks)
    || nat_lt 67108864 (sum_by (λ (r : Rank). sum_by sent_length r.ops) ranks)
