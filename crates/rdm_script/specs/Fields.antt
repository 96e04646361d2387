-- The keys of the outermost object: its version, its numbers with their limits and defaults, its pools, and its two arrays.
use Rattle.std.specs.Prelude.{ℕ, ⊤, ◌==◌, List, [], length, codes, if◌then◌else◌, Option, Some, None, Result, Ok, Err}
use Rattle.serde_json.specs.Data.{Data}
use Rattle.serde_json.specs.Find.{get}
use Rattle.rdm_model.specs.Jobs.{is_within}
use Rattle.rdm_json.specs.declared.place.FieldName.{FieldName}
use Rattle.rdm_json.specs.declared.place.FieldName.TheVariants as field
use Rattle.rdm_json.specs.declared.place.Place.TheVariants.{Whole, Field}
use Rattle.rdm_json.specs.declared.refusal.BadScript.{BadScript}
use Rattle.rdm_json.specs.declared.refusal.Reason.{Reason}
use Rattle.rdm_json.specs.declared.refusal.Reason.TheVariants.{Shape, Limit}
use Rattle.rdm_json.specs.declared.refusal.Reason.TheVariants as reason
use Rattle.rdm_json.specs.declared.value.Form.TheVariants as form
use Rattle.rdm_script.specs.declared.fields.Version.{Version}
use Rattle.rdm_script.specs.declared.fields.Version.TheVariants.{One, Two}
use Rattle.rdm_script.specs.declared.fields.Protocol.{Protocol}
use Rattle.rdm_script.specs.declared.fields.PoolSizes.{PoolSizes}
use Rattle.rdm_json.specs.Results.{◌>>=◌, ◌>>◌, tested, present, placed}
use Rattle.rdm_json.specs.Values.{known, number, number_or, array_of, found_at}

-- an object with the keys of a script, which has ranks and says its version
abbrev pub version_said : Data → Result ℕ Reason
version_said script = do
  known form.Script script
  ranks ← present Shape (get (codes "ranks") script)
  number (codes "version") script

-- the versions are 1 and 2
abbrev pub as_version : ℕ → Result Version Reason
as_version n = if n == 1 then Ok One else if n == 2 then Ok Two else Err reason.Version

-- the version of a script
abbrev pub version_of : Data → Result Version BadScript
version_of script = do
  said ← placed Whole (version_said script)
  placed (Field field.Version) (as_version said)

-- a number from least to greatest, which has a default
abbrev pub number_in : (least greatest default : ℕ) → Option Data → Result ℕ Reason
number_in least greatest default found = do
  n ← number_or default found
  tested Limit (is_within least greatest n)
  Ok n

-- the number of a field
abbrev pub number_field : FieldName → (least greatest default : ℕ) → Option Data → Result ℕ BadScript
number_field name least greatest default found = placed (Field name) (number_in least greatest default found)

-- the size of a pool, which has a default
abbrev pub pool_size : (default : ℕ) → Option Data → Result ℕ Reason
pool_size default found = number_in 1 65536 default found

-- the numbers that are no pools
abbrev pub protocol_of : Data → Result Protocol BadScript
protocol_of script = do
  mtu ← number_field field.Mtu 256 8192 8192 (get (codes "mtu") script)
  medium ← number_field field.Medium 0 4294967295 65536 (get (codes "medium") script)
  read_limit ← number_field field.Read 1 4294967295 1048576 (get (codes "read") script)
  runt ← number_field field.Runt 0 4294967295 0 (get (codes "runt") script)
  credits ← number_field field.Credits 1 65535 32 (get (codes "credits") script)
  first ← number_field field.First 0 4294967295 0 (get (codes "first") script)
  clock ← number_field field.Clock 0 9223372036854775807 0 (get (codes "clock") script)
  Ok (record { mtu = mtu; medium = medium; read_limit = read_limit; runt = runt; credits = credits; first = first; clock = clock })

-- pools that may be absent are an object with the keys of pools
abbrev pub pools_known : Option Data → Result ⊤ Reason
pools_known None = Ok tt
pools_known (Some pools) = known form.Pools pools

-- the sizes of the pools
abbrev pub pools_of : Option Data → Result PoolSizes BadScript
pools_of pools = do
  placed (Field field.Pools) (pools_known pools)
  tx ← number_field field.PoolTx 1 65536 64 (found_at (codes "tx") pools)
  rx ← number_field field.PoolRx 1 65536 64 (found_at (codes "rx") pools)
  early ← number_field field.PoolEarly 1 65536 64 (found_at (codes "early") pools)
  cq ← number_field field.PoolCq 1 65536 128 (found_at (codes "cq") pools)
  inbox ← number_field field.PoolInbox 1 65536 256 (found_at (codes "inbox") pools)
  Ok (record { tx = tx; rx = rx; early = early; cq = cq; inbox = inbox })

-- an array of least to greatest elements
abbrev pub counted : (least greatest : ℕ) → Data → Result (List Data) Reason
counted least greatest d = do
  ds ← array_of d
  tested Limit (is_within least greatest (length ds))
  Ok ds

-- the ranks as values: 1 to 16
abbrev pub ranks_field : Data → Result (List Data) BadScript
ranks_field script = placed (Field field.Ranks) (present Shape (get (codes "ranks") script) >>= counted 1 16)

-- the choices as values: none where they are absent, and at most a million
abbrev pub choices_in : Option Data → Result (List Data) Reason
choices_in None = Ok []
choices_in (Some d) = counted 0 1000000 d

-- the choices as values
abbrev pub choices_field : Data → Result (List Data) BadScript
choices_field script = placed (Field field.Choices) (choices_in (get (codes "choices") script))
