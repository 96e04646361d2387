-- What is printed of what is wrong with a script, and of where.
use Rattle.std.specs.Prelude.{ℕ, List, ◌++◌, codes, decimal}
use Rattle.rdm_json.specs.declared.place.FieldName.{FieldName}
use Rattle.rdm_json.specs.declared.place.FieldName.TheVariants as field
use Rattle.rdm_json.specs.declared.place.Place.{Place}
use Rattle.rdm_json.specs.declared.place.Place.TheVariants as place
use Rattle.rdm_json.specs.declared.refusal.BadScript.{BadScript}
use Rattle.rdm_json.specs.declared.refusal.Reason.{Reason}
use Rattle.rdm_json.specs.declared.refusal.Reason.TheVariants as reason

-- a reason
abbrev pub reason_word : Reason → List ℕ
reason_word reason.TooLong = codes "TooLong"
reason_word reason.NotJson = codes "NotJson"
reason_word reason.Shape = codes "Shape"
reason_word reason.Version = codes "Version"
reason_word reason.Limit = codes "Limit"
reason_word reason.NoRank = codes "NoRank"
reason_word reason.NoLife = codes "NoLife"
reason_word reason.OpenTwice = codes "OpenTwice"
reason_word reason.RepeatConnid = codes "RepeatConnid"
reason_word reason.TooBig = codes "TooBig"
reason_word reason.Frame = codes "Frame"
reason_word reason.RankTwice = codes "RankTwice"
reason_word reason.NoComm = codes "NoComm"
reason_word reason.Unbuilt = codes "Unbuilt"

-- a key of the script, or of its pools
abbrev pub field_word : FieldName → List ℕ
field_word field.Version = codes "version"
field_word field.Mtu = codes "mtu"
field_word field.Medium = codes "medium"
field_word field.Read = codes "read"
field_word field.Runt = codes "runt"
field_word field.Credits = codes "credits"
field_word field.First = codes "first"
field_word field.Clock = codes "clock"
field_word field.Pools = codes "pools"
field_word field.PoolTx = codes "pools.tx"
field_word field.PoolRx = codes "pools.rx"
field_word field.PoolEarly = codes "pools.early"
field_word field.PoolCq = codes "pools.cq"
field_word field.PoolInbox = codes "pools.inbox"
field_word field.Ranks = codes "ranks"
field_word field.Choices = codes "choices"

-- a place
abbrev pub place_text : Place → List ℕ
place_text place.Whole = codes "whole"
place_text (place.Field name) = codes "field " ++ field_word name
place_text (place.Rank rank) = codes "rank " ++ decimal rank
place_text (place.Op rank index) = codes "op " ++ decimal rank ++ codes " " ++ decimal index
place_text (place.Choice index) = codes "choice " ++ decimal index
place_text (place.Comm index) = codes "comm " ++ decimal index
place_text (place.Call index) = codes "call " ++ decimal index

-- the first thing that is wrong, and its place
abbrev pub bad_text : BadScript → List ℕ
bad_text bad = reason_word bad.why ++ codes " at " ++ place_text bad.place
