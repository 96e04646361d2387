-- The script of a generated job.
use Rattle.std.specs.Prelude.{ℕ, ◌%◌, ◌==◌, List, ◌++◌, map, filter, codes, if◌then◌else◌}
use Rattle.serde_json.specs.Data.{Data, array, object, member, no_members}
use Rattle.serde_json.specs.View.{items_of}
use Rattle.serde_json.specs.Written.{compact_text}
use Rattle.rdm_generate.specs.declared.draws.Message.{Message}
use Rattle.rdm_generate.specs.Draws.{messages_of}
use Rattle.rdm_generate.specs.Instructions.{whole}
use Rattle.rdm_generate.specs.Programs.{ports, program_of}

-- the messages to a rank, by rising number
abbrev pub received_by : (rank : ℕ) → List Message → List Message
received_by rank ms = filter (λ (m : Message). m.to == rank) ms

-- the messages from a rank, by rising number
abbrev pub sent_by : (rank : ℕ) → List Message → List Message
sent_by rank ms = filter (λ (m : Message). m.from == rank) ms

-- odd ranks lack a feature
abbrev pub features_of : (rank : ℕ) → ℕ
features_of rank = if rank % 2 == 0 then 25 else 9

-- a rank has its features and its program
abbrev pub rank_json : (seed : ℕ) → List Message → (rank : ℕ) → Data
rank_json seed ms rank =
    object (member (codes "features") (whole (features_of rank))
    (member (codes "ops") (array (items_of (program_of seed rank (received_by rank ms) (sent_by rank ms)))) no_members))

-- the ranks of a job
abbrev pub ranks_json : (seed : ℕ) → List Message → List Data
ranks_json seed ms = map (rank_json seed ms) ports

-- pools in which everything that the job sends has room
abbrev pub pools_json : Data
pools_json =
    object (member (codes "cq") (whole 8192) (member (codes "early") (whole 4096) (member (codes "inbox") (whole 1024) (member (codes "rx") (whole 4096)
    (member (codes "tx") (whole 4096) no_members)))))

-- the limits are low, so that messages of a few thousand bytes are sent in every way; no choices are made
abbrev pub job_with : (ranks : List Data) → Data
job_with ranks =
    object (member (codes "credits") (whole 4) (member (codes "medium") (whole 4096) (member (codes "mtu") (whole 1024) (member (codes "pools") pools_json
    (member (codes "ranks") (array (items_of ranks)) (member (codes "read") (whole 16384) (member (codes "runt") (whole 1024) (member (codes "version") (whole 1) no_members))))))))

-- the job that a seed gives
unfoldable pub job_json : (seed size : ℕ) → Data
job_json seed size = job_with (ranks_json seed (messages_of seed size))

-- the job without a blank, and a line feed
unfoldable pub script_text : (seed size : ℕ) → List ℕ
script_text seed size = compact_text (job_json seed size) ++ codes "\n"
