-- The instructions of a generated job, as JSON values.
use Rattle.std.specs.Prelude.{ℕ, List, codes}
use Rattle.serde_json.specs.Data.{Data, number, unsigned, string, array, object, no_items, item, no_members, member}

-- a whole number
abbrev pub whole : ℕ → Data
whole n = number (unsigned n)

-- the word of an instruction
abbrev pub word : (name : List ℕ) → Data
word name = string name

-- a life is opened with an identifier
abbrev pub open_json : (connid : ℕ) → Data
open_json connid = object (member (codes "connid") (whole connid) (member (codes "op") (word (codes "open")) no_members))

-- the life of a port is inserted by its identifier
abbrev pub insert_json : (port connid : ℕ) → Data
insert_json port connid = object (member (codes "connid") (whole connid) (member (codes "op") (word (codes "insert")) (member (codes "port") (whole port) no_members)))

-- a region is filled from a seed
abbrev pub fill_json : (len seed : ℕ) → Data
fill_json len seed = object (member (codes "fill") (array (item (whole len) (item (whole seed) no_items))) (member (codes "op") (word (codes "reg")) no_members))

-- a region is zero
abbrev pub zero_json : (len : ℕ) → Data
zero_json len = object (member (codes "op") (word (codes "reg")) (member (codes "zero") (whole len) no_members))

-- an empty receive from a port
abbrev pub empty_recv_json : (from tag : ℕ) → Data
empty_recv_json from tag =
    object (member (codes "at") (whole 0) (member (codes "from") (whole from) (member (codes "len") (whole 0) (member (codes "op") (word (codes "recv"))
    (member (codes "region") (whole 1) (member (codes "tag") (whole tag) no_members))))))

-- a receive from any port
abbrev pub recv_json : (at len tag : ℕ) → Data
recv_json at len tag =
    object (member (codes "at") (whole at) (member (codes "len") (whole len) (member (codes "op") (word (codes "recv")) (member (codes "region") (whole 1)
    (member (codes "tag") (whole tag) no_members)))))

-- a send to a port
abbrev pub send_json : (to at len tag : ℕ) → Data
send_json to at len tag =
    object (member (codes "at") (whole at) (member (codes "len") (whole len) (member (codes "op") (word (codes "send")) (member (codes "region") (whole 0)
    (member (codes "tag") (whole tag) (member (codes "to") (whole to) no_members))))))

-- so many completions are waited for
abbrev pub wait_json : (count : ℕ) → Data
wait_json count = object (member (codes "count") (whole count) (member (codes "op") (word (codes "wait")) no_members))
