-- What a JSON value says at a key or a place.
use Rattle.std.specs.Prelude.{ℕ, ◌^◌, Bool, true, false, ◌&&◌, ◌||◌, bytes_eq, nat_lt, ⊤, List, [], ◌∷◌, codes, Option, Some, None, option_map, option_and_then, Result, Ok}
use Rattle.std.specs.List.{list_all}
use Rattle.serde_json.specs.Data.{Data, Items, no_items, item, Members, no_members, member}
use Rattle.serde_json.specs.Find.{get, as_bool, as_number, as_u64, as_object, as_str, as_array}
use Rattle.rdm_json.specs.declared.refusal.Reason.{Reason}
use Rattle.rdm_json.specs.declared.refusal.Reason.TheVariants.{Shape}
use Rattle.rdm_json.specs.declared.value.Form.{Form}
use Rattle.rdm_json.specs.declared.value.Form.TheVariants.{Script, Pools, Rank, RankWithPools, OwnPools, Open, Insert, RegText, RegHex, RegZero, RegFill, Send, SendOfParts, Recv, Cancel, Note, Await, Wait, Close}
use Rattle.rdm_json.specs.Results.{◌>>=◌, ◌>>◌, tested, present}

-- a whole number below 2^64, written without sign, point and exponent
abbrev pub number_of : Data → Result ℕ Reason
number_of d = do
  n ← present Shape (option_and_then as_u64 (as_number d))
  tested Shape (nat_lt n (2 ^ 64))
  Ok n

-- each one is a byte
abbrev pub are_bytes : List ℕ → Bool
are_bytes bytes = list_all (λ b. nat_lt b 256) bytes

-- a string, as the bytes of its text
abbrev pub text_of : Data → Result (List ℕ) Reason
text_of d = do
  text ← present Shape (as_str d)
  tested Shape (are_bytes text)
  Ok text

-- the elements of an array, in order
abbrev pub list_of : Items → List Data
list_of no_items = []
list_of (item d ds) = d ∷ list_of ds

-- an array, as its elements
abbrev pub array_of : Data → Result (List Data) Reason
array_of d = present Shape (option_map list_of (as_array d))

-- the value at a key, which has to be there
abbrev pub value : (key : List ℕ) → Data → Result Data Reason
value key d = present Shape (get key d)

-- the number at a key
abbrev pub number : (key : List ℕ) → Data → Result ℕ Reason
number key d = value key d >>= number_of

-- the text at a key
abbrev pub text : (key : List ℕ) → Data → Result (List ℕ) Reason
text key d = value key d >>= text_of

-- the array at a key
abbrev pub array : (key : List ℕ) → Data → Result (List Data) Reason
array key d = value key d >>= array_of

-- a number that may be absent
abbrev pub number_if_there : Option Data → Result (Option ℕ) Reason
number_if_there None = Ok None
number_if_there (Some d) = number_of d >>= λ n. Ok (Some n)

-- the number at a key that may be absent
abbrev pub optional : (key : List ℕ) → Data → Result (Option ℕ) Reason
optional key d = number_if_there (get key d)

-- a number that has this value where it is absent
abbrev pub number_or : (default : ℕ) → Option Data → Result ℕ Reason
number_or default None = Ok default
number_or default (Some d) = number_of d

-- a truth value that is false where it is absent
abbrev pub set_if_there : Option Data → Result Bool Reason
set_if_there None = Ok false
set_if_there (Some d) = present Shape (as_bool d)

-- whether a key that may be absent is there and true
abbrev pub is_set : (key : List ℕ) → Data → Result Bool Reason
is_set key d = set_if_there (get key d)

-- the value at a key of an object that may be absent
abbrev pub found_at : (key : List ℕ) → Option Data → Option Data
found_at key found = option_and_then (get key) found

-- the keys that an object of a form may have
abbrev pub has_key : Form → List ℕ → Bool
has_key Script k =
    bytes_eq k (codes "version") || bytes_eq k (codes "mtu") || bytes_eq k (codes "medium") || bytes_eq k (codes "read") || bytes_eq k (codes "runt")
    || bytes_eq k (codes "credits") || bytes_eq k (codes "first") || bytes_eq k (codes "clock") || bytes_eq k (codes "pools") || bytes_eq k (codes "ranks")
    || bytes_eq k (codes "choices")
has_key Pools k = bytes_eq k (codes "tx") || bytes_eq k (codes "rx") || bytes_eq k (codes "early") || bytes_eq k (codes "cq") || bytes_eq k (codes "inbox")
has_key Rank k = bytes_eq k (codes "ops") || bytes_eq k (codes "features")
has_key RankWithPools k = bytes_eq k (codes "ops") || bytes_eq k (codes "features") || bytes_eq k (codes "pools")
has_key OwnPools k = bytes_eq k (codes "tx") || bytes_eq k (codes "rx") || bytes_eq k (codes "early") || bytes_eq k (codes "cq")
has_key Open k = bytes_eq k (codes "op") || bytes_eq k (codes "connid")
has_key Insert k = bytes_eq k (codes "op") || bytes_eq k (codes "port") || bytes_eq k (codes "connid")
has_key RegText k = bytes_eq k (codes "op") || bytes_eq k (codes "text")
has_key RegHex k = bytes_eq k (codes "op") || bytes_eq k (codes "hex")
has_key RegZero k = bytes_eq k (codes "op") || bytes_eq k (codes "zero")
has_key RegFill k = bytes_eq k (codes "op") || bytes_eq k (codes "fill")
has_key Send k =
    bytes_eq k (codes "op") || bytes_eq k (codes "to") || bytes_eq k (codes "region") || bytes_eq k (codes "at") || bytes_eq k (codes "len")
    || bytes_eq k (codes "tag") || bytes_eq k (codes "data") || bytes_eq k (codes "confirm")
has_key SendOfParts k =
    bytes_eq k (codes "op") || bytes_eq k (codes "to") || bytes_eq k (codes "parts") || bytes_eq k (codes "tag") || bytes_eq k (codes "data")
    || bytes_eq k (codes "confirm")
has_key Recv k =
    bytes_eq k (codes "op") || bytes_eq k (codes "from") || bytes_eq k (codes "region") || bytes_eq k (codes "at") || bytes_eq k (codes "len")
    || bytes_eq k (codes "tag") || bytes_eq k (codes "ignore")
has_key Cancel k = bytes_eq k (codes "op") || bytes_eq k (codes "recv")
has_key Note k = bytes_eq k (codes "op") || bytes_eq k (codes "to") || bytes_eq k (codes "what")
has_key Await k = bytes_eq k (codes "op") || bytes_eq k (codes "from") || bytes_eq k (codes "what")
has_key Wait k = bytes_eq k (codes "op") || bytes_eq k (codes "count")
has_key Close k = bytes_eq k (codes "op")

-- each key is one of the form
abbrev pub members_known : Form → Members → Bool
members_known form no_members = true
members_known form (member k d ms) = has_key form k && members_known form ms

-- members, all of whose keys are of the form
abbrev pub are_known : Form → Option Members → Bool
are_known form None = false
are_known form (Some ms) = members_known form ms

-- an object, all of whose keys are of the form
abbrev pub keys_known : Form → Data → Bool
keys_known form d = are_known form (as_object d)

-- the value has to be such an object
abbrev pub known : Form → Data → Result ⊤ Reason
known form d = tested Shape (keys_known form d)
