-- What a region is made with.
use Rattle.std.specs.Prelude.{ℕ, zero, suc, ◌+◌, ◌-◌, ◌*◌, ◌/◌, ◌%◌, Bool, ◌&&◌, ◌||◌, ◌==◌, nat_le, nat_lt, List, [], ◌∷◌, length, replicate, codes, if◌then◌else◌, Result, Ok, Err}
use Rattle.std.specs.List.{list_all}
use Rattle.serde_json.specs.Data.{Data}
use Rattle.rdm_model.specs.Jobs.{len_max}
use Rattle.rdm_json.specs.declared.refusal.Reason.{Reason}
use Rattle.rdm_json.specs.declared.refusal.Reason.TheVariants.{Shape, Limit}
use Rattle.rdm_json.specs.declared.value.Form.TheVariants.{RegText, RegHex, RegZero, RegFill}
use Rattle.rdm_json.specs.Results.{◌>>=◌, ◌>>◌, tested}
use Rattle.rdm_json.specs.Values.{keys_known, number_of, number, text, array}

-- a hexadecimal digit, of either case
abbrev pub is_hex_digit : ℕ → Bool
is_hex_digit c = nat_le 48 c && nat_le c 57 || nat_le 65 c && nat_le c 70 || nat_le 97 c && nat_le c 102

-- the value of a hexadecimal digit, and 0 for what is none
abbrev pub hex_value : ℕ → ℕ
hex_value c = if nat_le 48 c && nat_le c 57 then c - 48 else if nat_le 65 c && nat_le c 70 then c - 55 else if nat_le 97 c && nat_le c 102 then c - 87 else 0

-- an even number of hexadecimal digits
abbrev pub is_hex : List ℕ → Bool
is_hex text = list_all is_hex_digit text && (length text % 2 == 0)

-- the bytes that pairs of hexadecimal digits spell
unfoldable pub hex_bytes : List ℕ → List ℕ
hex_bytes [] = []
hex_bytes (high ∷ []) = []
hex_bytes (high ∷ low ∷ rest) = (hex_value high * 16 + hex_value low) ∷ hex_bytes rest

-- the byte of a fill at a place
abbrev pub fill_byte : (seed place : ℕ) → ℕ
fill_byte seed place = (seed + place + place / 251) % 256

-- so many bytes of a fill, from a place on
unfoldable pub fill_bytes : (seed place count : ℕ) → List ℕ
fill_bytes seed place zero = []
fill_bytes seed place (suc count) = fill_byte seed place ∷ fill_bytes seed (place + 1) count

-- the length of a region is in its range
abbrev pub as_length : ℕ → Result ℕ Reason
as_length len = do
  tested Limit (nat_le len len_max)
  Ok len

-- the bytes of a text
abbrev pub text_content : Data → Result (List ℕ) Reason
text_content d = do
  bytes ← text (codes "text") d
  len ← as_length (length bytes)
  Ok bytes

-- the bytes that a text spells in hexadecimal digits
abbrev pub hex_content : Data → Result (List ℕ) Reason
hex_content d = do
  digits ← text (codes "hex") d
  tested Shape (is_hex digits)
  len ← as_length (length digits / 2)
  Ok (hex_bytes digits)

-- so many zeros
abbrev pub zero_content : Data → Result (List ℕ) Reason
zero_content d = do
  count ← number (codes "zero") d
  len ← as_length count
  Ok (replicate len 0)

-- the seed of a fill is a byte
abbrev pub fill_of : (count seed : ℕ) → Result (List ℕ) Reason
fill_of count seed = do
  len ← as_length count
  tested Limit (nat_lt seed 256)
  Ok (fill_bytes seed 0 len)

-- a fill says its length and its seed
abbrev pub fill_parts : List Data → Result (List ℕ) Reason
fill_parts (count ∷ seed ∷ []) = do
  n ← number_of count
  s ← number_of seed
  fill_of n s
fill_parts _ = Err Shape

-- a fill of a length from a seed
abbrev pub fill_content : Data → Result (List ℕ) Reason
fill_content d = array (codes "fill") d >>= fill_parts

-- the content is said in exactly one of four ways
abbrev pub content_of : Data → Result (List ℕ) Reason
content_of d =
    if keys_known RegText d then text_content d
    else if keys_known RegHex d then hex_content d
    else if keys_known RegZero d then zero_content d
    else if keys_known RegFill d then fill_content d
    else Err Shape
