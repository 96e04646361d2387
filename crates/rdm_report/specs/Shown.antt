-- How a report shows bytes, and numbers that may be missing.
use Rattle.std.specs.Prelude.{ℕ, ◌==◌, nat_le, List, ◌++◌, length, codes, decimal, if◌then◌else◌, Option, Some, None}
use Rattle.hex.specs.Hex.{encode_lower}
use Rattle.sha2.specs.Sha256.{sha256}

-- bytes in hexadecimal, or their digest where they are more than 64
unfoldable pub shown : List ℕ → List ℕ
shown bytes =
    if length bytes == 0 then codes "-"
    else if nat_le (length bytes) 64 then encode_lower bytes
    else codes "sha256:" ++ encode_lower (sha256 bytes)

-- a number, where there is one
abbrev pub number_text : Option ℕ → List ℕ
number_text None = codes "-"
number_text (Some n) = decimal n
