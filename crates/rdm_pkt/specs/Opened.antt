-- The headers that each packet has which opens a message, and the one that names the sender of a handshake.
use Rattle.std.specs.Prelude.{ℕ, ◌+◌, Bool, ◌&&◌, ◌==◌, nat_le, if◌then◌else◌, List, length, drop, Option, None, is_some}
use Rattle.std.specs.Bool.{then_some}
use Rattle.rdm_num.specs.declared.numbers.PortNo.{PortNo}
use Rattle.rdm_num.specs.declared.numbers.Connid.{Connid}
use Rattle.rdm_hdr.specs.declared.Opt.{Opt}
use Rattle.rdm_hdr.specs.Fields.{number_at, has_bit, fields_bytes}
use Rattle.rdm_hdr.specs.Headers.{opt_at, opt_fields, opt_size}
use Rattle.rdm_hdr.specs.Reading.{begins}
use Rattle.rdm_pkt.specs.declared.reading.Opening.{Opening}
use Rattle.rdm_pkt.specs.Grammar.{rtm_flags, head_fields, opt_fits}
use Rattle.rdm_pkt.specs.Reading.{confirm_at, sender_by}

-- where the optional headers begin
unfoldable pub opt_place : (size : ℕ) → List ℕ → ℕ
opt_place size bytes = size + (if has_bit 3 (number_at 2 2 bytes) then 8 else 0)

-- the tag that stands after the mandatory header, if the flags say so
unfoldable pub tag_at : (size : ℕ) → List ℕ → Option ℕ
tag_at size bytes = then_some (has_bit 3 (number_at 2 2 bytes)) (number_at size 8 bytes)

-- the optional headers with the values that stand there
unfoldable pub opt_of : (size : ℕ) → List ℕ → Opt
opt_of size bytes = opt_at (opt_place size bytes) (number_at 2 2 bytes) bytes

-- where the optional headers end, and the read list or the data begin
unfoldable pub last_place : (size : ℕ) → List ℕ → ℕ
last_place size bytes = opt_place size bytes + opt_size (opt_of size bytes)

-- the headers are there, and are those of that untagged type or of the tagged one after it
unfoldable pub is_opened : (kind size : ℕ) → List ℕ → Bool
is_opened kind size bytes =
    nat_le (opt_place size bytes) (length bytes)
    && begins (fields_bytes (opt_fields (opt_of size bytes))) (drop (opt_place size bytes) bytes)
    && opt_fits (opt_of size bytes)
    && begins (fields_bytes (head_fields (kind + (if is_some (tag_at size bytes) then 1 else 0)) (rtm_flags (tag_at size bytes) (opt_of size bytes)))) bytes

-- the headers with the values that stand there, if they are those of that type
unfoldable pub opening_in : (kind size : ℕ) → List ℕ → Option Opening
opening_in kind size bytes =
    then_some (is_opened kind size bytes)
    (record { no = record { 0 = number_at 4 4 bytes }; tag = tag_at size bytes; confirm = confirm_at bytes; opt = opt_of size bytes; place = last_place size bytes })

-- whom a raw address names that is all of the bytes
unfoldable pub raw_in : List ℕ → Option (Connid × Option PortNo)
raw_in bytes =
    let opt : Opt = opt_at 0 1 bytes in
    then_some (begins (fields_bytes (opt_fields opt)) bytes && length bytes == opt_size opt) (sender_by opt.raw 0)

-- whom an identifier names that is all of the bytes
unfoldable pub connid_in : List ℕ → Option (Connid × Option PortNo)
connid_in bytes = then_some (length bytes == 4) (sender_by None (number_at 0 4 bytes))

-- whom the last header of a handshake names, which begins at that place: a raw address where the flags say so, else an
-- identifier
unfoldable pub sender_in : (place : ℕ) → List ℕ → Option (Connid × Option PortNo)
sender_in place bytes = if has_bit 0 (number_at 2 2 bytes) then raw_in (drop place bytes) else connid_in (drop place bytes)
