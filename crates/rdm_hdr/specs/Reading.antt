-- Which headers stand at the front of bytes: those with the values that stand at their fields' places, if they are spelled so.
use Rattle.std.specs.Prelude.{ℕ, Bool, nat_le, List, length, take, Option, bytes_eq}
use Rattle.std.specs.Bool.{then_some}
use Rattle.rdm_hdr.specs.declared.Base.{Base}
use Rattle.rdm_hdr.specs.declared.Opt.{Opt}
use Rattle.rdm_hdr.specs.Fields.{number_at, fields_bytes}
use Rattle.rdm_hdr.specs.Headers.{opt_fields, opt_size, opt_at}

-- the bytes begin with that front
unfoldable pub begins : (front bytes : List ℕ) → Bool
begins front bytes = bytes_eq front (take (length front) bytes)

-- the base header at the front, if there are four bytes
unfoldable pub base_in : List ℕ → Option Base
base_in bytes =
    then_some (nat_le 4 (length bytes)) (record { kind = number_at 0 1 bytes; version = number_at 1 1 bytes; flags = number_at 2 2 bytes })

-- the optional headers that the flags name, and their length, if the bytes begin with them
unfoldable pub opt_in : (flags : ℕ) → List ℕ → Option (Opt × ℕ)
opt_in flags bytes =
    let opt : Opt = opt_at 0 flags bytes in then_some (begins (fields_bytes (opt_fields opt)) bytes) (opt, opt_size opt)
