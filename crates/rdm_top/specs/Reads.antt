-- What reading a whole input gives.
use Rattle.std.specs.Prelude.{◌≡◌, ◌<◌, ◌⊎◌, ℕ, List, Option, ⊤, Result, Ok, Err, length, Vec}
use Rattle.std.specs.declared.alloc.Global.{Global}
use Rattle.std.specs.Io.KnownBytes.{Consumes, IsAtEnd}
use Rattle.rdm_io.specs.Faults.{Rose}
use Rattle.rdm_script.specs.Script.{script_max}
use Rattle.rdm_top.specs.declared.reading.ReadError.{ReadError}
use Rattle.rdm_top.specs.declared.reading.ReadError.TheVariants as error

-- these bytes came, and they are all, or more than a script may have
abbrev pub IsRead : Option (List ℕ) → Option (List ℕ) → List ℕ → Type 0
IsRead left rest bytes = Consumes left rest bytes × (IsAtEnd rest ⊎ (script_max < length bytes))

-- what came
abbrev pub Gathers : Option (List ℕ) → Option (List ℕ) → Result (Vec ℕ Global) ReadError → Type 0
Gathers left rest (Ok v) = IsRead left rest v.items
Gathers left rest (Err e) = ⊤

-- a fault comes only where the count of faults rose, and want of memory leaves it
abbrev pub MayFailErr : ℕ → ℕ → ReadError → Type 0
MayFailErr before now error.Fault = Rose before now
MayFailErr before now error.Memory = now ≡ before

-- the same of a whole read: where all came, no call failed
abbrev pub MayFail : ℕ → ℕ → Result (Vec ℕ Global) ReadError → Type 0
MayFail before now (Ok v) = now ≡ before
MayFail before now (Err e) = MayFailErr before now e
