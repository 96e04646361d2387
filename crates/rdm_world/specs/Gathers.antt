-- The logs of ports.
use Rattle.std.specs.Prelude.{◌≡◌, ◌<◌, ℕ, List, [], ◌∷◌, Option, Some, None, slice_get}
use Rattle.rdm_model.specs.declared.entry.Entry.{Entry}
use Rattle.rdm_port.specs.Views.{PortView}

-- the log of a port, or nothing where there is none
unfoldable pub log_or_none : Option PortView → List Entry
log_or_none None = []
log_or_none (Some p) = p.log

-- the log of the port at that place
abbrev pub logs_of : List PortView → ℕ → List Entry
logs_of ports i = log_or_none (slice_get ports i)

-- the stamp is above that of the newest entry
abbrev pub IsLater : (stamp : ℕ) → List Entry → Type 0
IsLater stamp [] = Unit {0}
IsLater stamp (f ∷ before) = f.stamp.0 < stamp

-- each entry is of that port, and its stamp is above those before it
abbrev pub IsOwnLog : ℕ → List Entry → Type 0
IsOwnLog port [] = Unit {0}
IsOwnLog port (e ∷ before) = IsOwnLog port before × (e.port.0 ≡ port) × IsLater e.stamp.0 before

-- the log of each port is its own
abbrev pub AreOwnLogs : List PortView → Type 0
AreOwnLogs ports = (i : ℕ) → IsOwnLog i (logs_of ports i)
