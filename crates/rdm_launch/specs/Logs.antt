-- The datagrams of a log.
use Rattle.std.specs.Prelude.{ℕ, ◌==◌, if◌then◌else◌, List, [], ◌∷◌, ◌++◌, Option, Some, None, slice_get}
use Rattle.rdm_wire.specs.declared.Datagram.{Datagram}
use Rattle.rdm_model.specs.declared.entry.Entry.{Entry}
use Rattle.rdm_model.specs.declared.entry.Act.{Act}
use Rattle.rdm_model.specs.declared.entry.Act.TheVariants.{Next, Push, Handle, Poll}
use Rattle.rdm_port.specs.Views.{PortView}

-- the datagram that an act pushed to that port
unfoldable pub pushed_by : (to : ℕ) → Act → List Datagram
pushed_by to (Push d) = if to == d.dst.0 then d ∷ [] else []
pushed_by to (Next index op answer) = []
pushed_by to (Handle d answer) = []
pushed_by to (Poll c) = []

-- the datagrams that a log pushed to that port, in the order of pushing
unfoldable pub pushed_to : (to : ℕ) → List Entry → List Datagram
pushed_to to [] = []
pushed_to to (e ∷ before) = pushed_to to before ++ pushed_by to e.act

-- the datagram that an act handled
unfoldable pub handled_by : Act → List Datagram
handled_by (Handle d answer) = d ∷ []
handled_by (Next index op answer) = []
handled_by (Push d) = []
handled_by (Poll c) = []

-- the datagrams that a log handled, the newest first
unfoldable pub handled_in : List Entry → List Datagram
handled_in [] = []
handled_in (e ∷ before) = handled_by e.act ++ handled_in before

-- the log of a port, or nothing where there is none
unfoldable pub log_or_none : Option PortView → List Entry
log_or_none None = []
log_or_none (Some p) = p.log

-- the log of the port at that place
abbrev pub logs_of : List PortView → ℕ → List Entry
logs_of ports i = log_or_none (slice_get ports i)
