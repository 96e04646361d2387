-- What a push of a port does.
use Rattle.std.specs.Prelude.{◌≡◌, ℕ, Bool, IsTrue, IsFalse, List, [], ◌∷◌, Option, Some, None, option_map}
use Rattle.rdm_wire.specs.declared.Datagram.{Datagram}
use Rattle.rdm_wire.specs.Counts.{Rose}
use Rattle.rdm_wire.specs.Flights.{InFlight, Pushes, Moves, IsFullAt, HasRoomAt}
use Rattle.rdm_model.specs.declared.entry.Entry.{Entry}
use Rattle.rdm_model.specs.declared.job.Job.{Job}
use Rattle.rdm_model.specs.declared.entry.Act.TheVariants as Act
use Rattle.rdm_model.specs.declared.answer.Push.{Push}
use Rattle.rdm_model.specs.declared.answer.Push.TheVariants.{Pushed, Idle, Full, Worn, Memory}
use Rattle.rdm_model.specs.Going.{going}
use Rattle.rdm_model.specs.Settled.{is_worn}
use Rattle.rdm_model.specs.Worlds.{World, new_world, datagram_of}
use Rattle.rdm_port.specs.Views.{PortView, IsPortOf, scene_at, logged}

-- a world in which each port has that log
abbrev pub lone_world : PortView → World
lone_world v = record new_world { logs = λ port. v.log }

-- the next datagram of the port
unfoldable pub out_of : Job → PortView → Option Datagram
out_of job v = option_map (datagram_of job (lone_world v) v.number) (going (scene_at job v))

-- the port is as the answer to a push of the next datagram says; the datagram went to the wire where it was pushed
abbrev pub PushedAs : Job → PortView → PortView → Option Datagram → Push → Type 0
PushedAs job old new (Some d) (Pushed number) = IsFalse (is_worn job old.log) × (number ≡ d.number) × (new ≡ logged job old (Act.Push d))
PushedAs job old new (Some d) (Full port) = IsFalse (is_worn job old.log) × (port ≡ d.dst) × (new ≡ old)
PushedAs job old new (Some d) Worn = IsTrue (is_worn job old.log) × (new ≡ old)
PushedAs job old new None Idle = new ≡ old
PushedAs job old new _ Memory = new ≡ old
PushedAs job old new _ _ = ⊥

-- what a push answers and does
abbrev pub DoesPush : PortView → PortView → Push → Type 0
DoesPush old new answer = (job : Job) → IsPortOf job old → PushedAs job old new (out_of job old) answer

-- the newest entry is a push of that datagram
abbrev pub IsPushOf : List Entry → Datagram → Type 0
IsPushOf [] d = ⊥
IsPushOf (e ∷ before) d = e.act ≡ Act.Push d

-- what the wire did at an answer to a push, where the log then is this
abbrev pub PushesOn : (in_order : Bool) → (log : List Entry) → Push → (before after : Option InFlight) → Type 0
PushesOn in_order log (Pushed number) before after = (d : Datagram) × IsPushOf log d × HasRoomAt d.dst.0 before × Moves (Pushes in_order d) before after
PushesOn in_order log (Full port) before after = IsFullAt port.0 before × (after ≡ before)
PushesOn in_order log answer before after = after ≡ before

-- a refusal comes only where the wire's count of refusals rose, and any other answer leaves the count
abbrev pub FullRose : (before after : ℕ) → Push → Type 0
FullRose before after (Full port) = Rose before after
FullRose before after _ = after ≡ before

-- a wire has the ports that it had, and serves those that it served
abbrev pub IsKeptWire : {W : Type 0} → (W → ℕ) → (W → ℕ → Bool) → W → W → Type 0
IsKeptWire ports serves old new = (ports new ≡ ports old) × (serves new ≡ serves old)
