-- Which logs the built steps of a port reach: its lives one after the other, each with eager deeds, and none closed.
use Rattle.std.specs.Prelude.{◌≡◌, List, [], ◌∷◌, Option, Some, None}
use Rattle.rdm_num.specs.declared.numbers.Connid.{Connid}
use Rattle.rdm_model.specs.declared.job.Job.{Job}
use Rattle.rdm_model.specs.declared.job.Instr.TheVariants.{OpenLife}
use Rattle.rdm_model.specs.Deeds.{Deed, Did, open_life, of_life, item_of}
use Rattle.rdm_model.specs.Beginnings.{Own}
use Rattle.rdm_num.specs.Lives.{life}
use Rattle.rdm_wire.specs.declared.Datagram.{Datagram}
use Rattle.rdm_wire.specs.declared.Body.{Body}
use Rattle.rdm_wire.specs.declared.Body.TheVariants.{Note, Between}
use Rattle.rdm_ep.specs.Eager.{IsEagerDeed, IsEagerItem}
use Rattle.rdm_port.specs.Views.{PortView, scene_at}

-- a deed is built after those before it, where that life is open
abbrev pub IsBuiltDeed : (Connid → Own) → Option Connid → List Deed → Deed → Type 0
IsBuiltDeed own None before (Did (OpenLife connid)) = of_life connid before ≡ []
IsBuiltDeed own None before _ = Unit {0}
IsBuiltDeed own (Some connid) before d = IsEagerDeed (own connid) (of_life connid before) d

-- all deeds of a port are built
abbrev pub AreBuilt : (Connid → Own) → List Deed → Type 0
AreBuilt own [] = Unit {0}
AreBuilt own (d ∷ before) = AreBuilt own before × IsBuiltDeed own (open_life before) before d

-- a note, or what comes to a life and is built after its deeds
abbrev pub IsBuiltBody : Own → List Deed → Datagram → Body → Type 0
IsBuiltBody own log d (Note note) = Unit {0}
IsBuiltBody own log d (Between from to load) = IsEagerItem own log (life d.src from) (item_of load)

-- the datagram is built for the open life of the port
abbrev pub IsBuiltDatagram : Job → PortView → Datagram → Type 0
IsBuiltDatagram job v d = IsBuiltBody (scene_at job v).own (scene_at job v).log d d.body
