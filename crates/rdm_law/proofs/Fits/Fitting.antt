-- What fits the wire: packets with numbers in their ranges, and bytes that are bytes.
use Rattle.std.proofs.Common.{◌≡◌, ℕ, true, nat_lt, List, [], ◌∷◌, Option, Some, None, refl}
use Rattle.std.specs.List.{list_all}
use Rattle.rdm_pkt.specs.declared.Packet.{Packet}
use Rattle.rdm_pkt.specs.Reading.{packet_in}
use Rattle.rdm_pkt.specs.Grammar.{fits}
use Rattle.rdm_pkt.proofs.ReadRtm.{read_is_spelled}
use Rattle.rdm_wire.specs.declared.Body.{Body}
use Rattle.rdm_wire.specs.declared.Body.TheVariants.{Note, Between}
use Rattle.rdm_wire.specs.declared.Load.{Load}
use Rattle.rdm_wire.specs.declared.Load.TheVariants.{Packet as PacketLoad, Ask, Given}
use Rattle.rdm_model.specs.declared.entry.Entry.{Entry}
use Rattle.rdm_model.specs.declared.entry.Act.{Act}
use Rattle.rdm_model.specs.declared.entry.Act.TheVariants.{Next, Push, Handle, Poll}
use Rattle.rdm_model.specs.Deeds.{Item, Spelled, Asks, Gives, Garbled, packet_item, item_of}
use Rattle.rdm_model.specs.Going.{Bears}
use Rattle.rdm_model.specs.Worlds.{load_of}

-- each number is one of a byte
abbrev pub AreBytes : List ℕ → Type 0
AreBytes bytes = list_all (λ b. nat_lt b 256) bytes ≡ true

-- a packet meets its conditions, and read bytes are bytes
abbrev pub ItemFits : Item → Type 0
ItemFits (Spelled p) = fits p ≡ true
ItemFits (Asks a) = Unit {0}
ItemFits (Gives g) = AreBytes g.bytes
ItemFits Garbled = Unit {0}

-- it fits, and is something
abbrev pub CanGo : Item → Type 0
CanGo (Spelled p) = fits p ≡ true
CanGo (Asks a) = Unit {0}
CanGo (Gives g) = AreBytes g.bytes
CanGo Garbled = ⊥

-- read bytes are bytes
abbrev pub LoadFits : Load → Type 0
LoadFits (PacketLoad bytes) = Unit {0}
LoadFits (Ask a) = Unit {0}
LoadFits (Given g) = AreBytes g.bytes

-- the same of what a datagram has in it
abbrev pub BodyFits : Body → Type 0
BodyFits (Note note) = Unit {0}
BodyFits (Between from to load) = LoadFits load

-- the same of a datagram that an act handles
abbrev pub HandledFits : Act → Type 0
HandledFits (Handle d answer) = BodyFits d.body
HandledFits (Next index op answer) = Unit {0}
HandledFits (Push d) = Unit {0}
HandledFits (Poll c) = Unit {0}

-- the same of each datagram that a log handled
abbrev pub AllHandledFit : List Entry → Type 0
AllHandledFit [] = Unit {0}
AllHandledFit (e ∷ before) = AllHandledFit before × HandledFits e.act

-- what bytes are read as fits
packet_item_fits : (bytes : List ℕ) (o : Option Packet) → packet_in bytes ≡ o → ItemFits (packet_item o)
unfolding packet_item
packet_item_fits bytes None is = tt
packet_item_fits bytes (Some p) is = (read_is_spelled bytes p is).0

-- what a load is read as fits
pub item_fits : (load : Load) → LoadFits load → ItemFits (item_of load)
unfolding item_of
item_fits (PacketLoad bytes) h = packet_item_fits bytes (packet_in bytes) refl
item_fits (Ask a) h = tt
item_fits (Given g) h = h

-- what can go fits as a load
pub load_fits : (item : Item) → CanGo item → LoadFits (load_of item)
unfolding load_of
load_fits (Spelled p) h = tt
load_fits (Asks a) h = tt
load_fits (Gives g) h = h
load_fits Garbled h = tt

-- what can go is borne by its load
pub load_bears : (item : Item) → CanGo item → Bears item (load_of item)
unfolding load_of
load_bears (Spelled p) h = (h, refl)
load_bears (Asks a) h = refl
load_bears (Gives g) h = refl
load_bears Garbled h = elim h [ ]
