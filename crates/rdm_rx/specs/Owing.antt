-- What a life owes of one kind, where that is one packet or nothing.
use Rattle.std.specs.Prelude.{◌≡◌, ◌≤◌, List, length, Option, option_map, slice_get}
use Rattle.rdm_num.specs.declared.numbers.Connid.{Connid}
use Rattle.rdm_pkt.specs.declared.Packet.{Packet}
use Rattle.rdm_model.specs.Deeds.{Item, Spelled}
use Rattle.rdm_model.specs.Beginnings.{Own}

-- whatever else a life with that identifier begins with, it owes that packet and no more
abbrev pub IsOnlyPacket : Connid → Option Packet → (Own → List Item) → Type 0
IsOnlyPacket connid packet owed =
    (own : Own)
    → own.life.connid ≡ connid
    → (option_map Spelled packet ≡ slice_get (owed own) 0) × (length (owed own) ≤ 1)
