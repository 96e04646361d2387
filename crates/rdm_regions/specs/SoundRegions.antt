-- What is true of the fields of `Regions`.
use Rattle.std.specs.Prelude.{map as each}
use Rattle.std.specs.FinMap.{from_entries}
use Rattle.rdm_regions.specs.declared.regions.Regions.TheInside.{Inside}
use Rattle.rdm_regions.specs.Registry.{Registry}
use Rattle.rdm_regions.specs.Tallies.{area_of, Keeps}

-- what a clause sees of the fields
abbrev pub seen : Inside → Registry
seen i = record { areas = each area_of i.regions.items; held = from_entries i.held.entries; leased = from_entries i.leased.entries }

abbrev pub IsKept : Inside → Type 0
IsKept i = Keeps i.regions.items i.held.entries i.leased.entries
