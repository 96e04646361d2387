-- Holds of several ranges, one for each part of a send.
use Rattle.std.specs.Prelude.{◌≡◌, ℕ, zero, suc, ◌+◌, ◌<◌, Bool, nat_lt, is_none, false, if◌then◌else◌, List, [], ◌∷◌, length, slice_get, Option, None, Some, Result, Ok, Err}
use Rattle.std.specs.List.{list_any}
use Rattle.std.specs.FinMap as map
use Rattle.rdm_num.specs.declared.parts.Span.{Span}
use Rattle.rdm_regions.specs.declared.refused.RegionRefused.{RegionRefused}
use Rattle.rdm_regions.specs.declared.refused.RegionRefused.TheVariants.{NoRegion, Range, Busy, Memory}
use Rattle.rdm_regions.specs.Ranges.{HeldRanges, hold_key, meets_one}
use Rattle.rdm_regions.specs.Registry.{Registry, Area}

-- the send holds no range; it has at most four parts
abbrev pub HoldsNone : Registry → ℕ → Type 0
HoldsNone r send = (part : ℕ) → part < 4 → map.get r.held (hold_key send part) ≡ None

-- the send holds the ranges, from that part on
abbrev pub with_all : HeldRanges → (send part : ℕ) → List Span → HeldRanges
with_all held send part [] = held
with_all held send part (x ∷ xs) = with_all (map.insert held (hold_key send part) x) send (part + 1) xs

abbrev pub with_holds : Registry → (send : ℕ) → List Span → Registry
with_holds r send xs = record r { held = with_all r.held send 0 xs }

-- nothing is held for the first k parts of the send
abbrev pub without_all : HeldRanges → (send k : ℕ) → HeldRanges
without_all held send zero = held
without_all held send (suc k) = without_all (map.remove held (hold_key send k)) send k

abbrev pub without_holds : Registry → (send k : ℕ) → Registry
without_holds r send k = record r { held = without_all r.held send k }

-- the range is of no region
abbrev pub lacks_region : Registry → Span → Bool
lacks_region r x = is_none (slice_get r.areas x.region.0)

-- the range passes the end of the area, if there is one
abbrev pub passes_end_of : Option Area → Span → Bool
passes_end_of None x = false
passes_end_of (Some area) x = nat_lt (length area.cells) (x.at + x.len)

abbrev pub passes_end : Registry → Span → Bool
passes_end r x = passes_end_of (slice_get r.areas x.region.0) x

-- the first in this order that is so
abbrev pub refusal_of : (lacks passes busy : Bool) → Option RegionRefused
refusal_of lacks passes busy = if lacks then Some NoRegion else if passes then Some Range else if busy then Some Busy else None

-- why ranges that a send is to hold together are refused: one is of no region, or else one passes its region's end, or else one overlaps a leased range
abbrev pub parts_refusal : Registry → List Span → Option RegionRefused
parts_refusal r xs = refusal_of (list_any (lacks_region r) xs) (list_any (passes_end r) xs) (list_any (λ x. meets_one x r.leased) xs)

-- where a refusal stands in that order
abbrev pub rank : RegionRefused → ℕ
rank NoRegion = 0
rank Range = 1
rank Busy = 2
rank Memory = 3

-- the first of two refusals in that order
unfoldable pub graver : Option RegionRefused → Option RegionRefused → Option RegionRefused
graver None b = b
graver (Some v) None = Some v
graver (Some v) (Some w) = if nat_lt (rank w) (rank v) then Some w else Some v

-- what a `hold_all` leaves: all of the ranges are held, or none of them
abbrev pub after_hold_all : {A : Type 0} → Registry → (send : ℕ) → List Span → Result A RegionRefused → Registry
after_hold_all r send xs (Ok done) = with_holds r send xs
after_hold_all r send xs (Err why) = r

-- what a `hold_all` holds: each range under its part
abbrev pub EachIsHeld : Type 0
EachIsHeld = (r : Registry) (send : ℕ) (xs : List Span) (part : ℕ) → part < length xs → map.get (with_holds r send xs).held (hold_key send part) ≡ slice_get xs part

-- what a `drop_hold` leaves of the send's holds: none
abbrev pub NoneIsHeld : Type 0
NoneIsHeld = (r : Registry) (send : ℕ) → HoldsNone (without_holds r send 4) send
