-- What the regions keep of the held and leased ranges.
use Rattle.std.specs.Prelude.{◌≡◌, ℕ, ◌+◌, ◌<◌, ◌≤◌, Bool, false, if◌then◌else◌, cond, List, length, map as each, slice_get, slice_index_or, Option, None, Some, is_none}
use Rattle.std.specs.List.{All, sum_by, list_any}
use Rattle.std.specs.List.Sorted.{IsNonDecreasing, IsStrictlySortedBy}
use Rattle.std.specs.Map.{keys_of, values_of}
use Rattle.std.specs.Ordering.{nat_cmp}
use Rattle.rdm_mr.specs.Tiles.{Tiles, IsWhole}
use Rattle.rdm_num.specs.declared.parts.Span.{Span}
use Rattle.rdm_regions.specs.declared.refused.RegionRefused.{RegionRefused}
use Rattle.rdm_regions.specs.declared.refused.RegionRefused.TheVariants.{Busy}
use Rattle.rdm_regions.specs.declared.key.HoldKey.{HoldKey}
use Rattle.rdm_regions.specs.declared.region.Region.{Region}
use Rattle.rdm_regions.specs.Ranges.{meets, key_cmp}
use Rattle.rdm_regions.specs.Registry.{Area, refusal_in}
use Rattle.rdm_regions.specs.Weights.{at_start, at_end, counts, has}

-- what a clause sees of a region
abbrev pub area_of : Region → Area
area_of r = record { block = r.home.block; cells = r.home.cells }

-- the range lies in its region
abbrev pub Lies : List Region → Span → Type 0
Lies regions x = (x.region.0 < length regions) × ((d : Region) → x.at + x.len ≤ length ((slice_index_or regions x.region.0 d).home.cells))

-- the numbers where the held ranges of the region begin, and where they end
pub record Marks (region : ℕ) (held : List Span) (r : Region) : Type 0 where
  pub starts_rise : IsNonDecreasing r.starts.items
  pub ends_rise : IsNonDecreasing r.ends.items
  pub starts : (f : ℕ → ℕ) → sum_by f r.starts.items ≡ sum_by (at_start region f) held
  pub ends : (f : ℕ → ℕ) → sum_by f r.ends.items ≡ sum_by (at_end region f) held

-- a place is out where one lease has it, and no place is in two leases: the parts at home and those that are out are disjoint and cover the block
pub record Tiled (region : ℕ) (leased : List Span) (home : Tiles) : Type 0 where
  pub start : home.start ≡ 0
  pub whole : home.whole ≡ length home.cells
  pub out : home.out ≡ sum_by (counts region) leased
  pub places : (place : ℕ) → place < length home.cells → sum_by (has region place) leased ≡ cond (is_none (slice_index_or home.cells place None)) 1 0

-- the refusal of a range that overlaps what it must not
abbrev pub busy_if : Bool → Option RegionRefused
busy_if busy = if busy then Some Busy else None

-- the region is that of the range, which lies in it
pub record IsRegionOf (x : Span) (regions : List Region) (r : Region) : Type 0 where
  pub there : x.region.0 < length regions
  pub is : (d : Region) → slice_index_or regions x.region.0 d ≡ r
  pub fits : x.at + x.len ≤ length r.home.cells
  pub refusal : (busy : Bool) → refusal_in (slice_get (each area_of regions) x.region.0) x busy ≡ busy_if busy

-- the range is refused whatever it overlaps
abbrev pub LacksRegion : Span → List Region → RegionRefused → Type 0
LacksRegion x regions why = (busy : Bool) → refusal_in (slice_get (each area_of regions) x.region.0) x busy ≡ Some why

-- none of these ranges shares a place with one of those
abbrev pub Apart : List Span → List Span → Type 0
Apart held leased = All (λ x. list_any (meets x) leased ≡ false) held

-- the entries of the ranges that sends hold and of those that receives have out are in order and lie in the regions, which keep them; no held range shares a place with a leased one
pub record Keeps (regions : List Region) (held : List (HoldKey × Span)) (leased : List (ℕ × Span)) : Type 0 where
  pub held_order : IsStrictlySortedBy key_cmp (keys_of held)
  pub leased_order : IsStrictlySortedBy nat_cmp (keys_of leased)
  pub held_lie : All (Lies regions) (values_of held)
  pub leased_lie : All (Lies regions) (values_of leased)
  pub apart : Apart (values_of held) (values_of leased)
  pub marks : (k : ℕ) (d : Region) → k < length regions → Marks k (values_of held) (slice_index_or regions k d)
  pub tiled : (k : ℕ) (d : Region) → k < length regions → Tiled k (values_of leased) ((slice_index_or regions k d).home)

-- the whole block of the region is at home
abbrev pub MayClose : Region → Type 0
MayClose r = IsWhole r.home.cells × (r.home.start ≡ 0) × (r.home.whole ≡ length r.home.cells)
