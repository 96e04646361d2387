-- What a clause sees of `Regions`, and what its calls answer and leave.
use Rattle.std.specs.Prelude.{◌≡◌, refl, ℕ, zero, suc, ◌+◌, ◌<◌, ◌⊎◌, Bool, ◌||◌, nat_lt, if◌then◌else◌, List, [], ◌∷◌, ◌++◌, length, take, drop, map as each, replicate, slice_get, Option, Some, None, Result, Ok, Err, MatchResult}
use Rattle.std.specs.Coded.{Coded, code_by, coded×, coded_list, coded_option, coded_ℕ}
use Rattle.std.specs.List.{filter_map}
use Rattle.std.specs.FinMap as map
use denote.RawPtr.{Ptr, coded_ptr}
use Rattle.rdm_mr.specs.Part.{Piece, Whole}
use Rattle.rdm_mr.specs.Tiles.{laid}
use Rattle.rdm_num.specs.declared.parts.Span.{Span}
use Rattle.rdm_regions.specs.declared.refused.RegionRefused.{RegionRefused}
use Rattle.rdm_regions.specs.declared.refused.RegionRefused.TheVariants.{NoRegion, Range, Busy, Memory}
use Rattle.rdm_regions.specs.declared.key.HoldKey.{HoldKey}
use Rattle.rdm_regions.specs.Ranges.{HeldRanges, LeasedRanges, range_code, key_code, meets_one}

-- the block of a region, and the byte of each of its places, None for one that is leased
pub record Area : Type 0 where
  pub block : Ptr
  pub cells : List (Option ℕ)

-- it is stored as the pair of its fields
abbrev pub area_code : Coded Area
area_code = code_by (Ptr × List (Option ℕ)) (coded× coded_ptr (coded_list (coded_option coded_ℕ))) (λ a. (a.block, a.cells)) (λ p. record { block = p.0; cells = p.1 }) (λ _. refl)

-- the regions in the order of their numbers, the ranges that sends hold, each under a part of its send, and the one that each receive has out
pub record Registry : Type 0 where
  pub areas : List Area
  pub held : HeldRanges
  pub leased : LeasedRanges

-- it is stored as the tuple of its fields
abbrev pub registry_code : Coded Registry
registry_code =
    code_by (List Area × (HeldRanges × LeasedRanges)) (coded× (coded_list area_code) (coded× (map.code key_code range_code) (map.code coded_ℕ range_code))) (λ r. (r.areas, (r.held, r.leased)))
    (λ t. record { areas = t.0; held = t.1.0; leased = t.1.1 }) (λ _. refl)

-- nothing is registered
abbrev pub nothing : Registry
nothing = record { areas = []; held = map.empty; leased = map.empty }

-- a block with these bytes is registered behind the others
abbrev pub with_region : Registry → Ptr → List ℕ → Registry
with_region r block bytes = record r { areas = r.areas ++ record { block = block; cells = each Some bytes } ∷ [] }

-- the places of a region
abbrev pub cells_at : ℕ → List Area → List (Option ℕ)
cells_at region [] = []
cells_at zero (a ∷ areas) = a.cells
cells_at (suc region) (a ∷ areas) = cells_at region areas

-- the bytes of a range that are at home
abbrev pub bytes_at : Registry → Span → List ℕ
bytes_at r x = filter_map (λ cell. cell) (take x.len (drop x.at (cells_at x.region.0 r.areas)))

-- why a range of a region is refused, if it is; busy says whether it overlaps what it must not
unfoldable pub refusal_in : Option Area → Span → Bool → Option RegionRefused
refusal_in None x busy = Some NoRegion
refusal_in (Some area) x busy = if nat_lt (length area.cells) (x.at + x.len) then Some Range else if busy then Some Busy else None

-- a range that a send is to hold must not overlap a leased one, nor must one that is read
abbrev pub hold_refusal : Registry → Span → Option RegionRefused
hold_refusal r x = refusal_in (slice_get r.areas x.region.0) x (meets_one x r.leased)

-- a range that is to be leased must overlap neither a leased one nor a held one
abbrev pub lease_refusal : Registry → Span → Option RegionRefused
lease_refusal r x = refusal_in (slice_get r.areas x.region.0) x (meets_one x r.leased || meets_one x r.held)

-- an answer is that refusal, or a value with P where there is none, or want of memory
abbrev pub Answers : {A : Type 0} → Option RegionRefused → (A → Type 0) → Result A RegionRefused → Type 0
Answers refusal P result = MatchResult result (λ a. (refusal ≡ None) × P a) (λ why. (why ≡ Memory) ⊎ (refusal ≡ Some why))

-- the range is held under the key
abbrev pub with_hold : Registry → HoldKey → Span → Registry
with_hold r key x = record r { held = map.insert r.held key x }

-- nothing is held under the key
abbrev pub without_hold : Registry → HoldKey → Registry
without_hold r key = record r { held = map.remove r.held key }

-- what a `hold` leaves: only one that is answered by Ok changes anything
abbrev pub after_hold : {A : Type 0} → Registry → HoldKey → Span → Result A RegionRefused → Registry
after_hold r key x (Ok done) = with_hold r key x
after_hold r key x (Err why) = r

-- the areas, with other cells from `at` on in that region
abbrev pub laid_in : ℕ → ℕ → List (Option ℕ) → List Area → List Area
laid_in region at xs [] = []
laid_in zero at xs (a ∷ areas) = record a { cells = laid at xs a.cells } ∷ areas
laid_in (suc region) at xs (a ∷ areas) = a ∷ laid_in region at xs areas

-- the receive has the range out
abbrev pub with_lease : Registry → ℕ → Span → Registry
with_lease r recv x = record r { areas = laid_in x.region.0 x.at (replicate x.len None) r.areas; leased = map.insert r.leased recv x }

-- what a `lease_out` leaves: only one that gives a part changes anything
abbrev pub after_lease : {A : Type 0} → Registry → ℕ → Span → Result A RegionRefused → Registry
after_lease r recv x (Ok part) = with_lease r recv x
after_lease r recv x (Err why) = r

-- the part is that of the range, whatever its bytes; that of an empty range is a block of its own
pub record IsPartOf (r : Registry) (x : Span) (part : Piece) : Type 0 where
  pub len : length part.bytes ≡ x.len
  pub placed : 0 < x.len → (area : Area) → slice_get r.areas x.region.0 ≡ Some area → (part.block ≡ area.block) × (part.whole ≡ length area.cells) × (part.start ≡ x.at)
  pub apart : x.len ≡ 0 → Whole part

-- the part is that of the range, with its bytes
abbrev pub IsLeased : Registry → Span → Piece → Type 0
IsLeased r x part = IsPartOf r x part × (part.bytes ≡ bytes_at r x)

-- the part is that of the receive's lease
abbrev pub IsLeaseOf : Registry → ℕ → Piece → Type 0
IsLeaseOf r recv part = (x : Span) × (map.get r.leased recv ≡ Some x) × IsPartOf r x part

-- the range that a receive had out is at home again, with these bytes
abbrev pub returned : Option Span → Registry → ℕ → List ℕ → Registry
returned None r recv bytes = r
returned (Some x) r recv bytes = record r { areas = laid_in x.region.0 x.at (each Some bytes) r.areas; leased = map.remove r.leased recv }

-- what a `lease_back` leaves
abbrev pub after_lease_back : Registry → ℕ → Piece → Registry
after_lease_back r recv part = returned (map.get r.leased recv) r recv part.bytes
