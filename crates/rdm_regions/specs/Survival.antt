-- What is true of regions at all times, and what the holds and leases of others leave as it was.
use Rattle.std.specs.Prelude.{◌≡◌, ℕ, ◌+◌, ◌<◌, ◌≤◌, false, is_none, List, length, slice_get, get_or, Some, None}
use Rattle.std.specs.FinMap as map
use denote.RawPtr.{Ptr}
use Rattle.rdm_mr.specs.Part.{Piece}
use Rattle.rdm_num.specs.declared.parts.Span.{Span}
use Rattle.rdm_regions.specs.Ranges.{range, hold_key, meets, meets_one}
use Rattle.rdm_regions.specs.Registry.{Registry, Area, IsLeaseOf, hold_refusal, lease_refusal, bytes_at, with_region, with_lease, after_lease_back}
use Rattle.rdm_regions.specs.Holds.{with_holds, without_holds}

-- the range lies in its region
abbrev pub LiesIn : Registry → Span → Type 0
LiesIn r x = (area : Area) × (slice_get r.areas x.region.0 ≡ Some area) × (x.at + x.len ≤ length area.cells)

-- y is a part of x
abbrev pub IsWithin : Span → Span → Type 0
IsWithin y x = (y.region.0 ≡ x.region.0) × (x.at ≤ y.at) × (y.at + y.len ≤ x.at + x.len)

-- what is true at all times
pub record IsSound (r : Registry) : Type 0 where
  -- held and leased ranges lie in their regions
  pub held_lie : (send part : ℕ) (x : Span) → map.get r.held (hold_key send part) ≡ Some x → LiesIn r x
  pub leased_lie : (recv : ℕ) (x : Span) → map.get r.leased recv ≡ Some x → LiesIn r x
  -- a leased range shares no place with another lease, nor with a hold
  pub leases_apart : (recv other : ℕ) (x y : Span) → (recv ≡ other → ⊥) → map.get r.leased recv ≡ Some x → map.get r.leased other ≡ Some y → meets x y ≡ false
  pub holds_apart : (send part recv : ℕ) (x y : Span) → map.get r.held (hold_key send part) ≡ Some x → map.get r.leased recv ≡ Some y → meets x y ≡ false
  -- so what lies within a held range is at home, and may be read
  pub held_is_read : (send part : ℕ) (x y : Span) → map.get r.held (hold_key send part) ≡ Some x → IsWithin y x → hold_refusal r y ≡ None
  -- a place is away exactly where a lease has it
  pub away : (region place : ℕ) (area : Area) → slice_get r.areas region ≡ Some area → place < length area.cells → is_none (get_or area.cells place None) ≡ meets_one (range region place 1) r.leased

-- each range that the send holds is held still, and its bytes are the same
abbrev pub HoldStays : Registry → Registry → ℕ → Type 0
HoldStays before after send = (part : ℕ) (x : Span) → map.get before.held (hold_key send part) ≡ Some x → (map.get after.held (hold_key send part) ≡ Some x) × (bytes_at after x ≡ bytes_at before x)

-- the part of the receive's lease is still that
abbrev pub LeaseStays : Registry → Registry → ℕ → Type 0
LeaseStays before after recv = (part : Piece) → IsLeaseOf before recv part → IsLeaseOf after recv part

-- each hold and each lease stays
abbrev pub AllStay : Registry → Registry → Type 0
AllStay before after = ((send : ℕ) → HoldStays before after send) × ((recv : ℕ) → LeaseStays before after recv)

-- where a block is registered
abbrev pub StayRegistered : Type 0
StayRegistered = (r : Registry) (block : Ptr) (bytes : List ℕ) → IsSound r → AllStay r (with_region r block bytes)

-- where a send comes to hold ranges for parts for which it held none
abbrev pub StayHeld : Type 0
StayHeld = (r : Registry) (send : ℕ) (xs : List Span) → ((part : ℕ) → part < length xs → map.get r.held (hold_key send part) ≡ None) → AllStay r (with_holds r send xs)

-- where another send drops what it holds
abbrev pub StayDropped : Type 0
StayDropped = (r : Registry) (send k : ℕ) → ((other : ℕ) → (other ≡ send → ⊥) → HoldStays r (without_holds r send k) other) × ((recv : ℕ) → LeaseStays r (without_holds r send k) recv)

-- where a range goes out for another receive
abbrev pub StayLeased : Type 0
StayLeased = (r : Registry) (recv : ℕ) (x : Span) → IsSound r → map.get r.leased recv ≡ None → lease_refusal r x ≡ None → AllStay r (with_lease r recv x)

-- where the part of another receive comes back
abbrev pub StayReturned : Type 0
StayReturned =
    (r : Registry) (recv : ℕ) (part : Piece) → IsSound r → IsLeaseOf r recv part → ((send : ℕ) → HoldStays r (after_lease_back r recv part) send) × ((other : ℕ) → (other ≡ recv → ⊥) → LeaseStays r (after_lease_back r recv part) other)

-- where a range goes out for a receive and comes back with the bytes that it had, all is as it was
abbrev pub BackUndoesLease : Type 0
BackUndoesLease =
    (r : Registry) (recv : ℕ) (x : Span) (part : Piece) → IsSound r → map.get r.leased recv ≡ None → lease_refusal r x ≡ None → part.bytes ≡ bytes_at r x → after_lease_back (with_lease r recv x) recv part ≡ r
