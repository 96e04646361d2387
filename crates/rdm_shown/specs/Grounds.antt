-- That registered regions are those of an endpoint's record, leased to its live receives and held by its live sends.
use Rattle.std.specs.Prelude.{◌≡◌, ℕ, List, length, find, get_or, Option, Some, None, option_map, slice_get}
use Rattle.std.specs.FinMap as map
use Rattle.rdm_lists.specs.Lists.{Member}
use Rattle.rdm_num.specs.declared.parts.Span.{Span}
use Rattle.rdm_num.specs.declared.request.RecvReq.{RecvReq}
use Rattle.rdm_regions.specs.Ranges.{range, hold_key}
use Rattle.rdm_regions.specs.Registry.{Registry, cells_at}
use Rattle.rdm_life.specs.Kept.{Kept, LiveSend, LiveReceive, is_send, is_receive}

-- there are as many regions, each is as long, and at each place that is at home stands the same byte
pub record ShowsRegions (r : Registry) (count : ℕ) (size : (region : ℕ) → ℕ) (home : (region place : ℕ) → Option ℕ) : Type 0 where
  pub count_is : count ≡ length r.areas
  pub size_is : (region : ℕ) → size region ≡ length (cells_at region r.areas)
  pub home_is : (region place : ℕ) → home region place ≡ get_or (cells_at region r.areas) place None

-- the range of a request
abbrev pub range_of : RecvReq → Span
range_of req = range req.region.0 req.at req.len

-- the range of a live receive
abbrev pub range_out : LiveReceive → Span
range_out r = range_of r.receive.req

-- each live receive has its range out, and no other range is out
abbrev pub ShowsLeases : Registry → List LiveReceive → Type 0
ShowsLeases r receives = (recv : ℕ) → map.get r.leased recv ≡ option_map range_out (find (is_receive recv) receives)

-- the range at that place of a send's ranges, if there is a send
unfoldable pub part_of : Option LiveSend → (part : ℕ) → Option Span
part_of None part = None
part_of (Some s) part = slice_get s.sent.req.parts part

-- each live send holds its ranges, and no other range is held
abbrev pub ShowsHolds : Registry → List LiveSend → Type 0
ShowsHolds r sends = (send part : ℕ) → map.get r.held (hold_key send part) ≡ part_of (find (is_send send) sends) part

-- the regions are the record's
pub record IsGround (r : Registry) (v : Kept) : Type 0 where
  pub regions : ShowsRegions r v.region_count v.region_size v.home
  pub leases : ShowsLeases r v.receives
  pub holds : ShowsHolds r v.sends

-- each live receive is found by its number, and each live send
pub record AreFound (v : Kept) : Type 0 where
  pub receives : (l : LiveReceive) → Member l v.receives → find (is_receive l.receive.number) v.receives ≡ Some l
  pub sends : (s : LiveSend) → Member s v.sends → find (is_send s.sent.number) v.sends ≡ Some s
