-- The bytes of regions, and of what is out with live receives.
use Rattle.std.specs.Prelude.{ℕ, ◌+◌, ◌-◌, Bool, ◌&&◌, ◌==◌, nat_lt, nat_le, if◌then◌else◌, List, map, length, flat_map, find, Option, None, option_map, unwrap_or, slice_get}
use Rattle.rdm_lists.specs.Lists.{below, or_else}
use Rattle.rdm_num.specs.declared.parts.Span.{Span}
use Rattle.rdm_num.specs.declared.request.RecvReq.{RecvReq}
use Rattle.rdm_life.specs.Kept.{Kept, LiveReceive}

-- the place lies in the range of a receive
unfoldable pub is_place_of : RecvReq → (region place : ℕ) → Bool
is_place_of req region place = (req.region.0 == region) && nat_le req.at place && nat_lt place (req.at + req.len)

-- one more region
abbrev pub after_reg : List ℕ → Kept → Kept
after_reg content v =
    record v {
      region_count = v.region_count + 1;
      region_size = λ region. if region == v.region_count then length content else v.region_size region;
      home = λ region place. if region == v.region_count then slice_get content place else v.home region place;
    }

-- the byte at a place that is not out
abbrev pub byte_home : Kept → (region place : ℕ) → ℕ
byte_home v region place = unwrap_or (v.home region place) 0

-- the bytes of ranges, one after another
unfoldable pub bytes_home : Kept → List Span → List ℕ
bytes_home v parts = flat_map (λ (s : Span). map (λ k. byte_home v s.region.0 (s.at + k)) (below s.len)) parts

-- the bytes of a receive's range go out with it
unfoldable pub part_of : Kept → RecvReq → ℕ → ℕ
part_of v req k = if nat_lt k req.len then byte_home v req.region.0 (req.at + k) else 0

-- no byte of the range is at home
unfoldable pub without_range : RecvReq → ((region place : ℕ) → Option ℕ) → (region place : ℕ) → Option ℕ
without_range req home region place = if is_place_of req region place then None else home region place

-- the byte at a place that comes home with one of these receives
unfoldable pub byte_back : List LiveReceive → (region place : ℕ) → Option ℕ
byte_back rs region place = option_map (λ (r : LiveReceive). r.part (place - r.receive.req.at)) (find (λ (r : LiveReceive). is_place_of r.receive.req region place) rs)

-- the ranges of these receives are at home again
unfoldable pub with_back : List LiveReceive → ((region place : ℕ) → Option ℕ) → (region place : ℕ) → Option ℕ
with_back rs home region place = or_else (byte_back rs region place) (home region place)
