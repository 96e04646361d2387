-- What the calls of one region ask for and leave.
use Rattle.std.specs.Prelude.{◌≡◌, ℕ, ◌+◌, ◌-◌, ◌<◌, ◌≤◌, eqb, ltb, cond, List, [], length, take, drop, map, replicate, Option, Some, None, vec_len, vec_capacity}
use Rattle.std.specs.List.{count_by, sum_by, filter_map}
use Rattle.std.specs.List.Sorted.{IsNonDecreasing}
use Rattle.rdm_mr.specs.Part.{Piece, Whole}
use Rattle.rdm_mr.specs.Tiles.{Tiles, laid, AreHome, AreOut}
use Rattle.rdm_num.specs.declared.parts.Span.{Span}
use Rattle.rdm_regions.specs.declared.region.Region.{Region}

-- it is of a block with these bytes, all at home, and nothing is held
pub record IsNew (bytes : List ℕ) (r : Region) : Type 0 where
  pub start : r.home.start ≡ 0
  pub whole : r.home.whole ≡ length bytes
  pub cells : r.home.cells ≡ map Some bytes
  pub out : r.home.out ≡ 0
  pub starts : r.starts.items ≡ []
  pub ends : r.ends.items ≡ []

-- the bytes at home of the len places from `at` on
abbrev pub home_bytes : ℕ → ℕ → List (Option ℕ) → List ℕ
home_bytes at len cells = filter_map (λ cell. cell) (take len (drop at cells))

-- there is room to mark one range more
abbrev pub MayMark : Region → Type 0
MayMark r = (vec_len r.starts < vec_capacity r.starts) × (vec_len r.ends < vec_capacity r.ends)

-- the numbers are the old ones and x, or where none is to go in, the old ones
abbrev pub SumsWith : List ℕ → List ℕ → Span → ℕ → Type 0
SumsWith old new x n = (f : ℕ → ℕ) → sum_by f new ≡ sum_by f old + cond (ltb 0 x.len) (f n) 0

-- r with the marks of the range is s
pub record Marked (x : Span) (r s : Region) : Type 0 where
  pub home : s.home ≡ r.home
  pub starts_rise : IsNonDecreasing s.starts.items
  pub ends_rise : IsNonDecreasing s.ends.items
  pub starts : SumsWith r.starts.items s.starts.items x x.at
  pub ends : SumsWith r.ends.items s.ends.items x (x.at + x.len)

-- the marks of the range are there
abbrev pub MayUnmark : Span → Region → Type 0
MayUnmark x r = 0 < x.len → (0 < count_by (eqb x.at) r.starts.items) × (0 < count_by (eqb (x.at + x.len)) r.ends.items)

-- s with the marks of the range is r
abbrev pub Unmarked : Span → Region → Region → Type 0
Unmarked x r s = (s.home ≡ r.home) × IsNonDecreasing s.starts.items × IsNonDecreasing s.ends.items × SumsWith s.starts.items r.starts.items x x.at × SumsWith s.ends.items r.ends.items x (x.at + x.len)

-- the range is at home
abbrev pub MayLift : Span → Region → Type 0
MayLift x r = (x.at + x.len ≤ length r.home.cells) × AreHome x.at x.len r.home.cells × (r.home.start ≡ 0)

-- one, unless the range is empty
abbrev pub one_unless_empty : Span → ℕ
one_unless_empty x = cond (ltb 0 x.len) 1 0

-- the range is out
pub record IsLifted (x : Span) (r s : Region) : Type 0 where
  pub home : s.home ≡ record r.home { cells = laid x.at (replicate x.len None) r.home.cells; out = r.home.out + one_unless_empty x }
  pub starts : s.starts ≡ r.starts
  pub ends : s.ends ≡ r.ends

-- where the part of a range lies; that of an empty range is a block of its own
pub record IsPlaced (x : Span) (home : Tiles) (part : Piece) : Type 0 where
  pub len : length part.bytes ≡ x.len
  pub placed : 0 < x.len → (part.block ≡ home.block) × (part.whole ≡ home.whole) × (part.start ≡ x.at)
  pub apart : x.len ≡ 0 → Whole part

-- the part has the range's bytes
abbrev pub IsLiftedPart : Span → Region → Piece → Type 0
IsLiftedPart x r part = IsPlaced x r.home part × (part.bytes ≡ home_bytes x.at x.len r.home.cells)

-- the part is that of the range, which is out
pub record IsOut (x : Span) (r : Region) (part : Piece) : Type 0 where
  pub start : r.home.start ≡ 0
  pub placed : IsPlaced x r.home part
  pub counted : 0 < x.len → 0 < r.home.out
  pub cells : AreOut x.at x.len r.home.cells

-- the range is at home, with these bytes
pub record IsPutBack (x : Span) (bytes : List ℕ) (r s : Region) : Type 0 where
  pub home : s.home ≡ record r.home { cells = laid x.at (map Some bytes) r.home.cells; out = r.home.out - one_unless_empty x }
  pub starts : s.starts ≡ r.starts
  pub ends : s.ends ≡ r.ends
