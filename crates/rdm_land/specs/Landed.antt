-- What a clause sees of a `Landing`, and what its calls answer and leave.
use Rattle.std.specs.Prelude.{◌≡◌, refl, ℕ, ◌+◌, ◌-◌, ◌<◌, ◌==◌, Bool, true, ◌&&◌, false, min, max, List, [], length, take, replicate, Option, Some, None, Result, Ok, Err}
use Rattle.std.specs.List.{Contains, count_by}
use Rattle.std.specs.Coded.{Coded, code_by, coded×, coded_list, coded_bool, coded_ℕ}
use Rattle.rdm_gaps.specs.Places.{Missing, AreMissing, with_range}
use Rattle.rdm_mr.specs.Part.{Piece}
use Rattle.rdm_mr.specs.Tiles.{Tiles, tiles_code, all_home, overwritten, without, with_part, IsOf, IsPartAt}
use Rattle.rdm_land.specs.declared.spans.Span.{Span}
use Rattle.rdm_land.specs.declared.landing.Placed.{Placed as Answer}
use Rattle.rdm_land.specs.declared.landing.Placed.TheVariants.{Placed, Overlap}
use Rattle.rdm_land.specs.Spans.{span, span_code, with_span, without_span, with_spans}

-- the bytes that are at home of the part, of each place of the message whether it is missing, the ranges that are lent, and for how many ranges there is room to be filled
pub record Landed : Type 0 where
  pub tiles : Tiles
  pub missing : List Bool
  pub lent : List Span
  pub room : ℕ

-- it is stored as the tuple of its fields
abbrev pub landed_code : Coded Landed
landed_code =
    code_by (Tiles × (List Bool × (List Span × ℕ))) (coded× tiles_code (coded× (coded_list coded_bool) (coded× (coded_list span_code) coded_ℕ))) (λ l. (l.tiles, (l.missing, (l.lent, l.room))))
    (λ t. record { tiles = t.0; missing = t.1.0; lent = t.1.1.0; room = t.1.1.1 }) (λ _. refl)

-- of a message of `length` bytes nothing has come yet
abbrev pub awaiting : Piece → ℕ → Landed
awaiting part length = record { tiles = all_home part; missing = replicate length true; lent = []; room = 0 }

-- a message lands in what is at home, of which these places are missing
abbrev pub resumed : Tiles → Missing → Landed
resumed tiles m = record { tiles = tiles; missing = m.places; lent = []; room = m.spare }

-- there is room to fill n ranges at least
abbrev pub with_room : Landed → ℕ → Landed
with_room l n = record l { room = max l.room n }

-- how many bytes there is room for
abbrev pub capacity : Landed → ℕ
capacity l = length l.tiles.cells

-- how many of the len places from off on lie below the capacity
abbrev pub below : Landed → ℕ → ℕ → ℕ
below l off len = min len (capacity l - off)

-- what an answer to `place` says: the range was missing, or it was not
abbrev pub Says : Answer → Type 0 → Type 0
Says Placed missing = missing
Says Overlap missing = missing → ⊥

-- the bytes have come: those below the capacity are kept, and their range is missing no more
abbrev pub with_bytes : Landed → ℕ → List ℕ → Landed
with_bytes l off bytes = record l { tiles = overwritten l.tiles off (take (capacity l - off) bytes); missing = with_range false off (length bytes) l.missing }

-- what a `place` leaves: only one that placed its bytes changes anything
abbrev pub after_place : {E : Type 0} → Landed → ℕ → List ℕ → Result Answer E → Landed
after_place l off bytes (Ok Placed) = with_bytes l off bytes
after_place l off bytes (Ok Overlap) = l
after_place l off bytes (Err why) = l

-- what a `fill` leaves: one that placed its bytes takes one of the room
abbrev pub after_fill : Landed → ℕ → List ℕ → Answer → Landed
after_fill l off bytes Placed = record (with_bytes l off bytes) { room = l.room - 1 }
after_fill l off bytes Overlap = l

-- what calls that only bring bytes keep: the block, how many bytes there is room for, and what is lent
pub record Keeps (before after : Landed) : Type 0 where
  pub start : after.tiles.start ≡ before.tiles.start
  pub whole : after.tiles.whole ≡ before.tiles.whole
  pub places : capacity after ≡ capacity before
  pub lent : after.lent ≡ before.lent

-- how many places are missing
abbrev pub missing_places : Landed → ℕ
missing_places l = count_by (λ b. b) l.missing

-- nothing is missing, and nothing is lent
abbrev pub is_finished : Landed → Bool
is_finished l = (missing_places l == 0) && (length l.lent == 0)

-- how many bytes of the message lie past the capacity
abbrev pub excess : Landed → ℕ
excess l = length l.missing - capacity l

-- the range can be lent: it is missing, and some of it lies below the capacity
abbrev pub MayLend : Landed → ℕ → ℕ → Type 0
MayLend l off len = AreMissing off len l.missing × (0 < below l off len)

-- the part is that of the range's places below the capacity, with their bytes
abbrev pub IsPartOf : Landed → ℕ → ℕ → Piece → Type 0
IsPartOf l off len part = IsPartAt l.tiles off (below l off len) part

-- the range is lent with the part, whatever the part's bytes
abbrev pub IsLent : Landed → ℕ → ℕ → Piece → Type 0
IsLent l off len part = Contains l.lent (span off len) × IsOf l.tiles part × (part.start ≡ l.tiles.start + off) × (length part.bytes ≡ below l off len)

-- the range is lent with the part
abbrev pub with_lent : Landed → ℕ → ℕ → Piece → Landed
with_lent l off len part = record l { tiles = without l.tiles part; missing = with_range false off len l.missing; lent = with_span (span off len) l.lent }

-- what a `lend` leaves: only one that gives a part changes anything
abbrev pub after_lend : {E : Type 0} → Landed → ℕ → ℕ → Result (Option Piece) E → Landed
after_lend l off len (Ok (Some part)) = with_lent l off len part
after_lend l off len (Ok None) = l
after_lend l off len (Err why) = l

-- the part is at home again, with its bytes
abbrev pub landed : Landed → ℕ → ℕ → Piece → Landed
landed l off len part = record l { tiles = with_part l.tiles part; lent = without_span (span off len) l.lent }

-- the part is at home again, and its range is missing again
abbrev pub unlent : Landed → ℕ → ℕ → Piece → Landed
unlent l off len part = record l { tiles = with_part l.tiles part; missing = with_range true off len l.missing; lent = without_span (span off len) l.lent }

-- what would be missing if what is lent were
abbrev pub missing_or_lent : Landed → List Bool
missing_or_lent l = with_spans l.lent l.missing

-- the range is not missing, and would be if what is lent were
abbrev pub OnlyLent : Landed → ℕ → ℕ → Type 0
OnlyLent l off len = (AreMissing off len l.missing → ⊥) × AreMissing off len (missing_or_lent l)
