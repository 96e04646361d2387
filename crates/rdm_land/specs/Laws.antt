-- What lending a range and taking it back come to.
use Rattle.std.specs.Prelude.{◌≡◌, ℕ, ◌-◌, List, length, take}
use Rattle.rdm_gaps.specs.Places.{AreTaken}
use Rattle.rdm_mr.specs.Part.{Piece}
use Rattle.rdm_land.specs.Landed.{Landed, MayLend, IsPartOf, IsLent, capacity, with_lent, landed, unlent, with_bytes}

-- what a lend gives is lent
abbrev pub LendLends : Type 0
LendLends = (l : Landed) (off len : ℕ) (part : Piece) → MayLend l off len → IsPartOf l off len part → IsLent (with_lent l off len part) off len part

-- a range that is lent and taken back with the same bytes leaves all as it was
abbrev pub UnlendUndoesLend : Type 0
UnlendUndoesLend = (l : Landed) (off len : ℕ) (part : Piece) → MayLend l off len → IsPartOf l off len part → unlent (with_lent l off len part) off len part ≡ l

-- to land a part is to make its range missing again, and then to place the bytes of which the part has those below the capacity
abbrev pub LandIsUnlendAndPlace : Type 0
LandIsUnlendAndPlace =
    (l : Landed) (off : ℕ) (bytes : List ℕ) (part : Piece) → IsLent l off (length bytes) part → AreTaken off (length bytes) l.missing → part.bytes ≡ take (capacity l - off) bytes → landed l off (length bytes) part ≡ with_bytes (unlent l off (length bytes) part) off bytes
