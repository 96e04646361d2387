-- What came of a message before it had a range to land in.
use Rattle.std.specs.Prelude.{◌≡◌, ℕ, ◌+◌, ◌<◌, ◌≤◌, Bool, true, false, not, ◌&&◌, ◌||◌, nat_lt, get_or, cond, List, [], ◌∷◌, length, Option, Some}
use Rattle.rdm_gaps.specs.Places.{Missing}
use Rattle.rdm_mr.specs.Tiles.{Tiles}
use Rattle.rdm_land.specs.Spans.{have}
use Rattle.rdm_land.specs.Landed.{Landed}

-- the cells, with the byte of each place that is not missing
abbrev pub came_over : (missing : List Bool) → (bytes : List ℕ) → (cells : List (Option ℕ)) → List (Option ℕ)
came_over [] bytes cells = cells
came_over (m ∷ missing) [] cells = cells
came_over (m ∷ missing) (b ∷ bytes) [] = []
came_over (m ∷ missing) (b ∷ bytes) (c ∷ cells) = cond m c (Some b) ∷ came_over missing bytes cells

-- the same of the tiles
abbrev pub with_came : Tiles → List Bool → List ℕ → Tiles
with_came tiles missing bytes = record tiles { cells = came_over missing bytes tiles.cells }

-- a message lands of which all but the missing places came before, with these bytes
abbrev pub arrived : Landed → Missing → List ℕ → Landed
arrived l m bytes = record { tiles = with_came l.tiles m.places bytes; missing = m.places; lent = []; room = m.spare }

-- the place is missing or lent
abbrev pub waits : Landed → ℕ → Bool
waits l k = have k l.lent || get_or l.missing k false

-- the place lies in the message, and waits no more
abbrev pub has_come : Landed → ℕ → Bool
has_come l k = nat_lt k (length l.missing) && not (waits l k)

-- the first place that waits, or the length where there is none
pub record IsFront (l : Landed) (n : ℕ) : Type 0 where
  pub within : n ≤ length l.missing
  pub before : (k : ℕ) → k < n → waits l k ≡ false
  pub here : n < length l.missing → waits l n ≡ true

-- the range lies in the message, and each of its places waits
abbrev pub AreWaiting : Landed → ℕ → ℕ → Type 0
AreWaiting l off len = (off + len ≤ length l.missing) × ((k : ℕ) → off ≤ k → k < off + len → waits l k ≡ true)

-- the range has no place that is lent
abbrev pub IsFree : Landed → ℕ → ℕ → Type 0
IsFree l off len = (k : ℕ) → off ≤ k → k < off + len → have k l.lent ≡ false
