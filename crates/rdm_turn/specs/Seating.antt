-- What a caller sees of a table of turns and of its seats.
use Rattle.std.specs.Prelude.{◌≡◌, ℕ, ◌+◌, ◌-◌, ◌<◌, List, [], ◌∷◌, Bool}
use Rattle.atomic_table.specs.Seated.{TableId}
use Rattle.rdm_turn.specs.declared.rule.Stand.{Stand}
use Rattle.rdm_turn.specs.declared.rule.Hand.TheVariants.{Nothing}
use Rattle.rdm_turn.specs.Knowing.{is_among, without}
use Rattle.rdm_turn.specs.Telling.{spent}
use Rattle.rdm_turn.specs.declared.block.Block.{Block}

-- a table: which one it is, how many places it has, how many parts its seats have together, and the block of the vector that its values came in
pub record TurnsView : Type 0 where
  pub table : TableId
  pub count : ℕ
  pub seats : ℕ
  pub block : Block

-- a seat: its table, its parts, and the places that it has taken, the newest first
pub record SeatView : Type 0 where
  pub table : TableId
  pub parts : ℕ
  pub taken : List ℕ

-- the seat is one of this table's
abbrev pub IsSeatOf : TurnsView → SeatView → Type 0
IsSeatOf turns seat = seat.table ≡ turns.table

-- the seat has taken the place
abbrev pub has_taken : SeatView → ℕ → Bool
has_taken seat i = is_among i seat.taken

-- a seat of this table with so many parts and no place
abbrev pub seat_with : TableId → ℕ → SeatView
seat_with table parts = record { table = table; parts = parts; taken = [] }

-- the seat after it took the place
abbrev pub after_take : SeatView → ℕ → SeatView
after_take seat i = record seat { taken = i ∷ seat.taken }

-- the seat after it gave the place
abbrev pub after_give : SeatView → ℕ → SeatView
after_give seat i = record seat { taken = without i seat.taken }

-- the seat after one of its parts went to a new seat
abbrev pub after_split : SeatView → SeatView
after_split seat = record seat { parts = seat.parts - 1 }

-- the seat after the other's parts came to it
abbrev pub after_join : SeatView → SeatView → SeatView
after_join seat other = record seat { parts = seat.parts + other.parts }

-- the view that a badge has
abbrev pub view_of : List Stand → Stand
view_of [] = spent
view_of (v ∷ views) = v

-- between two calls a badge has one view, which has a part and no place in hand
abbrev pub IsAtRest : List Stand → Type 0
IsAtRest views = (views ≡ view_of views ∷ []) × (0 < (view_of views).parts) × ((view_of views).hand ≡ Nothing)

-- the place has its word and its slot
abbrev pub IsPlace : TableId → ℕ → Type 0
IsPlace table i = (i < table.words) × (i < table.slots)
