-- What taking a part out and putting it back come to.
use Rattle.std.specs.Prelude.{◌≡◌, ℕ, ◌-◌, ◌≤◌, length}
use Rattle.rdm_mr.specs.Part.{Piece}
use Rattle.rdm_mr.specs.Tiles.{Tiles, IsOf, IsPartAt, AreOut, without, with_part}

-- what is taken out can be put back
abbrev pub TakenIsOut : Type 0
TakenIsOut =
    (t : Tiles) (at len : ℕ) (p : Piece) → IsPartAt t at len p → IsOf (without t p) p × ((without t p).start ≤ p.start) × AreOut (p.start - (without t p).start) (length p.bytes) ((without t p).cells)

-- a part that is taken out and put back with the same bytes leaves all as it was
abbrev pub BackUndoesOut : Type 0
BackUndoesOut = (t : Tiles) (at len : ℕ) (p : Piece) → IsPartAt t at len p → with_part (without t p) p ≡ t
