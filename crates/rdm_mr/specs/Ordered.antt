-- The parts at home, in order.
use Rattle.std.specs.Prelude.{◌≡◌, ℕ, zero, suc, ◌+◌, ◌-◌, ◌<◌, ◌≤◌, ◌⊎◌, ltb, eqb, cond, List, [], ◌∷◌, ◌++◌, length, take, drop, map, replicate, Option, Some, None, slice_index_or}
use Rattle.std.specs.List.{All, insert}
use denote.RawPtr.{Ptr}
use Rattle.rdm_mr.specs.Part.{Piece, end_of, front_of, back_of, joined}

-- from lo up to n, the byte of each place that a part has
abbrev pub cells_of : ℕ → ℕ → List Piece → List (Option ℕ)
cells_of lo n [] = replicate (n - lo) None
cells_of lo n (p ∷ parts) = replicate (p.start - lo) None ++ (map Some p.bytes ++ cells_of (end_of p) n parts)

-- the parts lie in order from lo up to n, none is empty, and no two touch
abbrev pub AreApart : ℕ → ℕ → List Piece → Type 0
AreApart lo n [] = lo ≤ n + 1
AreApart lo n (p ∷ parts) = (lo ≤ p.start) × (0 < length p.bytes) × AreApart (end_of p + 1) n parts

-- the parts are of some range
abbrev pub AreInOrder : List Piece → Type 0
AreInOrder parts = (lo n : ℕ) × AreApart lo n parts

-- they are of the block
abbrev pub AreOf : Ptr → ℕ → List Piece → Type 0
AreOf block whole [] = Unit {0}
AreOf block whole (p ∷ parts) = (p.block ≡ block) × (p.whole ≡ whole) × AreOf block whole parts

-- they are of one block, whichever it is
abbrev pub AreOfOne : List Piece → Type 0
AreOfOne parts = (block : Ptr) × (whole : ℕ) × AreOf block whole parts

-- the part has the place not, since it ends before it or begins after it
abbrev pub Misses : ℕ → Piece → Type 0
Misses place p = (end_of p ≤ place) ⊎ (place < p.start)

-- no part has one of the places from `from` up to end
abbrev pub LacksOne : ℕ → ℕ → List Piece → Type 0
LacksOne from end parts = (place : ℕ) × (from ≤ place) × (place < end) × All (Misses place) parts

-- the part at i has all of the places from `from` up to end
abbrev pub HasAll : ℕ → ℕ → List Piece → ℕ → Type 0
HasAll from end parts i = (i < length parts) × ((d : Piece) → let p = slice_index_or parts i d in (p.start ≤ from) × (end ≤ end_of p))

-- the part, unless it is empty
abbrev pub unless_empty : Piece → List Piece
unless_empty p = cond (ltb 0 (length p.bytes)) (p ∷ []) []

-- the len bytes from `at` on of a part
abbrev pub middle_of : ℕ → ℕ → Piece → Piece
middle_of at len p = front_of len (back_of at p)

-- r is the len bytes from `from` on of the part at i, and new are the old parts without them
abbrev pub IsLifted : ℕ → ℕ → ℕ → Piece → List Piece → List Piece → Type 0
IsLifted i from len r old new =
    let p = slice_index_or old i r in
    let at = from - p.start in
    (r ≡ middle_of at len p) × (new ≡ take i old ++ (unless_empty (front_of at p) ++ (unless_empty (back_of (at + len) p) ++ drop (i + 1) old)))

-- the part, with bytes written over its own from `at` on
abbrev pub overwritten_part : Piece → ℕ → List ℕ → Piece
overwritten_part p at bytes = record p { bytes = take at p.bytes ++ (bytes ++ drop (at + length bytes) p.bytes) }

-- the parts, with the part at i and the next as one where they touch
abbrev pub fused : ℕ → List Piece → List Piece
fused zero [] = []
fused zero (p ∷ []) = p ∷ []
fused zero (p ∷ q ∷ parts) = cond (eqb (end_of p) q.start) (joined p q ∷ parts) (p ∷ q ∷ parts)
fused (suc i) [] = []
fused (suc i) (p ∷ parts) = p ∷ fused i parts

-- the same for the part before the one at i, if there is one
abbrev pub fused_before : ℕ → List Piece → List Piece
fused_before zero parts = parts
fused_before (suc i) parts = fused i parts

-- the parts, once p is put before the part at i
abbrev pub put_at : List Piece → ℕ → Piece → List Piece
put_at parts i p = fused_before i (fused i (insert parts i p))
