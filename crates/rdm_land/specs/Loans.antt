-- What becomes of a range that is lent, over the calls for other ranges.
use Rattle.std.specs.Prelude.{◌≡◌, ℕ, ◌+◌, ◌<◌, ◌≤◌, ◌⊎◌, List, length, Option, Result, IfOk, MatchOption}
use Rattle.std.specs.declared.alloc.AllocError.{AllocError}
use Rattle.rdm_gaps.specs.Places.{AreMissing, AreTaken}
use Rattle.rdm_mr.specs.Part.{Piece}
use Rattle.rdm_mr.specs.Tiles.{AreOut}
use Rattle.rdm_land.specs.declared.landing.Placed.{Placed as Answer}
use Rattle.rdm_land.specs.Landed.{Landed, Says, MayLend, IsPartOf, IsLent, below, with_room, with_lent, after_place, after_fill, after_lend, landed, unlent}

-- the range is lent with the part: some of its places lie below the capacity, none is missing, and those below the capacity are out
abbrev pub IsLoan : Landed → ℕ → ℕ → Piece → Type 0
IsLoan l off len part = IsLent l off len part × (0 < below l off len) × AreTaken off len l.missing × AreOut off (below l off len) l.tiles.cells

-- no place is in both of two ranges
abbrev pub ShareNone : ℕ → ℕ → ℕ → ℕ → Type 0
ShareNone off len at n = (off + len ≤ at) ⊎ (at + n ≤ off)

-- each loan before is one after, at the same place
abbrev pub Stays : Landed → Landed → Type 0
Stays before after = (off len : ℕ) (part : Piece) → IsLoan before off len part → IsLoan after off len part

-- each loan that shares no place with a range stays one
abbrev pub StaysBeside : Landed → ℕ → ℕ → Landed → Type 0
StaysBeside before at n after = (off len : ℕ) (part : Piece) → ShareNone off len at n → IsLoan before off len part → IsLoan after off len part

-- what a `lend` gives is a loan
abbrev pub LendGivesLoan : Type 0
LendGivesLoan = (l : Landed) (off len : ℕ) (part : Piece) → MayLend l off len → IsPartOf l off len part → IsLoan (with_lent l off len part) off len part

-- over a `reserve`
abbrev pub StayReserved : Type 0
StayReserved = (l : Landed) (n : ℕ) → Stays l (with_room l n)

-- over a `place`, whatever it answers
abbrev pub StayPlaced : Type 0
StayPlaced = (l : Landed) (at : ℕ) (bytes : List ℕ) (answer : Result Answer AllocError) → IfOk answer (λ placed. Says placed (AreMissing at (length bytes) l.missing)) → Stays l (after_place l at bytes answer)

-- over a `fill`
abbrev pub StayFilled : Type 0
StayFilled = (l : Landed) (at : ℕ) (bytes : List ℕ) (answer : Answer) → Says answer (AreMissing at (length bytes) l.missing) → Stays l (after_fill l at bytes answer)

-- over a `lend` of another range
abbrev pub StayLent : Type 0
StayLent =
    (l : Landed) (at n : ℕ) (answer : Result (Option Piece) AllocError) → IfOk answer (λ out. MatchOption out (MayLend l at n → ⊥) (λ part. MayLend l at n × IsPartOf l at n part)) → Stays l (after_lend l at n answer)

-- over the `land` of another range that is lent
abbrev pub StayLanded : Type 0
StayLanded = (l : Landed) (at n : ℕ) (part : Piece) → IsLent l at n part → StaysBeside l at n (landed l at n part)

-- over the `unlend` of another
abbrev pub StayUnlent : Type 0
StayUnlent = (l : Landed) (at n : ℕ) (part : Piece) → IsLoan l at n part → StaysBeside l at n (unlent l at n part)

-- two ranges that are lent are one, or share no place
abbrev pub LoansAreApart : Landed → Type 0
LoansAreApart l = (off len at n : ℕ) (part other : Piece) → IsLent l off len part → IsLent l at n other → ((off ≡ at) × (len ≡ n)) ⊎ ShareNone off len at n

-- each range that is lent is a loan
abbrev pub LentAreLoans : Landed → Type 0
LentAreLoans l = (off len : ℕ) (part : Piece) → IsLent l off len part → IsLoan l off len part
