-- What a clause sees of a `Home`.
use Rattle.std.specs.Prelude.{◌≡◌, refl, ℕ, ◌+◌, ◌-◌, ◌≤◌, List, ◌++◌, length, take, drop, map, replicate, Option, Some, None, Result, Ok, Err}
use Rattle.std.specs.Coded.{Coded, code_by, coded×, coded_list, coded_option, coded_ℕ}
use denote.RawPtr.{Ptr, coded_ptr}
use Rattle.rdm_mr.specs.Part.{Piece}

-- the places of a block from start on: the byte of each that is at home, and None for one that is out; and how many parts are out
pub record Tiles : Type 0 where
  pub block : Ptr
  pub whole : ℕ
  pub start : ℕ
  pub cells : List (Option ℕ)
  pub out : ℕ

-- it is stored as the tuple of its fields
abbrev pub tiles_code : Coded Tiles
tiles_code =
    code_by (Ptr × (ℕ × (ℕ × (List (Option ℕ) × ℕ)))) (coded× coded_ptr (coded× coded_ℕ (coded× coded_ℕ (coded× (coded_list (coded_option coded_ℕ)) coded_ℕ)))) (λ t. (t.block, (t.whole, (t.start, (t.cells, t.out)))))
    (λ t. record { block = t.0; whole = t.1.0; start = t.1.1.0; cells = t.1.1.1.0; out = t.1.1.1.1 }) (λ _. refl)

-- all of the part is at home
abbrev pub all_home : Piece → Tiles
all_home p = record { block = p.block; whole = p.whole; start = p.start; cells = map Some p.bytes; out = 0 }

-- the part is all that the tiles are
abbrev pub IsAll : Tiles → Piece → Type 0
IsAll t p = (p.block ≡ t.block) × (p.whole ≡ t.whole) × (p.start ≡ t.start) × (map Some p.bytes ≡ t.cells)

-- the cells, with xs from `at` on
abbrev pub laid : ℕ → List (Option ℕ) → List (Option ℕ) → List (Option ℕ)
laid at xs cells = take at cells ++ (xs ++ drop (at + length xs) cells)

-- xs are the cells from `at` on
abbrev pub Lie : ℕ → List (Option ℕ) → List (Option ℕ) → Type 0
Lie at xs cells = (at + length xs ≤ length cells) × (take (length xs) (drop at cells) ≡ xs)

-- each of the len places from `at` on is at home
abbrev pub AreHome : ℕ → ℕ → List (Option ℕ) → Type 0
AreHome at len cells = (bytes : List ℕ) × (length bytes ≡ len) × Lie at (map Some bytes) cells

-- each of the len places from `at` on is out
abbrev pub AreOut : ℕ → ℕ → List (Option ℕ) → Type 0
AreOut at len cells = Lie at (replicate len None) cells

-- nothing is out
abbrev pub IsWhole : List (Option ℕ) → Type 0
IsWhole cells = (bytes : List ℕ) × (cells ≡ map Some bytes)

-- these bytes are at home from `at` on
abbrev pub AreBytes : ℕ → List ℕ → List (Option ℕ) → Type 0
AreBytes at bytes cells = Lie at (map Some bytes) cells

-- the part is of the block
abbrev pub IsOf : Tiles → Piece → Type 0
IsOf t p = (p.block ≡ t.block) × (p.whole ≡ t.whole)

-- the part is the len places from `at` on, with the bytes that they have
abbrev pub IsPartAt : Tiles → ℕ → ℕ → Piece → Type 0
IsPartAt t at len p = IsOf t p × (p.start ≡ t.start + at) × (length p.bytes ≡ len) × AreBytes at p.bytes t.cells

-- the bytes from `at` on are these
abbrev pub overwritten : Tiles → ℕ → List ℕ → Tiles
overwritten t at bytes = record t { cells = laid at (map Some bytes) t.cells }

-- the part is taken out
abbrev pub without : Tiles → Piece → Tiles
without t p = record t { cells = laid (p.start - t.start) (replicate (length p.bytes) None) t.cells; out = t.out + 1 }

-- the part is put back, with its bytes
abbrev pub with_part : Tiles → Piece → Tiles
with_part t p = record t { cells = laid (p.start - t.start) (map Some p.bytes) t.cells; out = t.out - 1 }

-- what a `take_out` leaves: only one that gives a part changes anything
abbrev pub after_take_out : {E : Type 0} → Tiles → Result (Option Piece) E → Tiles
after_take_out t (Ok (Some p)) = without t p
after_take_out t (Ok None) = t
after_take_out t (Err why) = t
