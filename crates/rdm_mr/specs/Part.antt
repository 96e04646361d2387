-- What a clause sees of a `Part`.
use Rattle.std.specs.Prelude.{◌≡◌, refl, ℕ, ◌+◌, List, ◌++◌, length, take, drop}
use Rattle.std.specs.List.{refill}
use Rattle.std.specs.Coded.{Coded, code_by, coded×, coded_list, coded_ℕ}
use denote.RawPtr.{Ptr, coded_ptr}

-- the bytes from start on of the block, which has whole bytes
pub record Piece : Type 0 where
  pub block : Ptr
  pub start : ℕ
  pub whole : ℕ
  pub bytes : List ℕ

-- it is stored as the tuple of its fields
abbrev pub piece_code : Coded Piece
piece_code =
    code_by (Ptr × (ℕ × (ℕ × List ℕ))) (coded× coded_ptr (coded× coded_ℕ (coded× coded_ℕ (coded_list coded_ℕ)))) (λ p. (p.block, (p.start, (p.whole, p.bytes))))
    (λ t. record { block = t.0; start = t.1.0; whole = t.1.1.0; bytes = t.1.1.1 }) (λ _. refl)

-- where it ends
abbrev pub end_of : Piece → ℕ
end_of p = p.start + length p.bytes

-- it is its whole block
abbrev pub Whole : Piece → Type 0
Whole p = (p.start ≡ 0) × (length p.bytes ≡ p.whole)

-- both are of one block, and r begins where l ends
abbrev pub Meets : Piece → Piece → Type 0
Meets l r = (l.block ≡ r.block) × (l.whole ≡ r.whole) × (r.start ≡ end_of l)

-- its first bytes
abbrev pub front_of : ℕ → Piece → Piece
front_of at p = record p { bytes = take at p.bytes }

-- its bytes from there on
abbrev pub back_of : ℕ → Piece → Piece
back_of at p = record p { start = p.start + at; bytes = drop at p.bytes }

-- l with the bytes of r behind its own
abbrev pub joined : Piece → Piece → Piece
joined l r = record l { bytes = l.bytes ++ r.bytes }

-- p with these bytes in the place of its own
abbrev pub with_bytes : Piece → List ℕ → Piece
with_bytes p ws = record p { bytes = refill (length p.bytes) p.bytes ws }
