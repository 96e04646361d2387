-- What a region keeps of the held and leased ranges, as sums over them.
use Rattle.std.specs.Prelude.{ℕ, ◌+◌, Bool, ◌&&◌, ltb, leb, eqb, cond}
use Rattle.rdm_num.specs.declared.parts.Span.{Span}

-- the range has places of the region
abbrev pub is_in : ℕ → Span → Bool
is_in region x = eqb x.region.0 region && ltb 0 x.len

-- f of where the range begins, if it has places of the region
abbrev pub at_start : ℕ → (ℕ → ℕ) → Span → ℕ
at_start region f x = cond (is_in region x) (f x.at) 0

-- f of where it ends
abbrev pub at_end : ℕ → (ℕ → ℕ) → Span → ℕ
at_end region f x = cond (is_in region x) (f (x.at + x.len)) 0

-- one, if it has places of the region
abbrev pub counts : ℕ → Span → ℕ
counts region x = cond (is_in region x) 1 0

-- one, if it has that place of the region
abbrev pub has : ℕ → ℕ → Span → ℕ
has region place x = cond (eqb x.region.0 region && (leb x.at place && ltb place (x.at + x.len))) 1 0
