-- What is true of the fields of a `Part`.
use Rattle.std.specs.Prelude.{◌≡◌, ℕ, ◌+◌, ◌^◌, ◌<◌, ◌≤◌, ◌⊎◌, length, Option, Some, None}
use denote.RawPtr.{Ptr, ◌+ₚ◌}
use Rattle.rdm_mr.specs.Ownership.{Extent}
use Rattle.rdm_mr.specs.declared.part.Part.TheInside.{Inside}

-- the part that has the block's first byte keeps the right to free the block, and no other part does
abbrev pub Keeps : Option Extent → Ptr → ℕ → ℕ → ℕ → Type 0
Keeps None base start len whole = (0 < start) ⊎ (len ≡ 0)
Keeps (Some owner) base start len whole = (start ≡ 0) × (0 < len) × (owner.ptr ≡ base) × (owner.len ≡ whole)

pub record IsPart (p : Inside) : Type 0 where
  pub within : p.start + length p.vec.items ≤ p.whole
  pub small : p.whole < 2 ^ 63
  pub placed : 0 < length p.vec.items → p.vec.ptr ≡ p.base +ₚ p.start
  pub keeps : Keeps p.owner p.base p.start (length p.vec.items) p.whole
