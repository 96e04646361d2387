-- Counts of refusals.
use Rattle.std.specs.Prelude.{ℕ, ◌+◌, ◌-◌, ◌^◌, ◌≤◌, min}

-- the count rose, or stands at the last number of 64 bits
abbrev pub Rose : (before now : ℕ) → Type 0
Rose before now = min (before + 1) (2 ^ 64 - 1) ≤ now
