-- How a peer keeps its next number.
use Rattle.std.specs.Prelude.{ℕ, ◌^◌, Option, Some, None}

-- the number past the last one, where no number is left
abbrev pub number_or_end : Option ℕ → ℕ
number_or_end None = 2 ^ 32
number_or_end (Some n) = n
