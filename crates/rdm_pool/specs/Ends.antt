-- A tree of numbers in which each node has the greater of the two below it. Node 1 is above all
-- others, and the leaves are the last nodes. No public clause cites this module.
use Rattle.std.specs.Prelude.{◌≡◌, ℕ, ◌+◌, ◌*◌, ◌≤◌, ◌<◌, max, nat_lt, if◌then◌else◌, List, [], ◌∷◌, length, slice_index, Option, Some, None}
use Rattle.std.specs.Int.{IsPowerOfTwo}

-- each node above the leaves has the greater of the two below it
abbrev pub IsTree : ℕ → List ℕ → Type 0
IsTree leaves tree = (node : ℕ) → 1 ≤ node → node < leaves → slice_index tree node ≡ max (slice_index tree (2 * node)) (slice_index tree (2 * node + 1))

-- a tree whose leaves are all as far from the root
pub record IsRooted (leaves : ℕ) (tree : List ℕ) : Type 0 where
  pub nodes : length tree ≡ 2 * leaves
  pub levels : IsPowerOfTwo leaves
  pub is_tree : IsTree leaves tree

-- the first of some ends that is above a number
unfoldable pub first_above : List ℕ → ℕ → Option ℕ
first_above [] number = None
first_above (end ∷ rest) number = if nat_lt number end then Some end else first_above rest number
