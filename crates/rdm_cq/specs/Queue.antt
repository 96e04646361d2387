-- Items that wait, and places that are reserved for more.
use Rattle.std.specs.Prelude.{ℕ, ◌+◌, ◌-◌, ◌≤◌, ◌==◌, Bool, if◌then◌else◌, List, [], ◌∷◌, ◌++◌, length, drop, slice_get, Option, Result, Ok, Err}
use Rattle.rdm_cq.specs.declared.CqFull.{CqFull}

-- how many places are reserved, the items in the order in which they were written, and how many
-- places there are
pub record Queue (T : Type 0) : Type 0 where
  pub reserved : ℕ
  pub list : List T
  pub size : ℕ

module _ {T : Type 0} where
  -- before anything is reserved
  abbrev pub no_completions : ℕ → Queue T
  no_completions size = record { reserved = 0; list = []; size = size }

  -- reserved places and items together are no more than the size
  abbrev pub IsWithin : Queue T → Type 0
  IsWithin q = q.reserved + length q.list ≤ q.size

  -- reserved places and items together are the size
  abbrev pub is_full : Queue T → Bool
  is_full q = q.reserved + length q.list == q.size

  -- no item waits
  abbrev pub is_empty : Queue T → Bool
  is_empty q = length q.list == 0

  -- a reserve is refused exactly where the queue is full
  abbrev pub reserve_answer : Queue T → Result (Unit {0}) CqFull
  reserve_answer q = if is_full q then Err (record {}) else Ok tt

  -- a reserve that is not refused reserves one more place
  abbrev pub after_reserve : Queue T → Queue T
  after_reserve q = if is_full q then q else record q { reserved = q.reserved + 1 }

  -- one place fewer is reserved
  abbrev pub unreserved : Queue T → Queue T
  unreserved q = record q { reserved = q.reserved - 1 }

  -- an item stands last, in a place that was reserved
  abbrev pub written : Queue T → T → Queue T
  written q item = record { reserved = q.reserved - 1; list = q.list ++ item ∷ []; size = q.size }

  -- a poll gives the first item, and None exactly where there is none
  abbrev pub poll_answer : Queue T → Option T
  poll_answer q = slice_get q.list 0

  -- a poll takes the first item out
  abbrev pub polled : Queue T → Queue T
  polled q = record q { list = drop 1 q.list }
