-- Numbered places, each empty or with a value.
use Rattle.std.specs.Prelude.{◌≡◌, ℕ, ◌==◌, Bool, List, length, set, replicate, count_by, slice_get, slice_index_or, Option, Some, None, is_some}

-- what each place has, by its number
pub record Slots (T : Type 0) : Type 0 where
  pub places : List (Option T)

module _ {T : Type 0} where
  -- so many places, all empty
  abbrev pub nothing_put : ℕ → Slots T
  nothing_put size = record { places = replicate size None }

  -- how many places have a value
  abbrev pub held : Slots T → ℕ
  held s = count_by is_some s.places

  -- each place has a value
  abbrev pub is_full : Slots T → Bool
  is_full s = held s == length s.places

  -- no place has a value
  abbrev pub is_empty : Slots T → Bool
  is_empty s = held s == 0

  -- there is the place, and it has no value
  abbrev pub IsEmptyPlace : Slots T → ℕ → Type 0
  IsEmptyPlace s place = slice_get s.places place ≡ Some None

  -- the value of a place, if there is the place and it has one
  abbrev pub value_at : Slots T → ℕ → Option T
  value_at s place = slice_index_or s.places place None

  -- the place has this value, and each other one what it had
  abbrev pub with_value : Slots T → ℕ → T → Slots T
  with_value s place value = record { places = set s.places place (Some value) }

  -- the place is empty, and each other one has what it had
  abbrev pub without : Slots T → ℕ → Slots T
  without s place = record { places = set s.places place None }
