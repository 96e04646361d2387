-- What the count of values says of the places.
use Rattle.std.specs.Prelude.{◌≡◌, ◌↔◌, ℕ, ◌+◌, true, Some, None}
use Rattle.rdm_slots.specs.Places.{Slots, held, is_empty, IsEmptyPlace, value_at, with_value, without}

-- a value in an empty place is one more, another one in the place of a value is as many, and one that is taken is one fewer
pub record CountsMove (T : Type 0) : Type 0 where
  pub put : (s : Slots T) (place : ℕ) (value : T) → IsEmptyPlace s place → held (with_value s place value) ≡ held s + 1
  pub write : (s : Slots T) (place : ℕ) (old new : T) → value_at s place ≡ Some old → held (with_value s place new) ≡ held s
  pub take : (s : Slots T) (place : ℕ) (old : T) → value_at s place ≡ Some old → held (without s place) + 1 ≡ held s

-- all places are empty exactly where no place has a value
abbrev pub EmptyHasNone : Type 0 → Type 0
EmptyHasNone T = (s : Slots T) → (is_empty s ≡ true) ↔ ((place : ℕ) → value_at s place ≡ None)
