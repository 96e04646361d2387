-- How slots know their empty places: by a list of their numbers. No public clause cites this module.
use Rattle.std.specs.Prelude.{◌≡◌, ◌≢◌, ℕ, ◌+◌, ◌≤◌, List, [], ◌∷◌, length, count_by, slice_get, Option, Some, None, is_some, vec_capacity}
use Rattle.rdm_slots.specs.Places.{Slots}
use Rattle.rdm_slots.specs.declared.Slots.TheInside.{Inside}

-- the number is none of these
abbrev pub IsNoneOf : List ℕ → ℕ → Type 0
IsNoneOf [] number = Unit {0}
IsNoneOf (first ∷ rest) number = (first ≢ number) × IsNoneOf rest number

module _ {T : Type 0} where
  -- these are numbers of empty places, each once
  abbrev pub AreEmptyPlaces : List (Option T) → List ℕ → Type 0
  AreEmptyPlaces places [] = Unit {0}
  AreEmptyPlaces places (number ∷ rest) = (slice_get places number ≡ Some None) × IsNoneOf rest number × AreEmptyPlaces places rest

  -- these are the numbers of all empty places, each once, and there is memory for so many that all places may be empty
  pub record AreListed (places : List (Option T)) (numbers : List ℕ) (room : ℕ) : Type 0 where
    pub empty : AreEmptyPlaces places numbers
    pub all : length numbers + count_by is_some places ≡ length places
    pub fits : length places ≤ room

  -- what a contract sees of slots
  abbrev pub seen : Inside T → Slots T
  seen s = record { places = s.places.items }

  -- what is true of the fields
  abbrev pub IsKept : Inside T → Type 0
  IsKept s = AreListed s.places.items s.empty.items (vec_capacity s.empty)
