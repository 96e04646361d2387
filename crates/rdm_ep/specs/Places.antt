-- The first place of a list that passes a test.
use Rattle.std.specs.Prelude.{◌≡◌, ℕ, ◌<◌, Bool, List, length, find, slice_get, remove, Option, Some, None}
use Rattle.rdm_lists.specs.Lists.{without_first}

-- the element at the place is the first one that passes
pub record IsPlaced {A : Type 0} (p : A → Bool) (xs : List A) (at : ℕ) : Type 0 where
  pub within : at < length xs
  pub found : find p xs ≡ slice_get xs at
  pub without : without_first p xs ≡ remove xs at

-- the place of the first element that passes, if one does
abbrev pub IsPlace : {A : Type 0} → (A → Bool) → List A → Option ℕ → Type 0
IsPlace p xs None = find p xs ≡ None
IsPlace p xs (Some at) = IsPlaced p xs at
