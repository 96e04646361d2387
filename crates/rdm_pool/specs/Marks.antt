-- Rising numbers, as the marked ones of a pool are.
use Rattle.std.specs.Prelude.{ℕ, ◌==◌, nat_lt, Bool, true, false, if◌then◌else◌, List, [], ◌∷◌, Option, Some, None}
use Rattle.rdm_num.specs.declared.numbers.OpId.{OpId}

-- whether a number is among some
unfoldable pub has_number : List ℕ → ℕ → Bool
has_number [] number = false
has_number (first ∷ rest) number = if first == number then true else has_number rest number

-- the numbers with one more, before the first that is greater; one that is there comes no second time
unfoldable pub with_number : List ℕ → ℕ → List ℕ
with_number [] number = number ∷ []
with_number (first ∷ rest) number =
    if nat_lt first number then first ∷ with_number rest number
    else if first == number then first ∷ rest
    else number ∷ first ∷ rest

-- the numbers without one
unfoldable pub without_number : List ℕ → ℕ → List ℕ
without_number [] number = []
without_number (first ∷ rest) number = if first == number then rest else first ∷ without_number rest number

-- the first of the numbers that is not below a given one
unfoldable pub first_number : List ℕ → ℕ → Option OpId
first_number [] from = None
first_number (first ∷ rest) from = if nat_lt first from then first_number rest from else Some (record { 0 = first })
