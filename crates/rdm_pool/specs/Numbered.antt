-- Values, each under a number that no other value gets, and marks on some of the numbers.
use Rattle.std.specs.Prelude.{◌≡◌, ℕ, ◌+◌, ◌≤◌, ◌<◌, ◌==◌, nat_lt, Bool, true, false, if◌then◌else◌, List, [], ◌∷◌, ◌++◌, length, Option, Some, None, is_some, IsSome, Result, Ok, Err}
use Rattle.rdm_num.specs.declared.numbers.OpId.{OpId}
use Rattle.rdm_pool.specs.declared.Full.{Full}
use Rattle.rdm_pool.specs.Marks.{has_number, with_number, without_number, first_number}

-- the numbers with their values, the oldest first, the marked numbers, the least first, how many
-- values there may be, and how many were ever put
pub record Numbered (T : Type 0) : Type 0 where
  pub list : List (ℕ × T)
  pub marked : List ℕ
  pub size : ℕ
  pub made : ℕ

module _ {T : Type 0} where
  -- before anything is put
  abbrev pub nothing_put : ℕ → Numbered T
  nothing_put size = record { list = []; marked = []; size = size; made = 0 }

  -- the numbers rise, from a least one on, and stay below a bound
  abbrev pub RisesWithin : ℕ → List (ℕ × T) → ℕ → Type 0
  RisesWithin least [] bound = Unit {0}
  RisesWithin least (entry ∷ rest) bound = (least ≤ entry.0) × (entry.0 < bound) × RisesWithin (entry.0 + 1) rest bound

  -- the value under a number
  unfoldable pub value_at : List (ℕ × T) → ℕ → Option T
  value_at [] number = None
  value_at (entry ∷ rest) number = if entry.0 == number then Some entry.1 else value_at rest number

  -- some numbers rise, from a least one on, and each has a value
  abbrev pub HaveValues : ℕ → List (ℕ × T) → List ℕ → Type 0
  HaveValues least list [] = Unit {0}
  HaveValues least list (number ∷ rest) = (least ≤ number) × IsSome (value_at list number) × HaveValues (number + 1) list rest

  -- the numbers rise and were given, there are no more values than the size, and only numbers that
  -- have a value are marked
  pub record IsPool (p : Numbered T) : Type 0 where
    pub rises : RisesWithin 0 p.list p.made
    pub within : length p.list ≤ p.size
    pub marks : HaveValues 0 p.list p.marked

  -- the list without the value under a number
  unfoldable pub without : List (ℕ × T) → ℕ → List (ℕ × T)
  without [] number = []
  without (entry ∷ rest) number = if entry.0 == number then rest else entry ∷ without rest number

  -- the list with another value under a number that has one
  unfoldable pub with_value : List (ℕ × T) → ℕ → T → List (ℕ × T)
  with_value [] number value = []
  with_value (entry ∷ rest) number value = if entry.0 == number then (entry.0, value) ∷ rest else entry ∷ with_value rest number value

  -- there are as many values as the size
  abbrev pub is_full : Numbered T → Bool
  is_full p = length p.list == p.size

  -- the number of the next put is the count of the puts before it
  abbrev pub next_number : Numbered T → OpId
  next_number p = record { 0 = p.made }

  -- a put gives the next number, and the value back exactly where the pool is full
  abbrev pub put_answer : Numbered T → T → Result OpId (Full T)
  put_answer p value = if is_full p then Err (record { 0 = value }) else Ok (next_number p)

  -- a put into a pool that is not full puts the value last, and marks nothing
  abbrev pub after_put : Numbered T → T → Numbered T
  after_put p value =
      if is_full p
      then p
      else record { list = p.list ++ (p.made, value) ∷ []; marked = p.marked; size = p.size; made = p.made + 1 }

  -- the value under the number
  abbrev pub found : Numbered T → OpId → Option T
  found p id = value_at p.list id.0

  -- the value under the number is gone, and the number's mark
  abbrev pub after_take : Numbered T → OpId → Numbered T
  after_take p id = record p { list = without p.list id.0; marked = without_number p.marked id.0 }

  -- another value stands under the number
  abbrev pub after_write : Numbered T → OpId → T → Numbered T
  after_write p id value = record p { list = with_value p.list id.0 value }

  -- the first number of a list that is not below a number
  unfoldable pub first_from : List (ℕ × T) → ℕ → Option OpId
  first_from [] number = None
  first_from (entry ∷ rest) number = if nat_lt entry.0 number then first_from rest number else Some (record { 0 = entry.0 })

  -- the first number from a given one on that has a value
  abbrev pub next_from : Numbered T → OpId → Option OpId
  next_from p from = first_from p.list from.0

  -- of the numbers from a given one on, this is the least that has a value
  pub record IsNext (p : Numbered T) (from id : OpId) : Type 0 where
    pub has_value : IsSome (found p id)
    pub not_before : from.0 ≤ id.0
    pub least : (other : OpId) → from.0 ≤ other.0 → other.0 < id.0 → found p other ≡ None

  -- no number from a given one on has a value
  abbrev pub HasNoNext : Numbered T → OpId → Type 0
  HasNoNext p from = (other : OpId) → from.0 ≤ other.0 → found p other ≡ None

  -- the number is marked
  abbrev pub is_marked : Numbered T → OpId → Bool
  is_marked p id = has_number p.marked id.0

  -- a number is marked if it has a value
  abbrev pub after_mark : Numbered T → OpId → Numbered T
  after_mark p id = record p { marked = if is_some (found p id) then with_number p.marked id.0 else p.marked }

  -- the number is marked no more
  abbrev pub after_unmark : Numbered T → OpId → Numbered T
  after_unmark p id = record p { marked = without_number p.marked id.0 }

  -- the first number from a given one on that is marked
  abbrev pub first_marked : Numbered T → OpId → Option OpId
  first_marked p from = first_number p.marked from.0

  -- of the numbers from a given one on, this is the least that is marked, and it has a value
  pub record IsFirstMarked (p : Numbered T) (from id : OpId) : Type 0 where
    pub has_mark : is_marked p id ≡ true
    pub has_value : IsSome (found p id)
    pub not_before : from.0 ≤ id.0
    pub least : (other : OpId) → from.0 ≤ other.0 → other.0 < id.0 → is_marked p other ≡ false

  -- no number from a given one on is marked
  abbrev pub HasNoMarked : Numbered T → OpId → Type 0
  HasNoMarked p from = (other : OpId) → from.0 ≤ other.0 → is_marked p other ≡ false
