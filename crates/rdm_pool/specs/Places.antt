-- How a pool keeps its values: each stands in the slab under a key, and a place ties the key to the
-- value's number and says whether the number is marked. A place whose value was taken is gone: it
-- keeps its number and has no key. No public clause cites this module.
use Rattle.std.specs.Prelude.{◌≡◌, ◌≢◌, ◌⊎◌, ℕ, zero, suc, ◌+◌, ◌*◌, ◌<◌, ◌≤◌, Bool, true, false, if◌then◌else◌, List, [], ◌∷◌, length, map, Option, Some, None, IsSome, Vec, vec_len, vec_capacity}
use Rattle.slab.specs.Slab.{Slab, get, slab_len}
use Rattle.rdm_pool.specs.Marks.{with_number, without_number}
use Rattle.rdm_pool.specs.Numbered.{Numbered}
use Rattle.rdm_pool.specs.declared.places.Place.{Place}
use Rattle.rdm_pool.specs.declared.Pool.TheInside.{Inside}

-- the numbers rise, from a least one on
abbrev pub Rises : ℕ → List Place → Type 0
Rises least [] = Unit {0}
Rises least (place ∷ rest) = (least ≤ place.number) × Rises (place.number + 1) rest

-- each number is below a bound
abbrev pub AreBelow : ℕ → List Place → Type 0
AreBelow bound [] = Unit {0}
AreBelow bound (place ∷ rest) = (place.number < bound) × AreBelow bound rest

-- where the old places rise, the new ones do
abbrev pub StayRising : List Place → List Place → Type 0
StayRising old new = Rises 0 old → Rises 0 new

-- where the old places are below a bound, the new ones are
abbrev pub StayBelow : List Place → List Place → Type 0
StayBelow old new = (bound : ℕ) → AreBelow bound old → AreBelow bound new

-- nothing moved, or all the memory was taken and now more than half of it is free
abbrev pub MovesSeldom : {Z : Type 0} → Vec Place Z → Vec Place Z → Type 0
MovesSeldom old new = (new ≡ old) ⊎ ((vec_len old ≡ vec_capacity old) × (2 * vec_len new < vec_capacity new))

-- no place has the number
abbrev pub IsNowhere : List Place → ℕ → Type 0
IsNowhere [] number = Unit {0}
IsNowhere (place ∷ rest) number = (place.number ≢ number) × IsNowhere rest number

-- the place at the index has the number
abbrev pub IsAt : List Place → ℕ → ℕ → Type 0
IsAt [] number i = ⊥
IsAt (place ∷ rest) number zero = place.number ≡ number
IsAt (place ∷ rest) number (suc i) = IsAt rest number i

-- a number with what it has, if anything, before others
abbrev pub with_entry : {A : Type 0} → ℕ → Option A → List (ℕ × A) → List (ℕ × A)
with_entry number None rest = rest
with_entry number (Some item) rest = (number, item) ∷ rest

-- the numbers and the keys of the places that are not gone
unfoldable pub live : List Place → List (ℕ × ℕ)
live [] = []
live (place ∷ rest) = with_entry place.number place.key (live rest)

-- a place as it stands among the marked ones: it has no key where it is not marked
abbrev pub if_marked : Place → Place
if_marked place = record place { key = if place.is_marked then place.key else None }

-- the numbers of some entries
abbrev pub numbers_of : {A : Type 0} → List (ℕ × A) → List ℕ
numbers_of entries = map (λ entry. entry.0) entries

-- the numbers of the places that are marked and not gone
abbrev pub marked_numbers : List Place → List ℕ
marked_numbers places = numbers_of (live (map if_marked places))

-- the marked numbers once a number that has an item is marked, or once a number is not
abbrev pub after_set_mark : {A : Type 0} → Bool → Option A → List ℕ → ℕ → List ℕ
after_set_mark true (Some item) marked number = with_number marked number
after_set_mark true None marked number = marked
after_set_mark false o marked number = without_number marked number

-- no number has the key
abbrev pub IsFree : List (ℕ × ℕ) → ℕ → Type 0
IsFree [] key = Unit {0}
IsFree (pair ∷ rest) key = (pair.1 ≢ key) × IsFree rest key

-- the end of a number is one more than it, and 0 where it has no key
abbrev pub end_of : ℕ → Option ℕ → ℕ
end_of number None = 0
end_of number (Some key) = number + 1

-- each is 0
abbrev pub AreZero : List ℕ → Type 0
AreZero [] = Unit {0}
AreZero (end ∷ rest) = (end ≡ 0) × AreZero rest

-- each place has its end, and what follows is 0
abbrev pub HaveEnds : List Place → List ℕ → Type 0
HaveEnds [] ends = AreZero ends
HaveEnds (place ∷ rest) [] = ⊥
HaveEnds (place ∷ rest) (end ∷ ends) = (end ≡ end_of place.number place.key) × HaveEnds rest ends

-- the ends of the old places are those of the new ones
abbrev pub StayEnding : List Place → List Place → Type 0
StayEnding old new = (ends : List ℕ) → HaveEnds old ends → HaveEnds new ends

-- each place has its end where it is marked and not gone, and all else is 0
abbrev pub HaveMarks : List Place → List ℕ → Type 0
HaveMarks places marks = HaveEnds (map if_marked places) marks

module _ {T : Type 0} where
  -- each number has a value, under a key that no other number has
  abbrev pub AreHeld : Slab T → List (ℕ × ℕ) → Type 0
  AreHeld values [] = Unit {0}
  AreHeld values (pair ∷ rest) = IsSome (get values pair.1) × IsFree rest pair.1 × AreHeld values rest

  -- the numbers with the values under their keys
  unfoldable pub listed : Slab T → List (ℕ × ℕ) → List (ℕ × T)
  listed values [] = []
  listed values (pair ∷ rest) = with_entry pair.0 (get values pair.1) (listed values rest)

  -- what a contract sees of a pool
  abbrev pub seen : Inside T → Numbered T
  seen p = record { list = listed p.values (live p.places.items); marked = marked_numbers p.places.items; size = p.size; made = p.made }

  -- what is true of a pool's fields
  pub record IsKept (p : Inside T) : Type 0 where
    pub held : AreHeld p.values (live p.places.items)
    pub rises : Rises 0 p.places.items
    pub given : AreBelow p.made p.places.items
    pub counted : slab_len p.values ≡ length (live p.places.items)
    pub within : slab_len p.values ≤ p.size
    pub has_slots : p.size ≤ p.values.capacity
    pub has_places : 2 * p.size ≤ vec_capacity p.places
    pub ended : HaveEnds p.places.items p.ends
    pub has_ends : vec_capacity p.places ≤ length p.ends
    pub mark_ended : HaveMarks p.places.items p.marks
    pub has_marks : vec_capacity p.places ≤ length p.marks
