-- Answers that are owed, in order, and the room for more.
use Rattle.std.specs.Prelude.{ℕ, ◌+◌, ◌-◌, not, List, [], ◌∷◌, ◌++◌, filter, drop}
use Rattle.rdm_num.specs.Lives.{same_life}
use Rattle.rdm_num.specs.declared.numbers.Life.{Life}
use Rattle.rdm_owed.specs.declared.Owed.{Owed}

-- the answers that are owed, in the order in which they came to be, and for how many more there is memory
pub record Owing (T : Type 0) : Type 0 where
  pub owed : List (Owed T)
  pub room : ℕ

module _ {T : Type 0} where
  -- before anything is owed
  abbrev pub nothing_owed : Owing T
  nothing_owed = record { owed = []; room = 0 }

  -- with room for one answer more
  abbrev pub with_room : Owing T → Owing T
  with_room o = record o { room = o.room + 1 }

  -- with room for so many answers more
  abbrev pub with_rooms : Owing T → (more : ℕ) → Owing T
  with_rooms o more = record o { room = o.room + more }

  -- with room for one answer less
  abbrev pub without_room : Owing T → Owing T
  without_room o = record o { room = o.room - 1 }

  -- with room for so many answers less
  abbrev pub without_rooms : Owing T → (count : ℕ) → Owing T
  without_rooms o count = record o { room = o.room - count }

  -- one answer more is owed, after the others, in room that there was
  abbrev pub with_answer : Owing T → Life → T → Owing T
  with_answer o to answer = record { owed = o.owed ++ record { to = to; answer = answer } ∷ []; room = o.room - 1 }

  -- what is left of the first answer, before the others
  unfoldable pub first_left : List (Owed T) → T → List (Owed T)
  first_left [] answer = []
  first_left (first ∷ others) answer = record { to = first.to; answer = answer } ∷ others

  -- the first answer gave way to what is left of it
  abbrev pub with_first : Owing T → T → Owing T
  with_first o answer = record o { owed = first_left o.owed answer }

  -- the first answer went out
  abbrev pub without_first : Owing T → Owing T
  without_first o = record o { owed = drop 1 o.owed }

  -- nothing is owed to the life
  abbrev pub without_life : Owing T → Life → Owing T
  without_life o life = record o { owed = filter (λ (a : Owed T). not (same_life a.to life)) o.owed }
