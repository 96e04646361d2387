-- Marked numbers, as a ring of flags and a hash set keep them.
use Rattle.std.specs.Prelude.{◌≡◌, ℕ, ◌+◌, ◌-◌, ◌%◌, ◌^◌, ◌<◌, ◌≤◌, Bool, true, false, not, ◌&&◌, ◌==◌, nat_eq, nat_lt, nat_le, if◌then◌else◌, List, slice_index_or, refl}
use Rattle.std.specs.Ordering.{nat_cmp}
use Rattle.std.specs.List.{list_any}
use Rattle.std.specs.Coded.{Coded, code_by, coded×, coded_ℕ}
use Rattle.std.specs.FinSet as set
use Rattle.rdm_window.specs.Numbers.{numbers_where}

-- where the ring begins, the numbers from there on that are marked, and how many more can be marked without memory
pub record Marks : Type 0 where
  pub next : ℕ
  pub marked : set.FinSet nat_cmp
  pub room : ℕ

-- marks are stored as the tuple of their fields
abbrev pub marks_code : Coded Marks
marks_code =
    code_by
    (ℕ × (set.FinSet nat_cmp × ℕ))
    (coded× coded_ℕ (coded× (set.code coded_ℕ) coded_ℕ))
    (λ m. (m.next, (m.marked, m.room)))
    (λ p. record { next = p.0; marked = p.1.0; room = p.1.1 })
    (λ _. refl)

-- nothing is marked
abbrev pub none_marked : ℕ → Marks
none_marked next = record { next = next; marked = set.empty; room = 0 }

-- one more number can be marked without memory
abbrev pub with_room : Marks → Marks
with_room m = record m { room = m.room + 1 }

-- a reservation is spent
abbrev pub with_spent : Marks → Marks
with_spent m = record m { room = m.room - 1 }

-- one more number is marked
abbrev pub with_mark : Marks → ℕ → Marks
with_mark m n = record m { marked = set.insert m.marked n }

-- the ring begins one later, and its first number is no more marked
abbrev pub passed : Marks → Marks
passed m = record m { next = m.next + 1; marked = set.remove m.marked m.next }

-- how many numbers the ring has
abbrev pub ring_size : ℕ
ring_size = 1024

-- the flag of a number of the ring
abbrev pub flag_of : List Bool → ℕ → Bool
flag_of flags n = slice_index_or flags (n % ring_size) false

-- the number is among the later ones
abbrev pub has : (later : List ℕ) → ℕ → Bool
has later n = list_any (nat_eq n) later

-- a number is marked: it is in the ring and its flag is set, or it is later and in the set
unfoldable pub is_marked : (next : ℕ) → (flags : List Bool) → (later : List ℕ) → ℕ → Bool
is_marked next flags later n = nat_le next n && (if nat_lt n (next + ring_size) then flag_of flags n else has later n)

-- the numbers of 32 bits that are marked
abbrev pub marked_of : (next : ℕ) → (flags : List Bool) → (later : List ℕ) → set.FinSet nat_cmp
marked_of next flags later = numbers_where (2 ^ 32) (is_marked next flags later)

-- the set has later numbers of 32 bits alone, and no flag of a number past 32 bits is set
pub record IsRing (next : ℕ) (flags : List Bool) (later : List ℕ) : Type 0 where
  pub fits : next ≤ 2 ^ 32
  pub later_on : (k : ℕ) → has later k ≡ true → (next + ring_size ≤ k) × (k < 2 ^ 32)
  pub numbers : (k : ℕ) → next ≤ k → k < next + ring_size → flag_of flags k ≡ true → k < 2 ^ 32

-- a number is taken out of a set, if it has 32 bits and was there
pub record TakesOut (old new : List ℕ) (n : ℕ) (was_there : Bool) : Type 0 where
  pub answer : was_there ≡ (nat_lt n (2 ^ 32) && has old n)
  pub left : (k : ℕ) → has new k ≡ (not (nat_lt n (2 ^ 32) && k == n) && has old k)

-- the ring begins later: each number that it passed was marked, and the others are marked as they were
pub record IsAdvanced (old new : Marks) : Type 0 where
  pub from : old.next ≤ new.next
  pub room : new.room ≡ old.room
  pub passed : (k : ℕ) → old.next ≤ k → k < new.next → set.contains old.marked k ≡ true
  pub left : (k : ℕ) → new.next ≤ k → set.contains new.marked k ≡ set.contains old.marked k
