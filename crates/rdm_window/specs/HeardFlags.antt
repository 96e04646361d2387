-- How a window keeps what was heard.
use Rattle.std.specs.Prelude.{◌≡◌, ℕ, ◌^◌, ◌≤◌, Bool, false, ◌&&◌, ◌||◌, nat_lt, nat_le}
use Rattle.std.specs.Ordering.{nat_cmp}
use Rattle.std.specs.FinSet as set
use Rattle.rdm_window.specs.Numbers.{numbers_where}
use Rattle.rdm_window.specs.Marks.{Marks}

-- a number from the first on was heard: it is below the next one, or it is marked
unfoldable pub is_heard : (first : ℕ) → Marks → ℕ → Bool
is_heard first ring n = nat_le first n && (nat_lt n ring.next || set.contains ring.marked n)

-- the numbers of 32 bits that were heard
abbrev pub heard_of : (first : ℕ) → Marks → set.FinSet nat_cmp
heard_of first ring = numbers_where (2 ^ 32) (is_heard first ring)

-- the ring begins at the next number, which is not marked
pub record IsWindow (first : ℕ) (ring : Marks) : Type 0 where
  pub from : first ≤ ring.next
  pub fits : ring.next ≤ 2 ^ 32
  pub missing : set.contains ring.marked ring.next ≡ false
