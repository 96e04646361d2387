-- Sets of the numbers below a bound.
use Rattle.std.specs.Prelude.{ℕ, zero, suc, Bool, if◌then◌else◌}
use Rattle.std.specs.Ordering.{nat_cmp}
use Rattle.std.specs.FinSet as set

-- the numbers below n that pass
unfoldable pub numbers_where : ℕ → (ℕ → Bool) → set.FinSet nat_cmp
numbers_where zero p = set.empty
numbers_where (suc n) p = if p n then set.insert (numbers_where n p) n else numbers_where n p
