-- What slots end as, where a `&mut` to one of their values is returned.
use Rattle.std.specs.Prelude.{ℕ, Option}
use Rattle.std.specs.Borrow.{LendsIf, Fml, RattleType, MutBor}
use Rattle.rdm_slots.specs.Places.{Slots, with_value}
use Rattle.rdm_slots.specs.contracts.Slots.{the_row}

-- once the borrow r ends, the place has the last value written through r; at `None` the slots stay
-- as they are
abbrev pub lends_value : (T : RattleType) → MutBor (Slots T.Denot) → ℕ → Option (MutBor T.Denot) → Fml
lends_value T s place r = LendsIf (the_row T) T s r (with_value s.now place) s.now
