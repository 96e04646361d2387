-- What a pool ends as, where a `&mut` to one of its values is returned.
use Rattle.std.specs.Prelude.{Option}
use Rattle.std.specs.Borrow.{LendsIf, Fml, RattleType, MutBor}
use Rattle.rdm_num.specs.declared.numbers.OpId.{OpId}
use Rattle.rdm_pool.specs.Numbered.{Numbered, after_write}
use Rattle.rdm_pool.specs.contracts.Pool.{the_row}

-- once the borrow r ends, the number has the last value written through r; at `None` the pool stays
-- as it is
abbrev pub lends_found : (T : RattleType) → MutBor (Numbered T.Denot) → OpId → Option (MutBor T.Denot) → Fml
lends_found T s id r = LendsIf (the_row T) T s r (after_write s.now id) s.now
