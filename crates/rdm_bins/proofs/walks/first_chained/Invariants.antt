use Rattle.std.proofs.Common.{◌≡◌, ℕ, false, length}
use Rattle.std.specs.Prelude.{◌&&◌, Some}
use Rattle.rdm_bins.specs.Shelf.{item_at, is_in, is_in_at, passes}
use Rattle.rdm_bins.proofs.Along.{IsThere, IsBefore, ahead}
use Rattle.rdm_bins.proofs.walks.first_chained.Given as goal

-- the next place is one of the chain, and no place before it holds an item of the bin that passes
abbrev pub invariant-loop-next : goal.invariant-loop-next
invariant-loop-next g l = record {
  there : IsThere (is_in_at g.bin_of l.items.items l.fn.bin) l.next;
  passed : (k : ℕ) → IsBefore k l.next → passes (λ x. is_in g.bin_of l.fn.bin (Some x) && g.P.Criterion.test l.test x) (item_at l.items.items k) ≡ false;
}

-- how far the walk has to go at most
abbrev pub decreases-loop-next : goal.decreases-loop-next
decreases-loop-next g l = ahead (length l.items.items) l.next
