use Rattle.std.proofs.Common.{◌≡◌, ℕ, ◌<◌, false}
use Rattle.rdm_bins.specs.Shelf.{item_at, passes}
use Rattle.rdm_bins.proofs.walks.first_item.Given as goal

-- no place so far holds an item that passes
abbrev pub invariant-loop-place : goal.invariant-loop-place
invariant-loop-place g l = (k : ℕ) → k < l.place → passes (g.P.Criterion.test l.test) (item_at l.items.items k) ≡ false
