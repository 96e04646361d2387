use Rattle.std.specs.Prelude.{true}
use Rattle.rdm_bins.specs.Shelf.{values_on}
use Rattle.rdm_bins.proofs.Gathered.{IsKept}
use Rattle.rdm_bins.proofs.shelf.renewed.Given as goal

-- the shelf has the items so far
abbrev pub invariant-loop-place : goal.invariant-loop-place
invariant-loop-place g l = IsKept (λ x. true) l.items.items (values_on l.shelf) l.place
