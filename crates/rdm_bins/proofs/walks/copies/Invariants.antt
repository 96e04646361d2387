use Rattle.rdm_bins.proofs.Gathered.{IsKept}
use Rattle.rdm_bins.proofs.walks.copies.Given as goal

-- the copies are those of the items so far that pass
abbrev pub invariant-loop-place : goal.invariant-loop-place
invariant-loop-place g l = IsKept (g.P.Criterion.test l.test) l.items.items l.copies.items l.place
