use Rattle.std.proofs.Common.{◌-◌}
use Rattle.rdm_pool.proofs.Tree.{IsWayDown}
use Rattle.rdm_pool.proofs.ends.first_leaf.Given as goal

abbrev pub invariant-loop-node : goal.invariant-loop-node
invariant-loop-node l = IsWayDown l.leaves l.tree l.number l.node

abbrev pub decreases-loop-node : goal.decreases-loop-node
decreases-loop-node l = l.leaves - l.node
