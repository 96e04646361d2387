use Rattle.std.proofs.Common.{◌≡◌, ◌≤◌, ◌<◌, ◌*◌, ◌/◌, set, drop}
use Rattle.rdm_pool.proofs.Tree.{IsTreeBut}
use Rattle.rdm_pool.proofs.ends.set_leaf.Given as goal

abbrev pub invariant-loop-node : goal.invariant-loop-node
invariant-loop-node l = record {
  from_one : 1 ≤ l.node;
  within : l.node < 2 * l.leaves;
  but : IsTreeBut (l.node / 2) l.leaves l.tree;
  leaves : drop l.leaves l.tree ≡ set (drop l.leaves l.fn.tree) l.at l.end;
}

abbrev pub decreases-loop-node : goal.decreases-loop-node
decreases-loop-node l = l.node
