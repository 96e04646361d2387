use Rattle.std.proofs.Common.{◌≡◌, ◌*◌, sym, arith}
use Rattle.rdm_pool.proofs.Tree.{none_in_tree, way_begins, way_left, way_right, way_ends, way_from_one, power_some}
use Rattle.rdm_pool.proofs.ends.first_leaf.Goals as goal

pub returns-then-tree-number-clause-answer : goal.returns-then-tree-number-clause-answer
returns-then-tree-number-clause-answer c = sym (none_in_tree c.args.leaves c.args.number c.args.tree.now c.requires.nodes (power_some c.args.leaves c.requires.leaves) c.requires.tree c.if-tree-number.true)

pub loop-node-init : goal.loop-node-init
loop-node-init c = way_begins c.args.leaves c.args.tree.now c.args.number c.requires.leaves c.if-tree-number.false

pub loop-node-preserved-then-tree-node : goal.loop-node-preserved-then-tree-node
loop-node-preserved-then-tree-node c =
    let twice : c.loop-node.node * 2 ≡ 2 * c.loop-node.node = omega arith in
    let low = rw twice at c.if-tree-node.true in
    rw twice (way_right c.args.leaves c.args.tree.now c.args.number c.loop-node.node c.loop-node.invariant c.requires.tree (way_from_one _ _ _ _ c.loop-node.invariant) c.loop-node-test.true low)

pub loop-node-preserved : goal.loop-node-preserved
loop-node-preserved c =
    let twice : c.loop-node.node * 2 ≡ 2 * c.loop-node.node = omega arith in
    let high = rw twice at c.if-tree-node.false in
    rw twice (way_left c.args.leaves c.args.tree.now c.args.number c.loop-node.node c.loop-node.invariant c.requires.tree c.loop-node-test.true high)

pub returns-clause-answer : goal.returns-clause-answer
returns-clause-answer c = sym (way_ends c.args.leaves c.args.tree.now c.args.number c.loop-node.node c.loop-node.invariant c.requires.nodes c.loop-node-test.false)
