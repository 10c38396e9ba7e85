use Rattle.std.proofs.Common.{below_more}
use Rattle.js_trees.proofs.TreeLemmas.{tree_of-tree}
use Rattle.js_trees.proofs.laws.has_tree.Goals as goal

pub loop-k-preserved : goal.loop-k-preserved
loop-k-preserved c =
    below_more _ _ c.loop-k.invariant (tree_of-tree c.args.script.now c.loop-k.k c.form-node.result.now c.form-node.ensures.node c.form-node.ensures.kids c.loop-k.invariant)
