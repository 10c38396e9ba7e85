use Rattle.js_trees.proofs.TreeLemmas.{tree_of-node, formed_tree, kid_count-node, kid-node}
use Rattle.js_trees.proofs.form.form.Goals as goal

pub returns-clause-tree : goal.returns-clause-tree
returns-clause-tree c = tree_of-node c.args.script.now c.args.n c.node.result.now c.node.ensures.node c.node.ensures.kids

pub returns-clause-formed : goal.returns-clause-formed
returns-clause-formed c = formed_tree c.args.script.now c.args.n c.node.result.now (returns-clause-tree c) c.node.ensures.formed

pub returns-clause-count : goal.returns-clause-count
returns-clause-count c = kid_count-node c.args.script.now c.args.n c.node.result.now (returns-clause-tree c)

pub returns-clause-each : goal.returns-clause-each
returns-clause-each c = kid-node c.args.script.now c.args.n c.node.result.now (returns-clause-tree c)
