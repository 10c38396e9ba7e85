use Rattle.std.proofs.Common.{ℕ, ◌<◌, [], ◌∷◌}
use Rattle.js_syntax.specs.Tree.{AreTrees}
use Rattle.js_trees.specs.Tree.{single, tree_of}
use Rattle.js_trees.proofs.laws.has_tree.Given as goal

abbrev pub invariant-loop-k : goal.invariant-loop-k
invariant-loop-k l = (m : ℕ) → m < l.k → AreTrees l.script (m ∷ []) (single (tree_of l.script m))
