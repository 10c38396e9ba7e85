use Rattle.std.proofs.Common.{◌≡◌, ◌++◌}
use Rattle.js_trees.specs.Tree.{kids_from, tree_of}
use Rattle.js_trees.specs.Declarations.{declarations}
use Rattle.js_trees.proofs.declare.declarations.Given as goal

abbrev pub invariant-loop-i : goal.invariant-loop-i
invariant-loop-i l = l.list ++ declarations (kids_from l.i ((tree_of l.script l.n).kids)) ≡ declarations ((tree_of l.script l.n).kids)
