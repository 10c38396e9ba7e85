use Rattle.std.proofs.Common.{◌≡◌, ◌++◌, length, map}
use Rattle.js_trees.specs.Named.{declared_name}
use Rattle.js_trees.proofs.declare.add_names.Given as goal

abbrev pub invariant-loop-left : goal.invariant-loop-left
invariant-loop-left l = l.list ++ map (declared_name l.constant) l.left ≡ l.fn.list ++ map (declared_name l.constant) l.names

abbrev pub decreases-loop-left : goal.decreases-loop-left
decreases-loop-left l = length l.left
