-- The early fault of a script: the least of the faults of its tree.
-- This project's own; docs/SCRIPTS.md, "Early faults".
use Rattle.std.specs.Prelude.{◌≡◌, false, List, []}
use Rattle.js_syntax.specs.declared.around.Around.{Around}
use Rattle.js_syntax.specs.declared.fault.Fault.{Fault}
use Rattle.js_syntax.specs.declared.node.Node.{Node}
use Rattle.js_syntax.specs.Faults.{faults_of}
use Rattle.js_syntax.specs.Order.{IsLeast}
use Rattle.js_syntax.specs.Tree.{Trees, IsTreeOf}

-- around a script there is neither a function nor a loop
abbrev pub outside : Around
outside = record { in_function = false; in_loop = false }

-- the early fault of the tree of these nodes is the least of its faults
abbrev pub HasEarlyFault : List Node → Fault → Type 0
HasEarlyFault nodes fault = (t : Trees) × IsTreeOf nodes t × IsLeast (faults_of outside t) fault

-- the tree of these nodes has no early fault
abbrev pub HasNoEarlyFault : List Node → Type 0
HasNoEarlyFault nodes = (t : Trees) → IsTreeOf nodes t → faults_of outside t ≡ []
