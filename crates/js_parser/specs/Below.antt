-- Nodes whose kids stand before them. No caller needs this.
-- This project's own; docs/SCRIPTS.md, "Nodes and places".
use Rattle.std.specs.Prelude.{ℕ, ◌+◌, List, [], ◌∷◌}
use Rattle.js_syntax.specs.declared.node.Node.{Node}
use Rattle.js_syntax.specs.Shape.{AreBelow}

-- from node k on, each kid stands below its parent
abbrev pub AreBelowFrom : ℕ → List Node → Type 0
AreBelowFrom k [] = Unit {0}
AreBelowFrom k (node ∷ nodes) = AreBelow (node.kids) k × AreBelowFrom (k + 1) nodes
