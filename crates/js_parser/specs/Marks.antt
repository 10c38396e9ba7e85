-- Which nodes of a script its root reaches, by marks on their numbers. No caller needs this.
-- This project's own; docs/SCRIPTS.md, "From a text to a script".
use Rattle.std.specs.Prelude.{ℕ, zero, suc, ◌-◌, ◌<◌, Bool, true, false, List, [], ◌∷◌, ◌++◌, length, replicate, slice_index_or, slice_set}
use Rattle.js_syntax.specs.declared.node.Node.{Node}
use Rattle.js_syntax.specs.Shape.{AreBelow}
use Rattle.js_trees.specs.Tree.{node_at, vacant}

-- ---- marks

-- the number is marked
abbrev pub is_marked : List Bool → ℕ → Bool
is_marked marks n = slice_index_or marks n false

-- these numbers are marked too
abbrev pub with_marks : List ℕ → List Bool → List Bool
with_marks [] marks = marks
with_marks (n ∷ numbers) marks = with_marks numbers (slice_set marks n true)

-- a node that is marked passes its mark on to its kids
abbrev pub passed_on : Bool → Node → List Bool → List Bool
passed_on true node marks = with_marks (node.kids) marks
passed_on false node marks = marks

-- the first n nodes pass their marks on, the last of them first
unfoldable pub marks_below : List Node → ℕ → List Bool → List Bool
marks_below nodes zero marks = marks
marks_below nodes (suc n) marks = marks_below nodes n (passed_on (is_marked marks n) (node_at nodes n) marks)

-- at first the root alone is marked
abbrev pub root_mark : ℕ → List Bool
root_mark count = slice_set (replicate count false) (count - 1) true

-- the nodes that the root reaches
abbrev pub marks_of : List Node → List Bool
marks_of nodes = marks_below nodes (length nodes) (root_mark (length nodes))

-- ---- nodes

-- the kids of each node stand below it
abbrev pub AreDescending : List Node → Type 0
AreDescending nodes = (n : ℕ) → n < length nodes → AreBelow ((node_at nodes n).kids) n

-- a marked node stays, and another stands for nothing
abbrev pub kept : Bool → Node → Node
kept true node = node
kept false node = vacant

-- what stays of the first n nodes
unfoldable pub kept_below : List Node → List Bool → ℕ → List Node
kept_below nodes marks zero = []
kept_below nodes marks (suc n) = kept_below nodes marks n ++ kept (is_marked marks n) (node_at nodes n) ∷ []
