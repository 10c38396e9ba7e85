-- The tree under a node of a script, as a function of the script's nodes.
-- This project's own: a script's nodes stand in one list, each kid below its parent;
-- docs/SCRIPTS.md, "Nodes and places".
use Rattle.std.specs.Prelude.{ℕ, zero, suc, pos, List, [], ◌∷◌, nat_lt, length, ◌-◌, slice_index_or, None, if◌then◌else◌}
use Rattle.js_syntax.specs.declared.kind.Kind.TheVariants as kinds
use Rattle.js_syntax.specs.declared.node.Node.{Node}
use Rattle.js_syntax.specs.Tree.{Head, Trees, nothing, tree, head_of}

-- a form: what it has of its own, and its parts
pub record Tree : Type 0 where
  pub head : Head
  pub kids : Trees

-- ---- parts

-- what stands where there is no part
abbrev pub absent_head : Head
absent_head = record { number_of_node = 0; kind = kinds.Absent; name = None; name_place = 0; names = []; places = []; value = pos 0; place = 0 }

abbrev pub absent : Tree
absent = record { head = absent_head; kids = nothing }

-- part i, counted from 0
abbrev pub kid : ℕ → Trees → Tree
kid i nothing = absent
kid zero (tree head kids rest) = record { head = head; kids = kids }
kid (suc i) (tree head kids rest) = kid i rest

-- how many parts there are
abbrev pub kid_count : Trees → ℕ
kid_count nothing = 0
kid_count (tree head kids rest) = suc (kid_count rest)

-- the parts from part i on
abbrev pub kids_from : ℕ → Trees → Trees
kids_from zero kids = kids
kids_from (suc i) nothing = nothing
kids_from (suc i) (tree head kids rest) = kids_from i rest

-- ---- the tree of a node

-- the trees that `at` gives for these numbers, one behind the other
abbrev pub trees_by : (ℕ → Tree) → List ℕ → Trees
trees_by at [] = nothing
trees_by at (n ∷ numbers) = tree ((at n).head) ((at n).kids) (trees_by at numbers)

-- the node with the number n, or one that stands for none
abbrev pub vacant : Node
vacant = record { kind = kinds.Absent; name = None; name_place = 0; names = []; places = []; number = pos 0; kids = []; place = 0 }

abbrev pub node_at : List Node → ℕ → Node
node_at nodes n = slice_index_or nodes n vacant

-- the tree of a node whose kids have the trees that `at` gives
abbrev pub tree_by : (ℕ → Tree) → ℕ → Node → Tree
tree_by at n node = record { head = head_of n node; kids = trees_by at (node.kids) }

-- what `at` gives for a number below n; no other number has a tree
abbrev pub only_below : ℕ → (ℕ → Tree) → ℕ → Tree
only_below n at k = if nat_lt k n then at k else absent

-- the tree under node n, at most so many levels deep; a part is the tree of a kid that stands below
-- its parent
unfoldable pub tree_within : ℕ → List Node → ℕ → Tree
tree_within zero nodes n = absent
tree_within (suc levels) nodes n = tree_by (only_below n (tree_within levels nodes)) n (node_at nodes n)

-- the tree under node n: it is at most n + 1 levels deep, since each kid stands below its parent
unfoldable pub tree_of : List Node → ℕ → Tree
tree_of nodes n = tree_within (suc n) nodes n

-- ---- as a list of one

-- the tree, with nothing behind it
abbrev pub single : Tree → Trees
single t = tree (t.head) (t.kids) nothing

-- the tree of a script: that under its root, which is the last node
abbrev pub script_tree : List Node → Trees
script_tree nodes = single (tree_of nodes (length nodes - 1))
