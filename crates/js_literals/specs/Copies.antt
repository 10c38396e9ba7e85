-- The copy that the tree of a literal stands for.
-- This project's own; docs/SCRIPTS.md, "Literals and arguments".
use Rattle.std.specs.Prelude.{◌≡◌, ℕ, ◌+◌, ℤ, pos, neg_ℤ, Bool, true, false, List, [], ◌∷◌, length, filter, flat_map, zip, unwrap_or, if◌then◌else◌}
use Rattle.std.specs.Map.{values_of}
use Rattle.ivm_text.specs.declared.copies.Copy.{Copy}
use Rattle.ivm_text.specs.declared.copies.CopyNode.{CopyNode}
use Rattle.ivm_text.specs.declared.copies.CopyNode.TheVariants as nodes
use Rattle.ivm_text.specs.declared.copies.Leaf.{Leaf}
use Rattle.ivm_text.specs.declared.copies.Leaf.TheVariants as leaves
use Rattle.js_syntax.specs.declared.kind.Kind.{Kind}
use Rattle.js_syntax.specs.declared.kind.Kind.TheVariants as kinds
use Rattle.js_syntax.specs.Tree.{Head, Trees, nothing, tree}
use Rattle.ivm_text.specs.Keys.{with_value}
use Rattle.ivm_text.specs.KeyOrder.{key_order}

-- a tree: what its root has, and the trees below
pub record Tree : Type 0 where
  pub head : Head
  pub kids : Trees

-- the trees that stand side by side
abbrev pub side_by_side : Trees → List Tree
side_by_side nothing = []
side_by_side (tree head kids rest) = record { head = head; kids = kids } ∷ side_by_side rest

abbrev pub parts : Tree → List Tree
parts t = side_by_side t.kids

-- ---- objects

-- keys given their values, one after the other: a key that is given twice keeps its first place and
-- its last value
abbrev pub given : {V : Type 0} → List (List ℕ × V) → List (List ℕ × V) → List (List ℕ × V)
given pairs [] = pairs
given pairs (p ∷ ps) = given (with_value pairs p.0 p.1) ps

-- the pairs of an object with these keys and values, in key order
abbrev pub pairs_of : {V : Type 0} → List (List ℕ) → List V → List (List ℕ × V)
pairs_of keys values = key_order (given [] (zip keys values))

abbrev pub properties : Tree → List (List ℕ × Tree)
properties t = pairs_of t.head.names (parts t)

-- ---- nodes

-- strings, arrays and objects are nodes of a copy
abbrev pub is_node_kind : Kind → Bool
is_node_kind kinds.Text = true
is_node_kind kinds.Array = true
is_node_kind kinds.Object = true
is_node_kind _ = false

abbrev pub is_node : Tree → Bool
is_node t = is_node_kind t.head.kind

abbrev pub is_array : Kind → Bool
is_array kinds.Array = true
is_array _ = false

abbrev pub is_object : Kind → Bool
is_object kinds.Object = true
is_object _ = false

-- what a node holds, in order: an array its elements, an object its values
abbrev pub members : Tree → List Tree
members t = if is_array t.head.kind then parts t else if is_object t.head.kind then values_of (properties t) else []

-- the nodes that a node holds itself
abbrev pub inner_nodes : Tree → List Tree
inner_nodes t = filter is_node (members t)

-- ---- leaves

-- what a literal of one token stands for, by its kind and its number
abbrev pub constant : Kind → ℤ → Leaf
constant kinds.Null value = leaves.Null
constant kinds.True value = leaves.Bool true
constant kinds.False value = leaves.Bool false
constant kinds.Num value = leaves.Num value
constant _ value = leaves.Undefined

abbrev pub is_minus : Kind → Bool
is_minus kinds.Minus = true
is_minus _ = false

abbrev pub value_of_first : List Tree → ℤ
value_of_first [] = pos 0
value_of_first (t ∷ ts) = t.head.value

-- a `-` stands for the negative of the number behind it
abbrev pub primitive : Tree → Leaf
primitive t =
    if is_minus t.head.kind then leaves.Num (neg_ℤ (value_of_first (parts t))) else constant t.head.kind t.head.value

-- where the next node has the number n: the leaf of a literal, and the number of the node after it
abbrev pub leaf_at : ℕ → Tree → Leaf
leaf_at n t = if is_node t then leaves.Node n else primitive t

abbrev pub past : ℕ → Tree → ℕ
past n t = if is_node t then n + 1 else n

-- ---- the copy

abbrev pub leaves_from : ℕ → List Tree → List Leaf
leaves_from n [] = []
leaves_from n (t ∷ ts) = leaf_at n t ∷ leaves_from (past n t) ts

abbrev pub pairs_from : ℕ → List (List ℕ × Tree) → List (List ℕ × Leaf)
pairs_from n [] = []
pairs_from n (p ∷ ps) = (p.0, leaf_at n p.1) ∷ pairs_from (past n p.1) ps

-- a node, where n is the number of the first node that it holds: an array, an object, or else a
-- string
abbrev pub node_at : ℕ → Tree → CopyNode
node_at n t =
    if is_array t.head.kind then nodes.Array (leaves_from n (parts t))
    else if is_object t.head.kind then nodes.Plain (pairs_from n (properties t))
    else nodes.Text (unwrap_or t.head.name [])

-- nodes one after the other, where n is the number of the first node that they hold
abbrev pub nodes_from : ℕ → List Tree → List CopyNode
nodes_from n [] = []
nodes_from n (t ∷ ts) = node_at n t ∷ nodes_from (n + length (inner_nodes t)) ts

-- the nodes of a copy in the order in which they are first mentioned: the root's first, and then
-- those that the nodes of this list hold, the first node's first
pub record AreNodesOf (root : Tree) (told : List CopyNode) : Type 0 where
  pub order : List Tree
  pub is_order : order ≡ root ∷ flat_map inner_nodes order
  pub are_told : told ≡ nodes_from 1 order

-- the copy of a literal: a leaf alone, or nodes
pub data IsCopyOf : Tree → Copy → Type 0 where
  leaf_alone : {t : Tree} → is_node t ≡ false → IsCopyOf t (record { nodes = []; root = primitive t })
  in_nodes : {t : Tree} {told : List CopyNode} → is_node t ≡ true → AreNodesOf t told → IsCopyOf t (record { nodes = told; root = leaves.Node 0 })
