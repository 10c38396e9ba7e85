-- The trees under the nodes of a script.
-- This project's own: a script's nodes stand in one list, and this says which trees they are;
-- docs/SCRIPTS.md.
use Rattle.std.specs.Prelude.{◌≡◌, ℕ, ◌+◌, List, [], ◌∷◌, length, slice_get, Option, Some, ℤ}
use Rattle.js_syntax.specs.declared.kind.Kind.{Kind}
use Rattle.js_syntax.specs.declared.node.Node.{Node}

-- what a node has beside its kids, and its number
pub record Head : Type 0 where
  pub number_of_node : ℕ
  pub kind : Kind
  pub name : Option (List ℕ)
  pub name_place : ℕ
  pub names : List (List ℕ)
  pub places : List ℕ
  pub value : ℤ
  pub place : ℕ

-- trees, each a head with the trees of its kids, and the trees behind it
pub data Trees : Type 0 where
  nothing : Trees
  tree : Head → Trees → Trees → Trees

abbrev pub head_of : ℕ → Node → Head
head_of n node = record {
  number_of_node = n;
  kind = node.kind;
  name = node.name;
  name_place = node.name_place;
  names = node.names;
  places = node.places;
  value = node.number;
  place = node.place;
}

-- the trees under the nodes with these numbers
pub data AreTrees (nodes : List Node) : List ℕ → Trees → Type 0 where
  no_trees : AreTrees nodes [] nothing
  some_trees : {n : ℕ} {ns : List ℕ} {node : Node} {kids rest : Trees} → slice_get nodes n ≡ Some node
      → AreTrees nodes (node.kids) kids → AreTrees nodes ns rest
      → AreTrees nodes (n ∷ ns) (tree (head_of n node) kids rest)

-- the tree of a script: that under its root, which is the last node
abbrev pub IsTreeOf : List Node → Trees → Type 0
IsTreeOf nodes t = (n : ℕ) × (n + 1 ≡ length nodes) × AreTrees nodes (n ∷ []) t
