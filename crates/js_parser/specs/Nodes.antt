-- The nodes that a tree stands for: each form under its own number.
-- This project's own; docs/SCRIPTS.md, "Nodes and places".
use Rattle.std.specs.Prelude.{◌≡◌, ℕ, zero, suc, List, [], ◌∷◌, ◌++◌, nat_eq, Option, None, Some, if◌then◌else◌}
use Rattle.std.specs.Option.{option_or, unwrap_or}
use Rattle.js_syntax.specs.declared.node.Node.{Node}
use Rattle.js_syntax.specs.Tree.{Head, Trees, nothing, tree, IsTreeOf}
use Rattle.js_trees.specs.Tree.{vacant}

-- the numbers of the forms that stand side by side
abbrev pub numbers : Trees → List ℕ
numbers nothing = []
numbers (tree head kids rest) = head.number_of_node ∷ numbers rest

-- the node that a form is: what it has of its own, and its parts by number
abbrev pub node_of : Head → Trees → Node
node_of head kids = record {
  kind = head.kind;
  name = head.name;
  name_place = head.name_place;
  names = head.names;
  places = head.places;
  number = head.value;
  kids = numbers kids;
  place = head.place;
}

-- the node of the form with the number n, if there is one among these trees
abbrev pub node_in : ℕ → Trees → Option Node
node_in n nothing = None
node_in n (tree head kids rest) =
    if nat_eq n head.number_of_node then Some (node_of head kids) else option_or (node_in n kids) (node_in n rest)

-- the first n nodes; a number that no form has stands for nothing
abbrev pub first_nodes : ℕ → Trees → List Node
first_nodes zero t = []
first_nodes (suc n) t = first_nodes n t ++ unwrap_or (node_in n t) vacant ∷ []

-- the nodes of a script's tree: its root stands last
abbrev pub nodes_of : Trees → List Node
nodes_of nothing = []
nodes_of (tree head kids rest) = first_nodes (suc head.number_of_node) (tree head kids rest)

-- these nodes are those of their tree, and no others
abbrev pub AreOfTheirTree : List Node → Type 0
AreOfTheirTree nodes = (t : Trees) → IsTreeOf nodes t → nodes ≡ nodes_of t
