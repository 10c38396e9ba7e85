-- The trees under the nodes of a script, by number, and what is known of them. No caller needs this.
-- This project's own; docs/SCRIPTS.md, "Nodes and places".
use Rattle.std.specs.Prelude.{◌≡◌, ℕ, ◌<◌, ℤ, pos, true, List, [], ◌∷◌, ◌++◌, map, length, filter, All}
use Rattle.js_syntax.specs.declared.node.Node.{Node}
use Rattle.js_syntax.specs.Tree.{Trees, nothing, tree}
use Rattle.js_parser.specs.View.{grown, root_at}
use Rattle.js_literals.specs.Copies.{Tree, is_node}
use Rattle.js_literals.specs.Told.{is_call, Passes}
use Rattle.js_literals.specs.declared.argument.FormKind.{FormKind}

-- the tree under a node
abbrev pub tree_at : List Node → ℕ → Tree
tree_at nodes n = record { head = (root_at (grown [] nodes) n).head; kids = (root_at (grown [] nodes) n).kids }

abbrev pub trees_at : List Node → List ℕ → List Tree
trees_at nodes ns = map (tree_at nodes) ns

-- ---- numbers

-- it is not negative, so it has a negative
abbrev pub IsNatural : ℤ → Type 0
IsNatural z = (n : ℕ) × (z ≡ pos n)

abbrev pub HaveNaturals : Trees → Type 0
HaveNaturals nothing = Unit {0}
HaveNaturals (tree head kids rest) = IsNatural head.value × HaveNaturals kids × HaveNaturals rest

-- the values in a tree are not negative
abbrev pub HasNaturals : Tree → Type 0
HasNaturals t = IsNatural t.head.value × HaveNaturals t.kids

abbrev pub AllHaveNaturals : List Tree → Type 0
AllHaveNaturals [] = Unit {0}
AllHaveNaturals (t ∷ ts) = HasNaturals t × AllHaveNaturals ts

-- a node has this number, and the values in its tree are not negative
abbrev pub IsNumber : List Node → ℕ → Type 0
IsNumber nodes n = (n < length nodes) × HasNaturals (tree_at nodes n)

abbrev pub AreNumbers : List Node → List ℕ → Type 0
AreNumbers nodes ns = All (IsNumber nodes) ns

-- the nodes among these trees are mentioned now, behind those that were
pub record Mentions (nodes : List Node) (trees : List Tree) (old new : List ℕ) : Type 0 where
  pub order : trees_at nodes new ≡ trees_at nodes old ++ filter is_node trees
  pub numbers : AreNumbers nodes old → AreNumbers nodes new

-- each of these pairs has the number of a node
abbrev pub HaveNumbers : List Node → List (List ℕ × ℕ) → Type 0
HaveNumbers nodes pairs = All (λ p. IsNumber nodes p.1) pairs

-- the trees of pairs
abbrev pub pairs_at : List Node → List (List ℕ × ℕ) → List (List ℕ × Tree)
pairs_at nodes pairs = map (λ p. (p.0, tree_at nodes p.1)) pairs

-- ---- arguments

-- a call passes something
abbrev pub IsFit : Tree → Type 0
IsFit t = is_call t.head.kind ≡ true → (form : FormKind) × (name : List ℕ) × Passes t form name

abbrev pub AreFit : List Tree → Type 0
AreFit [] = Unit {0}
AreFit (t ∷ ts) = IsFit t × AreFit ts
