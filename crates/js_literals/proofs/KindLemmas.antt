-- Nodes of a copy by what kind of literal they are.
use Rattle.std.proofs.Common.{◌≡◌, ℕ, Bool, true, false, List, [], ◌++◌, Option, if◌then◌else◌, sym, ap, subst, ◌∙◌, append-nil}
use Rattle.std.specs.Prelude.{unwrap_or, filter}
use Rattle.std.specs.Map.{values_of}
use Rattle.ivm_text.specs.declared.copies.CopyNode.{CopyNode}
use Rattle.ivm_text.specs.declared.copies.CopyNode.TheVariants as nodes
use Rattle.ivm_text.specs.declared.copies.Leaf.{Leaf}
use Rattle.js_syntax.specs.declared.node.Node.{Node}
use Rattle.js_literals.specs.Copies.{Tree, parts, properties, pairs_of, is_node, is_array, is_object, members, leaves_from, pairs_from, node_at, primitive, IsCopyOf, leaf_alone}
use Rattle.js_literals.specs.View.{tree_at, trees_at, pairs_at, Mentions}
use Rattle.js_literals.proofs.Nodes.{Stands}
use Rattle.js_literals.proofs.PairLemmas.{pairs_of_map}

abbrev node_as : Bool → Bool → ℕ → Tree → CopyNode
node_as array object n t = if array then nodes.Array (leaves_from n (parts t)) else if object then nodes.Plain (pairs_from n (properties t)) else nodes.Text (unwrap_or t.head.name [])

abbrev members_as : Bool → Bool → Tree → List Tree
members_as array object t = if array then parts t else if object then values_of (properties t) else []

pub array_node : (n : ℕ) (t : Tree) (told : List Leaf) → is_array t.head.kind ≡ true → told ≡ leaves_from n (parts t) → nodes.Array told ≡ node_at n t
array_node n t told e is = ap (λ ls. nodes.Array ls) is ∙ sym (ap (λ b. node_as b (is_object t.head.kind) n t) e)

pub array_members : (t : Tree) → is_array t.head.kind ≡ true → members t ≡ parts t
array_members t e = ap (λ b. members_as b (is_object t.head.kind) t) e

pub object_node : (n : ℕ) (t : Tree) (told : List (List ℕ × Leaf)) → is_array t.head.kind ≡ false → is_object t.head.kind ≡ true → told ≡ pairs_from n (properties t)
    → nodes.Plain told ≡ node_at n t
object_node n t told e f is =
    ap (λ ps. nodes.Plain ps) is ∙ sym (ap (λ b. node_as b (is_object t.head.kind) n t) e ∙ ap (λ b. node_as false b n t) f)

pub object_members : (t : Tree) → is_array t.head.kind ≡ false → is_object t.head.kind ≡ true → members t ≡ values_of (properties t)
object_members t e f = ap (λ b. members_as b (is_object t.head.kind) t) e ∙ ap (λ b. members_as false b t) f

pub text_node : (n : ℕ) (t : Tree) (told : List ℕ) (name : Option (List ℕ)) → is_array t.head.kind ≡ false → is_object t.head.kind ≡ false → t.head.name ≡ name → told ≡ unwrap_or name []
    → nodes.Text told ≡ node_at n t
text_node n t told name e f named is =
    ap (λ us. nodes.Text us) (is ∙ ap (λ o. unwrap_or o []) (sym named)) ∙ sym (ap (λ b. node_as b (is_object t.head.kind) n t) e ∙ ap (λ b. node_as false b n t) f)

pub text_mentions : (nodes : List Node) (t : Tree) (old : List ℕ) → is_array t.head.kind ≡ false → is_object t.head.kind ≡ false → Mentions nodes (members t) old old
text_mentions nodes t old e f = record {
  order = sym (ap (λ ts. trees_at nodes old ++ filter is_node ts) (ap (λ b. members_as b (is_object t.head.kind) t) e ∙ ap (λ b. members_as false b t) f) ∙ append-nil (trees_at nodes old));
  numbers = λ h. h;
}

-- the pairs of an object's node are those of its tree
pub properties_at : (nodes : List Node) (n : ℕ) (node : Node) → Stands nodes n node → pairs_at nodes (pairs_of node.names node.kids) ≡ properties (tree_at nodes n)
properties_at nodes n node s =
    pairs_of_map (tree_at nodes) node.names node.kids
    ∙ ap (λ ts. pairs_of node.names ts) (sym s.parts)
    ∙ ap (λ ks. pairs_of ks (parts (tree_at nodes n))) (sym s.names)

pub leaf_copy : (t : Tree) (ns : List CopyNode) (l : Leaf) → is_node t ≡ false → ns ≡ [] → l ≡ primitive t → IsCopyOf t (record { nodes = ns; root = l })
leaf_copy t ns l e none is =
    subst (λ (ms : List CopyNode). IsCopyOf t (record { nodes = ms; root = l })) (sym none)
    (subst (λ (k : Leaf). IsCopyOf t (record { nodes = []; root = k })) (sym is) (leaf_alone e))
