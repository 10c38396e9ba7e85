-- The nodes of a formed tree are formed, and what stays of nodes is of their tree.
use Rattle.std.proofs.Common.{◌≡◌, ℕ, suc, ◌<◌, true, arith, List, length, Some, slice_get, refl, sym, ap, ◌∙◌, subst}
use Rattle.std.proofs.lemmas.Option.{get_or_from_slice_get}
use Rattle.js_syntax.specs.declared.node.Node.{Node}
use Rattle.js_syntax.specs.Shape.{Counts, shape_of, IsFormed}
use Rattle.js_syntax.specs.Tree.{Trees, AreTrees, no_trees, some_trees, head_of, IsTreeOf}
use Rattle.js_syntax.proofs.TreeLemmas.{tree_unique}
use Rattle.js_trees.specs.Tree.{node_at, vacant, kid_count}
use Rattle.grammar_laws.specs.Formed.{IsFormedTree, AreFormed}
use Rattle.js_parser.specs.Below.{AreBelowFrom}
use Rattle.js_parser.specs.Marks.{is_marked, marks_of, kept_below, AreDescending}
use Rattle.js_parser.specs.Nodes.{nodes_of, AreOfTheirTree}
use Rattle.js_parser.specs.View.{tree_of}
use Rattle.js_parser.proofs.Below.{below_descending, kept_below_first}
use Rattle.js_parser.proofs.TreeOf.{its_tree}
use Rattle.js_parser.proofs.ReachedLemmas.{Among, itself, inside, behind}
use Rattle.js_parser.proofs.NodeLemmas.{marked_form, kept_nodes_of, tree_of_nodes_of}

kids_counted : {nodes : List Node} {ns : List ℕ} {t : Trees} → AreTrees nodes ns t → kid_count t ≡ length ns
kids_counted no_trees = refl
kids_counted (some_trees here under after) = ap suc (kids_counted after)

formed_head : {nodes : List Node} (n : ℕ) (node : Node) (kids : Trees) → AreTrees nodes (node.kids) kids → IsFormedTree (head_of n node) kids → IsFormed node
formed_head n node kids under it = record {
  name = it.form.name;
  names = it.form.names;
  kids = subst (λ (count : ℕ). Counts ((shape_of node.kind).kids) (length (node.names)) count) (kids_counted under) it.form.kids;
  places = it.places;
}

-- the node of a form among formed trees is formed
formed_node : {nodes : List Node} {ns : List ℕ} {t : Trees} (n : ℕ) → AreTrees nodes ns t → AreFormed t → Among n t → IsFormed (node_at nodes n)
unfolding AreFormed
formed_node n no_trees formed among = elim among [ ]
formed_node {nodes} n (some_trees {n = m} {node = node} {kids = kids} is under after) formed (itself same) =
    let here : node_at nodes n ≡ node = get_or_from_slice_get nodes n node vacant (subst (λ (v : ℕ). slice_get nodes v ≡ Some node) same is) in
    subst (λ (v : Node). IsFormed v) (sym here) (formed_head m node kids under formed.0)
formed_node n (some_trees is under after) formed (inside one) = formed_node n under formed.1 one
formed_node n (some_trees is under after) formed (behind one) = formed_node n after formed.2 one

-- each marked node is formed
pub marked_formed : (nodes : List Node) (t : Trees) → IsTreeOf nodes t → AreFormed t → (n : ℕ) → is_marked (marks_of nodes) n ≡ true → IsFormed (node_at nodes n)
marked_formed nodes t (root, last, trees) formed n marked = formed_node n trees formed (marked_form nodes root t last trees n marked)

-- ---- what stays of nodes

-- the tree of nodes that stand before their parents
pub descending_tree : (nodes : List Node) → 0 < length nodes → AreDescending nodes → IsTreeOf nodes (tree_of nodes)
descending_tree nodes some descending = its_tree nodes (below_descending nodes descending) some

-- the script has the nodes of the tree that these nodes have
pub record IsPruned (nodes script : List Node) : Type 0 where
  pub are : script ≡ nodes_of (tree_of nodes)
  pub same : tree_of script ≡ tree_of nodes
  pub its : IsTreeOf script (tree_of script)

pub pruned : (nodes script : List Node) → 0 < length nodes → AreDescending nodes → script ≡ kept_below nodes (marks_of nodes) (length nodes) → IsPruned nodes script
pruned nodes script some descending is = record { are = are; same = tree_unique script (tree_of script) (tree_of nodes) its also; its = its }
  where
    were : IsTreeOf nodes (tree_of nodes)
    were = descending_tree nodes some descending

    are : script ≡ nodes_of (tree_of nodes)
    are = is ∙ kept_nodes_of nodes descending (tree_of nodes) were

    also : IsTreeOf script (tree_of nodes)
    also = subst (λ (others : List Node). IsTreeOf others (tree_of nodes)) (sym are) (tree_of_nodes_of nodes (tree_of nodes) were)

    has_some : IsTreeOf script (tree_of nodes) → 0 < length script
    has_some (root, last, trees) = omega arith

    its : IsTreeOf script (tree_of script)
    its = its_tree script (subst (λ (others : List Node). AreBelowFrom 0 others) (sym is) (kept_below_first nodes (marks_of nodes) (length nodes) descending)) (has_some also)

-- and they are those of its tree
pub of_their_tree : (nodes script : List Node) → script ≡ nodes_of (tree_of nodes) → tree_of script ≡ tree_of nodes → IsTreeOf script (tree_of script) → AreOfTheirTree script
of_their_tree nodes script are same its u other = are ∙ ap nodes_of (sym same ∙ tree_unique script (tree_of script) u its other)
