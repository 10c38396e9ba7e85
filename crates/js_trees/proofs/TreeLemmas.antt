-- The tree of a node is its form over the trees of its kids.
use Rattle.std.proofs.Common.{◌≡◌, ℕ, zero, suc, ◌+◌, ◌<◌, Bool, true, false, nat_lt, if◌then◌else◌, List, [], ◌∷◌, length, Some, slice_get, refl, ap, sym, ◌∙◌, subst, arith}
use Rattle.std.proofs.lemmas.Bool.{ltb-true, lt-ltb}
use Rattle.std.proofs.lemmas.Option.{get_or_from_slice_get, slice_get-get_or}
use Rattle.js_syntax.specs.declared.node.Node.{Node}
use Rattle.js_syntax.specs.Shape.{AreBelow, AreSound, Counts, IsFormed, shape_of}
use Rattle.js_syntax.specs.Tree.{Head, Trees, nothing, tree, AreTrees, no_trees, some_trees, head_of}
use Rattle.js_syntax.proofs.SoundLemmas.{sound_at}
use Rattle.js_trees.specs.Tree.{Tree, absent, kid, kid_count, trees_by, node_at, vacant, only_below, tree_by, tree_within, tree_of, single}
use Rattle.js_trees.specs.Forms.{HasForm}
use Rattle.js_trees.proofs.PartLemmas.{kid_count-trees_by, kid-trees_by}

-- ---- levels

choice_same : (b : Bool) (x y z : Tree) → (b ≡ true → x ≡ y) → (if b then x else z) ≡ (if b then y else z)
choice_same true x y z same = same refl
choice_same false x y z same = refl

choice_true : (b : Bool) (x z : Tree) → b ≡ true → (if b then x else z) ≡ x
choice_true true x z is = refl
choice_true false x z is = absurd (let none : ⊥ = cc in none)

only_below-same : (n : ℕ) (at other : ℕ → Tree) (k : ℕ) → (k < n → at k ≡ other k)
    → only_below n at k ≡ only_below n other k
only_below-same n at other k same =
    choice_same (nat_lt k n) (at k) (other k) absent (λ is. same (ltb-true k n is))

only_below-within : (n : ℕ) (at : ℕ → Tree) (k : ℕ) → k < n → only_below n at k ≡ at k
only_below-within n at k within = choice_true (nat_lt k n) (at k) absent (lt-ltb k n within)

put_first : (x y : Tree) (rest other : Trees) → x ≡ y → rest ≡ other
    → tree (x.head) (x.kids) rest ≡ tree (y.head) (y.kids) other
put_first x y rest other e f =
    ap (λ (t : Tree). tree (t.head) (t.kids) rest) e ∙ ap (tree (y.head) (y.kids)) f

-- trees that agree everywhere
trees_by-same : (at other : ℕ → Tree) (numbers : List ℕ) → ((k : ℕ) → at k ≡ other k)
    → trees_by at numbers ≡ trees_by other numbers
trees_by-same at other [] same = refl
trees_by-same at other (n ∷ numbers) same =
    put_first (at n) (other n) (trees_by at numbers) (trees_by other numbers) (same n) (trees_by-same at other numbers same)

-- trees that agree below n
trees_by-below : (n : ℕ) (at other : ℕ → Tree) (numbers : List ℕ) → AreBelow numbers n
    → ((k : ℕ) → k < n → at k ≡ other k) → trees_by at numbers ≡ trees_by other numbers
trees_by-below n at other [] below same = refl
trees_by-below n at other (m ∷ numbers) below same =
    put_first (at m) (other m) (trees_by at numbers) (trees_by other numbers)
    (same m (below zero m refl)) (trees_by-below n at other numbers (λ k i here. below (suc k) i here) same)

over : (n : ℕ) (node : Node) → Trees → Tree
over n node kids = record { head = head_of n node; kids = kids }

-- above n the levels don't matter
tree_within-levels : (a b : ℕ) (nodes : List Node) (n : ℕ) → n < a → n < b
    → tree_within a nodes n ≡ tree_within b nodes n
unfolding tree_within over
tree_within-levels zero b nodes n in_a in_b = absurd (omega arith)
tree_within-levels (suc a) zero nodes n in_a in_b = absurd (omega arith)
tree_within-levels (suc a) (suc b) nodes n in_a in_b =
    ap (over n (node_at nodes n)) (trees_by-same (only_below n (tree_within a nodes)) (only_below n (tree_within b nodes)) ((node_at nodes n).kids)
    (λ k. only_below-same n (tree_within a nodes) (tree_within b nodes) k
    (λ within. tree_within-levels a b nodes k (omega arith) (omega arith))))

-- ---- the tree of a node

-- the tree of a node whose kids stand below it
pub tree_of-at : (nodes : List Node) (n : ℕ) → AreBelow ((node_at nodes n).kids) n
    → tree_of nodes n ≡ tree_by (tree_of nodes) n (node_at nodes n)
unfolding tree_of tree_within over
tree_of-at nodes n below =
    ap (over n (node_at nodes n)) (trees_by-below n (only_below n (tree_within n nodes)) (tree_of nodes) ((node_at nodes n).kids) below
    (λ k within. only_below-within n (tree_within n nodes) k within ∙ tree_within-levels n (suc k) nodes k within (omega arith)))

-- the same of a node that was found
pub tree_of-node : (nodes : List Node) (n : ℕ) (node : Node) → slice_get nodes n ≡ Some node
    → AreBelow (node.kids) n → tree_of nodes n ≡ tree_by (tree_of nodes) n node
tree_of-node nodes n node here below =
    let found : node_at nodes n ≡ node = get_or_from_slice_get nodes n node vacant here in
    subst (λ (v : Node). AreBelow (v.kids) n → tree_of nodes n ≡ tree_by (tree_of nodes) n v) found (tree_of-at nodes n) below

-- the same of any node, where each node's kids stand below it
pub tree_of-sound : (nodes : List Node) (n : ℕ) → AreSound nodes → n < length nodes
    → tree_of nodes n ≡ tree_by (tree_of nodes) n (node_at nodes n)
tree_of-sound nodes n sound within =
    let below : AreBelow ((node_at nodes n).kids) (0 + n) = (sound_at 0 nodes n (node_at nodes n) sound (slice_get-get_or nodes n vacant within)).0 in
    tree_of-at nodes n (subst (AreBelow ((node_at nodes n).kids)) (omega arith) below)

-- its parts are the trees of its kids
pub kid_count-node : (nodes : List Node) (n : ℕ) (node : Node)
    → tree_of nodes n ≡ tree_by (tree_of nodes) n node
    → kid_count ((tree_of nodes n).kids) ≡ length (node.kids)
kid_count-node nodes n node is =
    ap (λ (t : Tree). kid_count (t.kids)) is ∙ kid_count-trees_by (tree_of nodes) (node.kids)

pub kid-node : (nodes : List Node) (n : ℕ) (node : Node)
    → tree_of nodes n ≡ tree_by (tree_of nodes) n node
    → (i k : ℕ) → slice_get (node.kids) i ≡ Some k → tree_of nodes k ≡ kid i ((tree_of nodes n).kids)
kid-node nodes n node is i k here =
    sym (ap (λ (t : Tree). kid i (t.kids)) is ∙ kid-trees_by (tree_of nodes) (node.kids) i k here)

-- it has what its kind asks for
pub formed_tree : (nodes : List Node) (n : ℕ) (node : Node)
    → tree_of nodes n ≡ tree_by (tree_of nodes) n node → IsFormed node → HasForm (node.kind) (tree_of nodes n)
formed_tree nodes n node is formed =
    subst (HasForm (node.kind)) (sym is)
    (record {
      name = formed.name;
      names = formed.names;
      kids = subst (Counts ((shape_of (node.kind)).kids) (length (node.names))) (sym (kid_count-trees_by (tree_of nodes) (node.kids))) (formed.kids);
    })

-- ---- the trees of nodes

-- a tree, and those behind it
trees_behind : {nodes : List Node} {n : ℕ} {numbers : List ℕ} {head : Head} {kids rest : Trees}
    → AreTrees nodes (n ∷ []) (tree head kids nothing) → AreTrees nodes numbers rest
    → AreTrees nodes (n ∷ numbers) (tree head kids rest)
trees_behind (some_trees here below no_trees) behind = some_trees here below behind

trees_by-trees : (nodes : List Node) (n : ℕ) (numbers : List ℕ) → AreBelow numbers n
    → ((k : ℕ) → k < n → AreTrees nodes (k ∷ []) (single (tree_of nodes k)))
    → AreTrees nodes numbers (trees_by (tree_of nodes) numbers)
trees_by-trees nodes n [] below each = no_trees
trees_by-trees nodes n (m ∷ numbers) below each =
    trees_behind (each m (below zero m refl)) (trees_by-trees nodes n numbers (λ k i here. below (suc k) i here) each)

-- where the nodes below it have their trees, a node has its tree
pub tree_of-tree : (nodes : List Node) (n : ℕ) (node : Node) → slice_get nodes n ≡ Some node
    → AreBelow (node.kids) n
    → ((k : ℕ) → k < n → AreTrees nodes (k ∷ []) (single (tree_of nodes k)))
    → AreTrees nodes (n ∷ []) (single (tree_of nodes n))
tree_of-tree nodes n node here below each =
    subst (λ (t : Tree). AreTrees nodes (n ∷ []) (single t)) (sym (tree_of-node nodes n node here below))
    (some_trees here (trees_by-trees nodes n (node.kids) below each) no_trees)
