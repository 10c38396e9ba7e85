-- The nodes of a copy one after the other.
use Rattle.std.proofs.Common.{◌≡◌, ℕ, suc, ◌+◌, ◌<◌, ◌≤◌, List, [], ◌∷◌, ◌++◌, length, take, drop, get_or, sym, ap, ◌∙◌, arith, add-one, drop-cons}
use Rattle.std.specs.Prelude.{flat_map}
use Rattle.std.proofs.lemmas.List.{length-append, take_all, take-append-le, drop-append-le, flat_map_more, get_or-map}
use Rattle.std.proofs.Math.Seq.{take-suc}
use Rattle.ivm_text.specs.declared.copies.CopyNode.{CopyNode}
use Rattle.js_syntax.specs.declared.node.Node.{Node}
use Rattle.js_literals.specs.Copies.{Tree, is_node, members, inner_nodes, node_at, nodes_from, AreNodesOf}
use Rattle.js_literals.specs.View.{tree_at, trees_at}
use Rattle.js_literals.proofs.Weights.{weights, append_weights, filter_weights, members_weigh}

-- one more tree of the list is taken
taken : (S T K : List Tree) (i : ℕ) (t : Tree) → T ≡ S ++ K → i < length S → get_or S i t ≡ t → take (i + 1) T ≡ take i S ++ t ∷ []
taken S T K i t e h at =
    let enough : i + 1 ≤ length S = omega (arith, h) in
    ap (take (i + 1)) e ∙ take-append-le (i + 1) S K enough ∙ ap (λ k. take k S) (add-one i) ∙ take-suc S i t h ∙ ap (λ x. take i S ++ x ∷ []) at

pub order_goes : (root t : Tree) (S T : List Tree) (i : ℕ) → T ≡ S ++ inner_nodes t → i < length S → get_or S i t ≡ t
    → S ≡ root ∷ flat_map inner_nodes (take i S) → T ≡ root ∷ flat_map inner_nodes (take (i + 1) T)
order_goes root t S T i e h at is =
    e ∙ ap (λ ts. ts ++ inner_nodes t) is ∙ flat_map_more inner_nodes (root ∷ []) (take i S) t
    ∙ sym (ap (λ ts. root ∷ flat_map inner_nodes ts) (taken S T (inner_nodes t) i t e h at))

nodes_more : (n : ℕ) (xs : List Tree) (t : Tree) → nodes_from n (xs ++ t ∷ []) ≡ nodes_from n xs ++ node_at (n + length (flat_map inner_nodes xs)) t ∷ []
nodes_more n [] t = ap (λ k. node_at k t ∷ []) (sym (let e : n + 0 ≡ n = omega arith in e))
nodes_more n (x ∷ xs) t =
    ap (λ ys. node_at n x ∷ ys) (nodes_more (n + length (inner_nodes x)) xs t
    ∙ ap (λ k. nodes_from (n + length (inner_nodes x)) xs ++ node_at k t ∷ []) (omega (arith, length-append (inner_nodes x) (flat_map inner_nodes xs))))

pub nodes_go : (root t : Tree) (S T : List Tree) (i n : ℕ) (done more : List CopyNode) (node : CopyNode) → T ≡ S ++ inner_nodes t → i < length S → get_or S i t ≡ t
    → S ≡ root ∷ flat_map inner_nodes (take i S) → n ≡ length S → node ≡ node_at n t → more ≡ done ++ node ∷ [] → done ≡ nodes_from 1 (take i S)
    → more ≡ nodes_from 1 (take (i + 1) T)
nodes_go root t S T i n done more node e h at is long en em ed =
    let next : n ≡ 1 + length (flat_map inner_nodes (take i S)) = long ∙ ap length is ∙ omega arith in
    em ∙ ap (λ ys. ys ++ node ∷ []) ed ∙ ap (λ x. nodes_from 1 (take i S) ++ x ∷ []) (en ∙ ap (λ k. node_at k t) next)
    ∙ sym (nodes_more 1 (take i S) t) ∙ ap (nodes_from 1) (sym (taken S T (inner_nodes t) i t e h at))

pub order_falls : (t : Tree) (S T : List Tree) (i : ℕ) → T ≡ S ++ inner_nodes t → i < length S → get_or S i t ≡ t → weights (drop (i + 1) T) < weights (drop i S)
order_falls t S T i e h at =
    let enough : i + 1 ≤ length S = omega (arith, h) in
    let after : drop (i + 1) T ≡ drop (i + 1) S ++ inner_nodes t = ap (drop (i + 1)) e ∙ drop-append-le (i + 1) S (inner_nodes t) enough in
    let before : drop i S ≡ t ∷ drop (i + 1) S = drop-cons S i t h ∙ ap (λ x. x ∷ drop (suc i) S) at ∙ ap (λ k. t ∷ drop k S) (sym (add-one i)) in
    omega (arith, ap weights after, ap weights before, append_weights (drop (i + 1) S) (inner_nodes t), filter_weights is_node (members t), members_weigh t)

pub order_ends : (root : Tree) (S : List Tree) (i : ℕ) (told : List CopyNode) → length S ≤ i → S ≡ root ∷ flat_map inner_nodes (take i S) → told ≡ nodes_from 1 (take i S) → AreNodesOf root told
order_ends root S i told past is e = record {
  order = S;
  is_order = is ∙ ap (λ ts. root ∷ flat_map inner_nodes ts) (take_all i S past);
  are_told = e ∙ ap (nodes_from 1) (take_all i S past);
}

-- the tree at a place of the list
pub tree_there : (nodes : List Node) (m : List ℕ) (i : ℕ) (n d : ℕ) → i < length m → n ≡ get_or m i d → get_or (trees_at nodes m) i (tree_at nodes n) ≡ tree_at nodes n
tree_there nodes m i n d h e = get_or-map (tree_at nodes) m i d (tree_at nodes n) h ∙ ap (tree_at nodes) (sym e)
