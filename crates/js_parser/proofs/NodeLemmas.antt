-- What stays of a script's nodes is what its tree gives.
use Rattle.std.proofs.Common.{◌≡◌, ℕ, zero, suc, ◌+◌, ◌<◌, ◌≤◌, ◌⊎◌, inl, inr, Bool, true, false, List, [], ◌∷◌, ◌++◌, length, Option, None, Some, slice_get, refl, sym, ◌∙◌, ap, subst, arith}
use Rattle.std.proofs.lemmas.Bool.{cases_eq}
use Rattle.std.proofs.lemmas.List.{length-append}
use Rattle.std.proofs.lemmas.Option.{slice_get_within, get_or_from_slice_get}
use Rattle.std.specs.Option.{unwrap_or}
use Rattle.js_syntax.specs.declared.node.Node.{Node}
use Rattle.js_syntax.specs.Tree.{Trees, AreTrees, some_trees, IsTreeOf}
use Rattle.js_syntax.proofs.TreeLemmas.{get_more, get_last}
use Rattle.js_trees.specs.Tree.{node_at, vacant}
use Rattle.js_parser.specs.Marks.{is_marked, marks_of, root_mark, kept, kept_below, AreDescending}
use Rattle.js_parser.specs.Nodes.{node_in, first_nodes, nodes_of}
use Rattle.js_parser.proofs.MarkLemmas.{below_keep, below_closed, below_only, root_marked, root_only, length-root_mark, descends}
use Rattle.js_parser.proofs.ReachedLemmas.{Among, among_found, found_among, found_node, among_first, among_kids, among_only, trees_kept}

-- ---- as many nodes as there were

pub length-kept_below : (nodes : List Node) (marks : List Bool) (n : ℕ) → length (kept_below nodes marks n) ≡ n
unfolding kept_below
length-kept_below nodes marks zero = refl
length-kept_below nodes marks (suc n) =
    omega (arith, length-append (kept_below nodes marks n) (kept (is_marked marks n) (node_at nodes n) ∷ []), length-kept_below nodes marks n)

pub length-first_nodes : (n : ℕ) (t : Trees) → length (first_nodes n t) ≡ n
length-first_nodes zero t = refl
length-first_nodes (suc n) t =
    omega (arith, length-append (first_nodes n t) (unwrap_or (node_in n t) vacant ∷ []), length-first_nodes n t)

-- the node with a number is that of the form with it
pub get-first_nodes : (n k : ℕ) (t : Trees) → k < n → slice_get (first_nodes n t) k ≡ Some (unwrap_or (node_in k t) vacant)
get-first_nodes zero k t within = absurd (omega arith)
get-first_nodes (suc n) k t within = by (λ under. get-first_nodes n k t under) (cases_eq k n)
  where
    at_end : slice_get (first_nodes n t ++ unwrap_or (node_in n t) vacant ∷ []) n ≡ Some (unwrap_or (node_in n t) vacant)
    at_end =
        subst (λ (m : ℕ). slice_get (first_nodes n t ++ unwrap_or (node_in n t) vacant ∷ []) m ≡ Some (unwrap_or (node_in n t) vacant))
        (length-first_nodes n t) (get_last (first_nodes n t) (unwrap_or (node_in n t) vacant))

    by : (k < n → slice_get (first_nodes n t) k ≡ Some (unwrap_or (node_in k t) vacant)) → (k ≡ n) ⊎ (k ≡ n → ⊥)
        → slice_get (first_nodes n t ++ unwrap_or (node_in n t) vacant ∷ []) k ≡ Some (unwrap_or (node_in k t) vacant)
    by before (inl same) =
        subst (λ (m : ℕ). slice_get (first_nodes n t ++ unwrap_or (node_in n t) vacant ∷ []) m ≡ Some (unwrap_or (node_in m t) vacant)) (sym same) at_end
    by before (inr other) =
        get_more (first_nodes n t) (unwrap_or (node_in n t) vacant ∷ []) k (unwrap_or (node_in k t) vacant) (before (omega arith))

-- ---- marks and forms

-- the number is that of a node, and it is marked
abbrev Reached : List Node → ℕ → Type 0
Reached nodes m = (m < length nodes) × (is_marked (marks_of nodes) m ≡ true)

root_reached : (nodes : List Node) (root : ℕ) → root + 1 ≡ length nodes → (k m : ℕ) → slice_get (root ∷ []) k ≡ Some m → Reached nodes m
root_reached nodes root last zero m here =
    let same : root ≡ m = cc in
    let within : root < length nodes = omega arith in
    let marked : is_marked (marks_of nodes) root ≡ true =
    below_keep nodes (length nodes) (root_mark (length nodes)) root (root_marked (length nodes) root last) in
    subst (λ (v : ℕ). Reached nodes v) same (within, marked)
root_reached nodes root last (suc zero) m here = absurd (let none : ⊥ = cc in none)
root_reached nodes root last (suc (suc k)) m here = absurd (let none : ⊥ = cc in none)

kid_reached : (nodes : List Node) → AreDescending nodes → (m k i : ℕ) → Reached nodes m
    → slice_get ((node_at nodes m).kids) k ≡ Some i → Reached nodes i
kid_reached nodes descending m k i (within, marked) kid =
    let low : i < m = descends nodes m descending k i kid in
    let room : length nodes ≤ length (root_mark (length nodes)) = omega (arith, length-root_mark (length nodes)) in
    (omega arith, below_closed nodes (length nodes) (root_mark (length nodes)) m k i descending within room marked kid)

-- each form of the script's tree is marked
form_marked : (nodes : List Node) (root : ℕ) (t : Trees) → root + 1 ≡ length nodes → AreDescending nodes
    → AreTrees nodes (root ∷ []) t → (n : ℕ) → Among n t → is_marked (marks_of nodes) n ≡ true
form_marked nodes root t last descending trees n among =
    (among_only (λ m. Reached nodes m) trees (root_reached nodes root last) (kid_reached nodes descending) n among).1

-- and what is marked is a form
pub marked_form : (nodes : List Node) (root : ℕ) (t : Trees) → root + 1 ≡ length nodes → AreTrees nodes (root ∷ []) t
    → (n : ℕ) → is_marked (marks_of nodes) n ≡ true → Among n t
marked_form nodes root t last trees n marked =
    below_only nodes (length nodes) (root_mark (length nodes)) (λ m. Among m t)
    (λ m is. among_first 0 m trees (ap Some (sym (root_only (length nodes) root m last is))))
    (λ m k i among kid. among_kids m k i trees among kid) n marked

-- ---- nodes

-- what stays under a number is the form with it
kept_form : (nodes : List Node) (root : ℕ) (t : Trees) → root + 1 ≡ length nodes → AreDescending nodes
    → AreTrees nodes (root ∷ []) t → (n : ℕ)
    → kept (is_marked (marks_of nodes) n) (node_at nodes n) ≡ unwrap_or (node_in n t) vacant
kept_form nodes root t last descending trees n = by (node_in n t) refl (is_marked (marks_of nodes) n) refl
  where
    by : (o : Option Node) → node_in n t ≡ o → (b : Bool) → is_marked (marks_of nodes) n ≡ b
        → kept b (node_at nodes n) ≡ unwrap_or o vacant
    by None none false e = refl
    by None none true e =
        absurd (let found = among_found n t (marked_form nodes root t last trees n e) in
        let both : None ≡ Some (found.0) = sym none ∙ found.1 in let no : ⊥ = cc in no)
    by (Some node) found true e =
        let here : slice_get nodes n ≡ Some node = found_node n node trees found in get_or_from_slice_get nodes n node vacant here
    by (Some node) found false e =
        absurd (let marked : is_marked (marks_of nodes) n ≡ true = form_marked nodes root t last descending trees n (found_among n t node found) in
        let both : true ≡ false = sym marked ∙ e in let no : ⊥ = cc in no)

kept_forms : (nodes : List Node) (root : ℕ) (t : Trees) → root + 1 ≡ length nodes → AreDescending nodes
    → AreTrees nodes (root ∷ []) t → (n : ℕ) → kept_below nodes (marks_of nodes) n ≡ first_nodes n t
unfolding kept_below
kept_forms nodes root t last descending trees zero = refl
kept_forms nodes root t last descending trees (suc n) =
    ap (λ (front : List Node). front ++ kept (is_marked (marks_of nodes) n) (node_at nodes n) ∷ []) (kept_forms nodes root t last descending trees n)
    ∙ ap (λ (node : Node). first_nodes n t ++ node ∷ []) (kept_form nodes root t last descending trees n)

-- the nodes of a tree go up to its root
pub nodes_up_to : {nodes : List Node} {root : ℕ} {t : Trees} → AreTrees nodes (root ∷ []) t → nodes_of t ≡ first_nodes (suc root) t
nodes_up_to (some_trees here under after) = refl

-- what stays of all nodes is what the tree gives
pub kept_nodes_of : (nodes : List Node) → AreDescending nodes → (t : Trees) → IsTreeOf nodes t
    → kept_below nodes (marks_of nodes) (length nodes) ≡ nodes_of t
kept_nodes_of nodes descending t (root, last, trees) =
    let count : length nodes ≡ suc root = omega arith in
    kept_forms nodes root t last descending trees (length nodes)
    ∙ (ap (λ n. first_nodes n t) count ∙ sym (nodes_up_to trees))

-- and the tree is the tree of these nodes too
pub tree_of_nodes_of : (nodes : List Node) (t : Trees) → IsTreeOf nodes t → IsTreeOf (nodes_of t) t
tree_of_nodes_of nodes t (root, last, trees) =
    subst (λ (others : List Node). IsTreeOf others t) (sym (nodes_up_to trees))
    (root, root_last, trees_kept (first_nodes (suc root) t) trees same)
  where
    root_last : root + 1 ≡ length (first_nodes (suc root) t)
    root_last = omega (arith, length-first_nodes (suc root) t)

    same : (n : ℕ) (node : Node) → Among n t → slice_get nodes n ≡ Some node → slice_get (first_nodes (suc root) t) n ≡ Some node
    same n node among here =
        let found = among_found n t among in
        let there : slice_get nodes n ≡ Some (found.0) = found_node n (found.0) trees (found.1) in
        let within : n < suc root = omega (arith, slice_get_within nodes n node here) in
        let one : found.0 ≡ node = let both : Some (found.0) ≡ Some node = sym there ∙ here in cc in
        get-first_nodes (suc root) n t within ∙ (ap (λ o. Some (unwrap_or o vacant)) (found.1) ∙ ap Some one)

-- ---- one node more

-- what stays of one node more
pub kept_more : (nodes : List Node) (marks : List Bool) (n : ℕ) (list more : List Node) (node : Node) (marked : Bool)
    → list ≡ kept_below nodes marks n → marked ≡ is_marked marks n → node ≡ kept marked (node_at nodes n)
    → more ≡ list ++ node ∷ [] → more ≡ kept_below nodes marks (n + 1)
unfolding kept_below
kept_more nodes marks n list more node marked so_far tells is gains =
    let stays : node ≡ kept (is_marked marks n) (node_at nodes n) = is ∙ ap (λ b. kept b (node_at nodes n)) tells in
    let next : n + 1 ≡ suc n = omega arith in
    gains ∙ (ap (λ (front : List Node). front ++ node ∷ []) so_far
    ∙ (ap (λ (v : Node). kept_below nodes marks n ++ v ∷ []) stays ∙ sym (ap (λ k. kept_below nodes marks k) next)))
