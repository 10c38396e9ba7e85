-- The forms of a tree of nodes are the nodes that its root reaches, each under its own number.
use Rattle.std.proofs.Common.{◌≡◌, ℕ, zero, suc, ◌<◌, Bool, true, false, List, ◌∷◌, length, Option, None, Some, slice_get, nat_eq, if◌then◌else◌, refl, sym, ◌∙◌, ap, subst}
use Rattle.std.proofs.lemmas.Bool.{eqb-true, eq-eqb}
use Rattle.std.proofs.lemmas.Option.{get_or_from_slice_get, slice_get_within}
use Rattle.std.specs.Option.{option_or}
use Rattle.js_syntax.specs.declared.node.Node.{Node}
use Rattle.js_syntax.specs.Tree.{Head, Trees, nothing, tree, AreTrees, no_trees, some_trees, head_of}
use Rattle.js_trees.specs.Tree.{node_at, vacant}
use Rattle.js_parser.specs.Nodes.{numbers, node_of, node_in}

-- a form with the number n is among these trees
pub data Among (n : ℕ) : Trees → Type 0 where
  itself : {head : Head} {kids rest : Trees} → head.number_of_node ≡ n → Among n (tree head kids rest)
  inside : {head : Head} {kids rest : Trees} → Among n kids → Among n (tree head kids rest)
  behind : {head : Head} {kids rest : Trees} → Among n rest → Among n (tree head kids rest)

-- ---- a form and its node

numbers_are : {nodes : List Node} {ns : List ℕ} {t : Trees} → AreTrees nodes ns t → numbers t ≡ ns
numbers_are no_trees = refl
numbers_are (some_trees {n = n} here under after) = ap (λ ns. n ∷ ns) (numbers_are after)

-- the node that a form is, is the node with its number
node_is : {nodes : List Node} (n : ℕ) (node : Node) (kids : Trees) → AreTrees nodes (node.kids) kids
    → node_of (head_of n node) kids ≡ node
node_is n node kids under = ap (λ ks. record node { kids = ks }) (numbers_are under)

-- a node that is found among the trees is the one with that number
pub found_node : {nodes : List Node} {ns : List ℕ} {t : Trees} (n : ℕ) (node : Node) → AreTrees nodes ns t
    → node_in n t ≡ Some node → slice_get nodes n ≡ Some node
found_node n node no_trees is = absurd (let none : ⊥ = cc in none)
found_node {nodes} n node (some_trees {n = m} {node = first} {kids = kids} {rest = rest} here under after) is =
    by (λ among. found_node n node under among) (λ among. found_node n node after among) (nat_eq n m) refl is
  where
    deeper : (node_in n kids ≡ Some node → slice_get nodes n ≡ Some node) → (node_in n rest ≡ Some node → slice_get nodes n ≡ Some node)
        → (o : Option Node) → node_in n kids ≡ o → option_or o (node_in n rest) ≡ Some node → slice_get nodes n ≡ Some node
    deeper one other None e is = other is
    deeper one other (Some v) e is = one (e ∙ is)

    by : (node_in n kids ≡ Some node → slice_get nodes n ≡ Some node) → (node_in n rest ≡ Some node → slice_get nodes n ≡ Some node)
        → (b : Bool) → nat_eq n m ≡ b
        → (if b then Some (node_of (head_of m first) kids) else option_or (node_in n kids) (node_in n rest)) ≡ Some node
        → slice_get nodes n ≡ Some node
    by one other true e is =
        let same : n ≡ m = eqb-true n m e in
        subst (λ (k : ℕ). slice_get nodes k ≡ Some node) (sym same) (here ∙ (sym (ap Some (node_is m first kids under)) ∙ is))
    by one other false e is = deeper one other (node_in n kids) refl is

-- where a form is among the trees, its node is found
pub among_found : (n : ℕ) (t : Trees) → Among n t → (node : Node) × (node_in n t ≡ Some node)
among_found n nothing among = elim among [ ]
among_found n (tree head kids rest) among =
    by (λ one. among_found n kids one) (λ one. among_found n rest one) (nat_eq n (head.number_of_node)) refl
  where
    or_else : (o : Option Node) → (node : Node) × (node_in n rest ≡ Some node) → (node : Node) × (option_or o (node_in n rest) ≡ Some node)
    or_else None found = found
    or_else (Some other) found = (other, refl)

    later : (Among n kids → (node : Node) × (node_in n kids ≡ Some node)) → (Among n rest → (node : Node) × (node_in n rest ≡ Some node))
        → Among n (tree head kids rest) → nat_eq n (head.number_of_node) ≡ false → (node : Node) × (option_or (node_in n kids) (node_in n rest) ≡ Some node)
    later under after (itself same) e =
        absurd (let yes : nat_eq n (head.number_of_node) ≡ true = eq-eqb n (head.number_of_node) (sym same) in let none : ⊥ = cc in none)
    later under after (inside one) e =
        let found = under one in (found.0, ap (λ o. option_or o (node_in n rest)) (found.1))
    later under after (behind one) e = or_else (node_in n kids) (after one)

    by : (Among n kids → (node : Node) × (node_in n kids ≡ Some node)) → (Among n rest → (node : Node) × (node_in n rest ≡ Some node))
        → (b : Bool) → nat_eq n (head.number_of_node) ≡ b
        → (node : Node) × ((if b then Some (node_of head kids) else option_or (node_in n kids) (node_in n rest)) ≡ Some node)
    by under after true e = (node_of head kids, refl)
    by under after false e = later under after among e

-- where a node is found, a form is among the trees
pub found_among : (n : ℕ) (t : Trees) (node : Node) → node_in n t ≡ Some node → Among n t
found_among n nothing node is = absurd (let none : ⊥ = cc in none)
found_among n (tree head kids rest) node is =
    by (λ other e. found_among n kids other e) (λ e. found_among n rest node e) (nat_eq n (head.number_of_node)) refl is
  where
    deeper : ((other : Node) → node_in n kids ≡ Some other → Among n kids) → (node_in n rest ≡ Some node → Among n rest)
        → (o : Option Node) → node_in n kids ≡ o → option_or o (node_in n rest) ≡ Some node → Among n (tree head kids rest)
    deeper under after None e is = behind (after is)
    deeper under after (Some other) e is = inside (under other e)

    by : ((other : Node) → node_in n kids ≡ Some other → Among n kids) → (node_in n rest ≡ Some node → Among n rest)
        → (b : Bool) → nat_eq n (head.number_of_node) ≡ b
        → (if b then Some (node_of head kids) else option_or (node_in n kids) (node_in n rest)) ≡ Some node
        → Among n (tree head kids rest)
    by under after true e is = itself (sym (eqb-true n (head.number_of_node) e))
    by under after false e is = deeper under after (node_in n kids) refl is

-- a form among the trees of nodes is a node
pub among_node : {nodes : List Node} {ns : List ℕ} {t : Trees} (n : ℕ) → AreTrees nodes ns t → Among n t
    → slice_get nodes n ≡ Some (node_at nodes n)
among_node {nodes} {ns} {t} n trees among =
    let found = among_found n t among in
    let here : slice_get nodes n ≡ Some (found.0) = found_node n (found.0) trees (found.1) in
    here ∙ sym (ap Some (get_or_from_slice_get nodes n (found.0) vacant here))

pub among_within : {nodes : List Node} {ns : List ℕ} {t : Trees} (n : ℕ) → AreTrees nodes ns t → Among n t
    → n < length nodes
among_within {nodes} n trees among = slice_get_within nodes n (node_at nodes n) (among_node n trees among)

-- ---- which forms there are

-- each of the numbers that the trees stand for
pub among_first : {nodes : List Node} {ns : List ℕ} {t : Trees} (k n : ℕ) → AreTrees nodes ns t → slice_get ns k ≡ Some n
    → Among n t
among_first zero n no_trees here = absurd (let none : ⊥ = cc in none)
among_first (suc k) n no_trees here = absurd (let none : ⊥ = cc in none)
among_first zero n (some_trees {n = m} is under after) here = let same : m ≡ n = cc in itself same
among_first (suc k) n (some_trees is under after) here = behind (among_first k n after here)

-- and the kids of each of them
pub among_kids : {nodes : List Node} {ns : List ℕ} {t : Trees} (n k i : ℕ) → AreTrees nodes ns t → Among n t
    → slice_get ((node_at nodes n).kids) k ≡ Some i → Among i t
among_kids n k i no_trees among kid = elim among [ ]
among_kids {nodes} n k i (some_trees {n = m} {node = node} is under after) (itself same) kid =
    let here : node_at nodes n ≡ node = get_or_from_slice_get nodes n node vacant (subst (λ (v : ℕ). slice_get nodes v ≡ Some node) same is) in
    inside (among_first k i under (subst (λ (v : Node). slice_get (v.kids) k ≡ Some i) here kid))
among_kids n k i (some_trees is under after) (inside one) kid = inside (among_kids n k i under one kid)
among_kids n k i (some_trees is under after) (behind one) kid = behind (among_kids n k i after one kid)

-- and no others: what holds of those numbers, and of the kids of a node of which it holds, holds of each form
pub among_only : {nodes : List Node} {ns : List ℕ} {t : Trees} (P : ℕ → Type 0) → AreTrees nodes ns t
    → ((k n : ℕ) → slice_get ns k ≡ Some n → P n)
    → ((n k i : ℕ) → P n → slice_get ((node_at nodes n).kids) k ≡ Some i → P i)
    → (n : ℕ) → Among n t → P n
among_only P no_trees first closed n among = elim among [ ]
among_only P (some_trees {n = m} is under after) first closed n (itself same) = subst P same (first zero m refl)
among_only {nodes} P (some_trees {n = m} {node = node} is under after) first closed n (inside one) =
    let here : node_at nodes m ≡ node = get_or_from_slice_get nodes m node vacant is in
    among_only P under (λ k i kid. closed m k i (first zero m refl) (subst (λ (v : Node). slice_get (v.kids) k ≡ Some i) (sym here) kid)) closed n one
among_only P (some_trees is under after) first closed n (behind one) =
    among_only P after (λ k i kid. first (suc k) i kid) closed n one

-- nodes that have each of its forms under its number have the trees too
pub trees_kept : {nodes : List Node} (others : List Node) {ns : List ℕ} {t : Trees} → AreTrees nodes ns t
    → ((n : ℕ) (node : Node) → Among n t → slice_get nodes n ≡ Some node → slice_get others n ≡ Some node)
    → AreTrees others ns t
trees_kept others no_trees same = no_trees
trees_kept others (some_trees {n = n} {node = node} is under after) same =
    some_trees (same n node (itself refl) is)
    (trees_kept others under (λ m v among. same m v (inside among)))
    (trees_kept others after (λ m v among. same m v (behind among)))
