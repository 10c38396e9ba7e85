-- Nodes whose kids stand before them: one more, the first of them, and what stays of them.
use Rattle.std.proofs.Common.{◌≡◌, ℕ, zero, suc, ◌+◌, ◌<◌, Bool, true, false, List, [], ◌∷◌, ◌++◌, length, take, Some, slice_get, refl, subst, arith}
use Rattle.std.proofs.lemmas.Option.{get_or_from_slice_get, slice_get_within}
use Rattle.js_syntax.specs.declared.node.Node.{Node}
use Rattle.js_syntax.specs.Shape.{AreBelow}
use Rattle.js_trees.specs.Tree.{node_at, vacant}
use Rattle.js_parser.specs.Below.{AreBelowFrom}
use Rattle.js_parser.specs.Marks.{is_marked, kept, kept_below, AreDescending}
use Rattle.js_parser.proofs.MarkLemmas.{descends}
use Rattle.js_parser.proofs.NodeLemmas.{length-kept_below}

pub below_more : (k : ℕ) (nodes : List Node) (node : Node) → AreBelowFrom k nodes → AreBelow (node.kids) (k + length nodes) → AreBelowFrom k (nodes ++ node ∷ [])
below_more k [] node below more = (subst (AreBelow (node.kids)) (omega arith) more, tt)
below_more k (n ∷ nodes) node below more =
    (below.0, below_more (k + 1) nodes node below.1 (subst (AreBelow (node.kids)) (omega arith) more))

pub below_at : (k : ℕ) (nodes : List Node) (i : ℕ) (node : Node) → AreBelowFrom k nodes → slice_get nodes i ≡ Some node → AreBelow (node.kids) (k + i)
below_at k [] zero node below here = absurd (let none : ⊥ = cc in none)
below_at k [] (suc i) node below here = absurd (let none : ⊥ = cc in none)
below_at k (n ∷ nodes) zero node below here =
    let same : n ≡ node = cc in
    subst (λ (m : Node). AreBelow (m.kids) (k + 0)) same (subst (AreBelow (n.kids)) (omega arith) below.0)
below_at k (n ∷ nodes) (suc i) node below here =
    subst (AreBelow (node.kids)) (omega arith) (below_at (k + 1) nodes i node below.1 here)

pub below_first : (k n : ℕ) (nodes : List Node) → AreBelowFrom k nodes → AreBelowFrom k (take n nodes)
below_first k zero nodes below = tt
below_first k (suc n) [] below = tt
below_first k (suc n) (node ∷ nodes) below = (below.0, below_first (k + 1) n nodes below.1)

below_from : (k : ℕ) (nodes : List Node) → ((i : ℕ) (node : Node) → slice_get nodes i ≡ Some node → AreBelow (node.kids) (k + i)) → AreBelowFrom k nodes
below_from k [] each = tt
below_from k (n ∷ nodes) each =
    (subst (AreBelow (n.kids)) (omega arith) (each 0 n refl), below_from (k + 1) nodes (λ i node here. subst (AreBelow (node.kids)) (omega arith) (each (suc i) node here)))

pub below_descending : (nodes : List Node) → AreDescending nodes → AreBelowFrom 0 nodes
below_descending nodes descending = below_from 0 nodes each
  where
    each : (i : ℕ) (node : Node) → slice_get nodes i ≡ Some node → AreBelow (node.kids) (0 + i)
    each i node here =
        let found : node_at nodes i ≡ node = get_or_from_slice_get nodes i node vacant here in
        subst (AreBelow (node.kids)) (omega arith) (subst (λ (n : Node). AreBelow (n.kids) i) found (descending i (slice_get_within nodes i node here)))

-- what stays of nodes stands below its parent too
stays_below : (b : Bool) (node : Node) (n : ℕ) → AreBelow (node.kids) n → AreBelow ((kept b node).kids) n
stays_below true node n below = below
stays_below false node n below = λ k m here. nothing k m here
  where
    nothing : (k m : ℕ) → slice_get [] k ≡ Some m → m < n
    nothing zero m here = absurd (let none : ⊥ = cc in none)
    nothing (suc k) m here = absurd (let none : ⊥ = cc in none)

pub kept_below_first : (nodes : List Node) (marks : List Bool) (n : ℕ) → AreDescending nodes → AreBelowFrom 0 (kept_below nodes marks n)
unfolding kept_below
kept_below_first nodes marks zero descending = tt
kept_below_first nodes marks (suc n) descending =
    below_more 0 (kept_below nodes marks n) (kept (is_marked marks n) (node_at nodes n)) (kept_below_first nodes marks n descending)
    (subst (AreBelow ((kept (is_marked marks n) (node_at nodes n)).kids)) (omega (arith, length-kept_below nodes marks n))
    (stays_below (is_marked marks n) (node_at nodes n) n (descends nodes n descending)))
