-- The values in a tree are not negative, and so are those in its parts.
use Rattle.std.proofs.Common.{ℕ, zero, suc, ◌<◌, List, [], ◌∷◌, length, get_or, subst, arith}
use Rattle.std.proofs.lemmas.List.Elements.{All-from_get_or}
use Rattle.std.proofs.lemmas.Option.{slice_get-get_or}
use Rattle.js_syntax.specs.declared.node.Node.{Node}
use Rattle.js_syntax.specs.Shape.{AreBelow}
use Rattle.js_syntax.specs.Tree.{Trees, nothing, tree}
use Rattle.js_literals.specs.Copies.{side_by_side}
use Rattle.js_literals.specs.View.{tree_at, trees_at, IsNatural, HaveNaturals, HasNaturals, AllHaveNaturals, IsNumber, AreNumbers, IsFit, AreFit}
use Rattle.js_literals.proofs.Nodes.{Stands}

pub side_naturals : (ts : Trees) → HaveNaturals ts → AllHaveNaturals (side_by_side ts)
side_naturals nothing h = tt
side_naturals (tree head kids rest) h = ((h.0, h.1), side_naturals rest h.2)

natural_at : (nodes : List Node) (ks : List ℕ) (i : ℕ) → i < length ks → AllHaveNaturals (trees_at nodes ks) → HasNaturals (tree_at nodes (get_or ks i 0))
natural_at nodes [] i within h = absurd (omega arith)
natural_at nodes (k ∷ ks) zero within h = h.0
natural_at nodes (k ∷ ks) (suc i) within h = natural_at nodes ks i (omega arith) h.1

pub numbers_of : (nodes : List Node) (ks : List ℕ) (n : ℕ) → AllHaveNaturals (trees_at nodes ks) → AreBelow ks n → n < length nodes → AreNumbers nodes ks
numbers_of nodes ks n h below within = All-from_get_or (IsNumber nodes) ks 0
    (λ i there. let lower = below i (get_or ks i 0) (slice_get-get_or ks i 0 there) in (omega (arith, lower, within), natural_at nodes ks i there h))

-- the kids of a node
pub kids_numbers : (nodes : List Node) (n : ℕ) (node : Node) → Stands nodes n node → AreBelow node.kids n → n < length nodes → HasNaturals (tree_at nodes n) → AreNumbers nodes node.kids
kids_numbers nodes n node s below within h =
    numbers_of nodes node.kids n (subst AllHaveNaturals s.parts (side_naturals (tree_at nodes n).kids h.1)) below within

pub own_natural : (nodes : List Node) (n : ℕ) (node : Node) → Stands nodes n node → HasNaturals (tree_at nodes n) → IsNatural node.number
own_natural nodes n node s h = subst IsNatural s.number h.0

pub fit_at : (nodes : List Node) (ks : List ℕ) (i : ℕ) → i < length ks → AreFit (trees_at nodes ks) → IsFit (tree_at nodes (get_or ks i 0))
fit_at nodes [] i within h = absurd (omega arith)
fit_at nodes (k ∷ ks) zero within h = h.0
fit_at nodes (k ∷ ks) (suc i) within h = fit_at nodes ks i (omega arith) h.1
