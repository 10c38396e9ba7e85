-- The two kids of a node whose tree has two parts.
use Rattle.std.proofs.Common.{◌≡◌, ℕ, ◌<◌, List, [], ◌∷◌, length, get_or, Some, refl, ap, sym, subst, ◌∙◌, arith}
use Rattle.std.specs.Prelude.{slice_get}
use Rattle.std.proofs.lemmas.Option.{slice_get-get_or}
use Rattle.js_syntax.specs.declared.node.Node.{Node}
use Rattle.js_syntax.specs.Shape.{AreBelow}
use Rattle.js_grammar.specs.Derives.{DerivesLiteral}
use Rattle.js_parser.specs.Parsed.{HasTree}
use Rattle.js_parser.specs.View.{tree_of}
use Rattle.js_literals.specs.Copies.{Tree}
use Rattle.js_literals.specs.Told.{Passes, parts_of_text}
use Rattle.js_literals.specs.declared.argument.FormKind.{FormKind}
use Rattle.js_literals.specs.View.{tree_at, trees_at}
use Rattle.js_literals.proofs.Nodes.{Stands}
use Rattle.js_literals.proofs.Derived.{one_part}

pub record AreTwo (nodes : List Node) (ks : List ℕ) (callee passed : Tree) : Type 0 where
  pub long : length ks ≡ 2
  pub all : ks ≡ get_or ks 0 0 ∷ get_or ks 1 0 ∷ []
  pub first : tree_at nodes (get_or ks 0 0) ≡ callee
  pub second : tree_at nodes (get_or ks 1 0) ≡ passed

pub two_kids : (nodes : List Node) (ks : List ℕ) (callee passed : Tree) → trees_at nodes ks ≡ callee ∷ passed ∷ [] → AreTwo nodes ks callee passed
two_kids nodes [] x y e = absurd (let none : ⊥ = cc in none)
two_kids nodes (a ∷ []) x y e = absurd (let none : ⊥ = cc in none)
two_kids nodes (a ∷ b ∷ []) x y e = record { long = refl; all = refl; first = cc; second = cc }
two_kids nodes (a ∷ b ∷ c ∷ ks) x y e = absurd (let none : ⊥ = cc in none)

pub one_kid : (nodes : List Node) (ks : List ℕ) (x : Tree) → trees_at nodes ks ≡ x ∷ [] → (length ks ≡ 1) × (ks ≡ get_or ks 0 0 ∷ [])
one_kid nodes [] x e = absurd (let none : ⊥ = cc in none)
one_kid nodes (a ∷ []) x e = (refl, refl)
one_kid nodes (a ∷ b ∷ ks) x e = absurd (let none : ⊥ = cc in none)

-- a kid of a node that is there
pub kid_within : (ks kids : List ℕ) (i n m : ℕ) → ks ≡ kids → AreBelow kids n → n < m → i < length ks → get_or ks i 0 < m
kid_within ks kids i n m same below h within =
    let lower = below i (get_or ks i 0) (subst (λ (xs : List ℕ). slice_get xs i ≡ Some (get_or ks i 0)) same (slice_get-get_or ks i 0 within)) in
    omega (arith, lower, h)

-- the kids of a call that passes something
pub call_kids : (nodes : List Node) (n : ℕ) (node : Node) (ks : List ℕ) → Stands nodes n node → ks ≡ node.kids → (form : FormKind) (name : List ℕ) (p : Passes (tree_at nodes n) form name) → AreTwo nodes ks p.callee p.passed
call_kids nodes n node ks s e form name p = two_kids nodes ks p.callee p.passed (ap (trees_at nodes) e ∙ sym s.parts ∙ p.are_parts)

-- the one part of a text of a literal
pub alone : (bytes : List ℕ) (nodes : List Node) (ks : List ℕ) → HasTree DerivesLiteral bytes (tree_of nodes) → parts_of_text (tree_of nodes) ≡ trees_at nodes ks → (length ks ≡ 1) × (ks ≡ get_or ks 0 0 ∷ [])
alone bytes nodes ks h e = let one = one_part bytes (tree_of nodes) h in one_kid nodes ks one.0 (sym e ∙ one.1)
