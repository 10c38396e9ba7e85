-- The first part of a literal, and what stands for a literal of no node.
use Rattle.std.proofs.Common.{◌≡◌, ℕ, ◌<◌, ◌≤◌, true, false, List, [], ◌∷◌, length, get_or, if◌then◌else◌, sym, ap, ◌∙◌, arith, pos, neg_ℤ}
use Rattle.ivm_text.specs.declared.copies.Leaf.{Leaf}
use Rattle.ivm_text.specs.declared.copies.Leaf.TheVariants as leaves
use Rattle.js_syntax.specs.declared.node.Node.{Node}
use Rattle.js_literals.specs.Copies.{Tree, parts, is_minus, constant, primitive, value_of_first}
use Rattle.js_literals.specs.View.{trees_at}
use Rattle.js_literals.proofs.Nodes.{Stands}

pub first_there : (nodes : List Node) (ks : List ℕ) (ts : List Tree) (node : Node) → ts ≡ trees_at nodes ks → 1 ≤ length ks → Stands nodes (get_or ks 0 0) node
    → value_of_first ts ≡ node.number
first_there nodes [] ts node e long s = absurd (omega arith)
first_there nodes (k ∷ ks) ts node e long s = ap value_of_first e ∙ s.number

pub first_missing : (nodes : List Node) (ks : List ℕ) (ts : List Tree) → ts ≡ trees_at nodes ks → length ks < 1 → value_of_first ts ≡ pos 0
first_missing nodes [] ts e short = ap value_of_first e
first_missing nodes (k ∷ ks) ts e short = absurd (omega arith)

pub is_negative : (t : Tree) (l : Leaf) → is_minus t.head.kind ≡ true → l ≡ leaves.Num (neg_ℤ (value_of_first (parts t))) → l ≡ primitive t
is_negative t l e is =
    is ∙ sym (ap (λ b. if b then leaves.Num (neg_ℤ (value_of_first (parts t))) else constant t.head.kind t.head.value) e)

pub is_constant : (t : Tree) (l : Leaf) → is_minus t.head.kind ≡ false → l ≡ constant t.head.kind t.head.value → l ≡ primitive t
is_constant t l e is =
    is ∙ sym (ap (λ b. if b then leaves.Num (neg_ℤ (value_of_first (parts t))) else constant t.head.kind t.head.value) e)
