-- The tree under a node, by what the node has.
use Rattle.std.proofs.Common.{◌≡◌, ℕ, zero, suc, ◌+◌, ◌<◌, List, [], ◌∷◌, ◌++◌, length, Some, refl, sym, ap, ◌∙◌, arith, length-append}
use Rattle.std.specs.Prelude.{slice_get}
use Rattle.std.proofs.lemmas.List.{get_or_append_left}
use Rattle.std.proofs.Math.Seq.{get_or-append_seam}
use Rattle.js_syntax.specs.declared.node.Node.{Node}
use Rattle.js_syntax.specs.Shape.{AreBelow}
use Rattle.js_syntax.specs.Tree.{Trees, nothing, tree, head_of}
use Rattle.js_parser.specs.View.{Root, grown, root_at, root_of, trees_then, none_there}
use Rattle.js_literals.specs.Copies.{Tree, side_by_side, parts}
use Rattle.js_literals.specs.View.{tree_at, trees_at}

-- later nodes change no tree
root_kept : (made : List Root) (ns : List Node) (j : ℕ) → j < length made → root_at (grown made ns) j ≡ root_at made j
unfolding grown
root_kept made [] j h = refl
root_kept made (n ∷ ns) j h =
    root_kept (made ++ root_of made n ∷ []) ns j (omega (arith, h, length-append made (root_of made n ∷ []))) ∙ get_or_append_left made (root_of made n ∷ []) none_there j h

-- the trees of kids that stand below n are the same where the trees below n are
same_trees : (a b : List Root) (ks : List ℕ) (n : ℕ) (after : Trees) → ((j : ℕ) → j < n → root_at a j ≡ root_at b j) → AreBelow ks n
    → trees_then a ks after ≡ trees_then b ks after
same_trees a b [] n after same below = refl
same_trees a b (k ∷ ks) n after same below =
    ap (λ (r : Root). tree r.head r.kids (trees_then a ks after)) (same k (below 0 k refl))
    ∙ ap (λ (t : Trees). tree (root_at b k).head (root_at b k).kids t) (same_trees a b ks n after same (λ i m e. below (suc i) m e))

abbrev root_as : List Root → ℕ → Node → Root
root_as made n node = record { head = head_of n node; kids = trees_then made node.kids nothing }

root_from : (made : List Root) (ns : List Node) (i : ℕ) (node : Node) → slice_get ns i ≡ Some node → AreBelow node.kids (length made + i)
    → root_at (grown made ns) (length made + i) ≡ root_as (grown made ns) (length made + i) node
unfolding grown
root_from made [] zero node e below = absurd (let none : ⊥ = cc in none)
root_from made [] (suc i) node e below = absurd (let none : ⊥ = cc in none)
root_from made (n ∷ ns) zero node e below =
    let same : n ≡ node = cc in
    let r = root_of made n in
    let at : length made + 0 ≡ length made = omega arith in
    let kept = λ (j : ℕ) (h : j < length made). root_kept (made ++ r ∷ []) ns j (omega (arith, h, length-append made (r ∷ []))) ∙ get_or_append_left made (r ∷ []) none_there j h in
    ap (λ (k : ℕ). root_at (grown (made ++ r ∷ []) ns) k) at
    ∙ root_kept (made ++ r ∷ []) ns (length made) (omega (arith, length-append made (r ∷ [])))
    ∙ get_or-append_seam made r [] none_there
    ∙ ap (λ (m : Node). root_as made (length made) m) same
    ∙ ap (λ (t : Trees). record { head = head_of (length made) node; kids = t })
    (same_trees made (grown (made ++ r ∷ []) ns) node.kids (length made) nothing (λ j h. sym (kept j h)) (λ k m f. omega (arith, below k m f)))
    ∙ ap (λ (k : ℕ). root_as (grown (made ++ r ∷ []) ns) k node) (sym at)
root_from made (n ∷ ns) (suc i) node e below =
    let r = root_of made n in
    let at : length made + suc i ≡ length (made ++ r ∷ []) + i = omega (arith, length-append made (r ∷ [])) in
    ap (λ (k : ℕ). root_at (grown (made ++ r ∷ []) ns) k) at
    ∙ root_from (made ++ r ∷ []) ns i node e (λ k m f. omega (arith, below k m f, at))
    ∙ ap (λ (k : ℕ). root_as (grown (made ++ r ∷ []) ns) k node) (sym at)

-- the trees of nodes side by side
pub side_from : (nodes : List Node) (ks : List ℕ) → side_by_side (trees_then (grown [] nodes) ks nothing) ≡ trees_at nodes ks
side_from nodes [] = refl
side_from nodes (k ∷ ks) = ap (λ (ts : List Tree). tree_at nodes k ∷ ts) (side_from nodes ks)

-- what the tree under a node has
pub record Stands (nodes : List Node) (n : ℕ) (node : Node) : Type 0 where
  pub kind : (tree_at nodes n).head.kind ≡ node.kind
  pub name : (tree_at nodes n).head.name ≡ node.name
  pub names : (tree_at nodes n).head.names ≡ node.names
  pub number : (tree_at nodes n).head.value ≡ node.number
  pub parts : parts (tree_at nodes n) ≡ trees_at nodes node.kids

pub stands : (nodes : List Node) (n : ℕ) (node : Node) → slice_get nodes n ≡ Some node → AreBelow node.kids n → Stands nodes n node
stands nodes n node e below =
    let at : n ≡ 0 + n = omega arith in
    let root : root_at (grown [] nodes) n ≡ root_as (grown [] nodes) n node =
    ap (λ (k : ℕ). root_at (grown [] nodes) k) at ∙ root_from [] nodes n node e (λ k m f. omega (arith, below k m f)) ∙ ap (λ (k : ℕ). root_as (grown [] nodes) k node) (sym at) in
    record {
      kind = ap (λ (r : Root). r.head.kind) root;
      name = ap (λ (r : Root). r.head.name) root;
      names = ap (λ (r : Root). r.head.names) root;
      number = ap (λ (r : Root). r.head.value) root;
      parts = ap (λ (r : Root). side_by_side r.kids) root ∙ side_from nodes node.kids;
    }
