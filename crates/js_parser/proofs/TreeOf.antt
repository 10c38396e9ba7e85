-- The tree that is told of a script is the tree under its root.
use Rattle.std.proofs.Common.{◌≡◌, ℕ, zero, suc, ◌-◌, ◌<◌, ◌≤◌, List, [], ◌∷◌, ◌++◌, length, Some, inl, inr, refl, sym, ap, subst, ◌∙◌, arith, append_assoc, append-nil}
use Rattle.std.specs.Prelude.{slice_get, ◌⊎◌}
use Rattle.std.proofs.lemmas.List.{length-append, get_or_append_left}
use Rattle.std.proofs.Math.Seq.{get_or-append_seam}
use Rattle.js_syntax.specs.declared.node.Node.{Node}
use Rattle.js_syntax.specs.Tree.{Trees, nothing, tree, AreTrees, no_trees, some_trees, IsTreeOf}
use Rattle.js_syntax.specs.Tree as syntax
use Rattle.js_syntax.specs.Shape.{AreBelow}
use Rattle.js_parser.specs.Below.{AreBelowFrom}
use Rattle.js_parser.specs.View.{Root, none_there, root_at, root_of, trees_then, grown}
use Rattle.js_parser.specs.View.{tree_of}

-- what is made of a node, whatever its number
abbrev pub root_in : List Root → ℕ → Node → Root
root_in made n node = record { head = syntax.head_of n node; kids = trees_then made node.kids nothing }

first_below : (n m : ℕ) (ms : List ℕ) → AreBelow (m ∷ ms) n → m < n
first_below n m ms b = b 0 m refl

rest_below : (n m : ℕ) (ms : List ℕ) → AreBelow (m ∷ ms) n → AreBelow ms n
rest_below n m ms b = λ k x e. b (suc k) x e

-- the trees of numbers that are there stay when more are made
trees_same : (made more : List Root) (ns : List ℕ) → AreBelow ns (length made) → trees_then (made ++ more) ns nothing ≡ trees_then made ns nothing
trees_same made more [] b = refl
trees_same made more (n ∷ ns) b =
    let e : root_at (made ++ more) n ≡ root_at made n = get_or_append_left made more none_there n (first_below (length made) n ns b) in
    ap (λ (r : Root). tree r.head r.kids (trees_then (made ++ more) ns nothing)) e
    ∙ ap (λ (t : Trees). tree (root_at made n).head (root_at made n).kids t) (trees_same made more ns (rest_below (length made) n ns b))

-- which node stands at a number, where one more is behind the others
one_behind : (front : List Node) (m : Node) (n : ℕ) (x : Node) → slice_get (front ++ m ∷ []) n ≡ Some x → (slice_get front n ≡ Some x) ⊎ ((n ≡ length front) × (m ≡ x))
one_behind [] m zero x e = inr (refl, same e)
  where
    same : Some m ≡ Some x → m ≡ x
    same e = cc
one_behind [] m (suc n) x e = absurd (let none : ⊥ = cc in none)
one_behind (f ∷ front) m zero x e = inl e
one_behind (f ∷ front) m (suc n) x e = elim (one_behind front m n x e) [
  | inl h ↦ inl h
  | inr h ↦ inr (ap suc h.0, h.1)
]

there : (front : List Node) (n : ℕ) (x : Node) → slice_get front n ≡ Some x → n < length front
there [] n x e = absurd (let none : ⊥ = cc in none)
there (f ∷ front) zero x e = omega arith
there (f ∷ front) (suc n) x e = omega (arith, there front n x e)

-- the trees that were made are those of the nodes so far
pub record Holds (made : List Root) (front : List Node) : Type 0 where
  pub long : length made ≡ length front
  pub below : (n : ℕ) (x : Node) → slice_get front n ≡ Some x → AreBelow x.kids n
  pub is : (n : ℕ) (x : Node) → slice_get front n ≡ Some x → root_at made n ≡ root_in made n x

more_below : (ms : List ℕ) (n k : ℕ) → AreBelow ms n → n ≤ k → AreBelow ms k
more_below ms n k b h = λ i m e. omega (arith, b i m e)

holds_one_more : (made : List Root) (front : List Node) (m : Node) → Holds made front → AreBelow m.kids (length front) → Holds (made ++ root_of made m ∷ []) (front ++ m ∷ [])
holds_one_more made front m h b = record {
  long = omega (arith, length-append made (root_of made m ∷ []), length-append front (m ∷ []), h.long);
  below = λ n x e. elim (one_behind front m n x e) [
    | inl p ↦ h.below n x p
    | inr p ↦ subst (λ (y : Node). AreBelow y.kids n) p.1 (subst (λ (k : ℕ). AreBelow m.kids k) (sym p.0) b)
  ];
  is = λ n x e. elim (one_behind front m n x e) [
    | inl p ↦ before n x p
    | inr p ↦ subst (λ (y : Node). root_at (made ++ root_of made m ∷ []) n ≡ root_in (made ++ root_of made m ∷ []) n y) p.1 (last n p.0)
  ];
}
  where
    before : (n : ℕ) (x : Node) → slice_get front n ≡ Some x → root_at (made ++ root_of made m ∷ []) n ≡ root_in (made ++ root_of made m ∷ []) n x
    before n x p =
        let k : n < length made = omega (arith, there front n x p, h.long) in
        get_or_append_left made (root_of made m ∷ []) none_there n k ∙ h.is n x p
        ∙ ap (λ (t : Trees). record { head = syntax.head_of n x; kids = t }) (sym (trees_same made (root_of made m ∷ []) x.kids (more_below x.kids n (length made) (h.below n x p) (omega arith))))

    last : (n : ℕ) → n ≡ length front → root_at (made ++ root_of made m ∷ []) n ≡ root_in (made ++ root_of made m ∷ []) n m
    last n e =
        let k : n ≡ length made = omega (arith, e, h.long) in
        ap (λ (i : ℕ). root_at (made ++ root_of made m ∷ []) i) k ∙ get_or-append_seam made (root_of made m) [] none_there
        ∙ ap (λ (i : ℕ). record { head = syntax.head_of i m; kids = trees_then made m.kids nothing }) (sym k)
        ∙ ap (λ (t : Trees). record { head = syntax.head_of n m; kids = t }) (sym (trees_same made (root_of made m ∷ []) m.kids (subst (λ (i : ℕ). AreBelow m.kids i) (sym h.long) b)))

holds_more : (made : List Root) (front ns : List Node) → Holds made front → AreBelowFrom (length front) ns → Holds (grown made ns) (front ++ ns)
unfolding grown
holds_more made front [] h s = subst (λ (l : List Node). Holds made l) (sym (append-nil front)) h
holds_more made front (n ∷ ns) h s =
    subst (λ (l : List Node). Holds (grown (made ++ root_of made n ∷ []) ns) l) (append_assoc front (n ∷ []) ns)
    (holds_more (made ++ root_of made n ∷ []) (front ++ n ∷ []) ns (holds_one_more made front n h s.0) (subst (λ (k : ℕ). AreBelowFrom k ns) (sym (length-append front (n ∷ []))) s.1))

pub all_hold : (nodes : List Node) → AreBelowFrom 0 nodes → Holds (grown [] nodes) nodes
all_hold nodes s = holds_more [] [] nodes (record { long = refl; below = λ n x e. absurd (let none : ⊥ = cc in none); is = λ n x e. absurd (let none : ⊥ = cc in none) }) s

-- the node of a number that is there
found : (nodes : List Node) (n : ℕ) → n < length nodes → (x : Node) × (slice_get nodes n ≡ Some x)
found [] n h = absurd (omega arith)
found (x ∷ nodes) zero h = (x, refl)
found (x ∷ nodes) (suc n) h = found nodes n (omega arith)

-- the trees under numbers below a bound
trees_under : (bound : ℕ) (nodes : List Node) (ns : List ℕ) → Holds (grown [] nodes) nodes → AreBelow ns bound → bound ≤ length nodes → AreTrees nodes ns (trees_then (grown [] nodes) ns nothing)
trees_under bound nodes [] h b l = no_trees
trees_under zero nodes (n ∷ ns) h b l = absurd (omega (arith, first_below 0 n ns b))
trees_under (suc bound) nodes (n ∷ ns) h b l =
    let (x, e) = found nodes n (omega (arith, first_below (suc bound) n ns b)) in
    let kids = trees_under bound nodes x.kids h (more_below x.kids n bound (h.below n x e) (omega (arith, first_below (suc bound) n ns b))) (omega arith) in
    let rest = trees_under (suc bound) nodes ns h (rest_below (suc bound) n ns b) l in
    subst (λ (r : Root). AreTrees nodes (n ∷ ns) (tree r.head r.kids (trees_then (grown [] nodes) ns nothing))) (sym (h.is n x e)) (some_trees e kids rest)

only_below : (n k : ℕ) → n < k → AreBelow (n ∷ []) k
only_below n k h = λ i m e. of i m e
  where
    of : (i m : ℕ) → slice_get (n ∷ []) i ≡ Some m → m < k
    of zero m e = let s : n ≡ m = cc in subst (λ (x : ℕ). x < k) s h
    of (suc i) m e = absurd (let none : ⊥ = cc in none)

pub its_tree : (nodes : List Node) → AreBelowFrom 0 nodes → 0 < length nodes → IsTreeOf nodes (tree_of nodes)
its_tree nodes s h =
    (length nodes - 1, omega arith, trees_under (length nodes) nodes ((length nodes - 1) ∷ []) (all_hold nodes s) (only_below (length nodes - 1) (length nodes) (omega arith)) (omega arith))
