-- The trees under nodes: each sound list of nodes has just one, and more nodes change none.
use Rattle.std.proofs.Common.{◌≡◌, ℕ, zero, suc, ◌<◌, List, [], ◌∷◌, ◌++◌, length, Some, slice_get, refl, ap, subst, sym, ◌∙◌, arith}
use Rattle.js_syntax.specs.declared.node.Node.{Node}
use Rattle.js_syntax.specs.Tree.{Trees, tree, AreTrees, no_trees, some_trees, head_of, IsTreeOf}

-- an element stays where it is when more are added
pub get_more : {A : Type 0} (xs ys : List A) (k : ℕ) (x : A) → slice_get xs k ≡ Some x
    → slice_get (xs ++ ys) k ≡ Some x
get_more [] ys zero x here = absurd (let none : ⊥ = cc in none)
get_more [] ys (suc k) x here = absurd (let none : ⊥ = cc in none)
get_more (y ∷ xs) ys zero x here = here
get_more (y ∷ xs) ys (suc k) x here = get_more xs ys k x here

-- an element of a list with one more is the last, or stood there before
pub get_less : {A : Type 0} (xs : List A) (y : A) (k : ℕ) (x : A)
    → slice_get (xs ++ y ∷ []) k ≡ Some x → k < length xs → slice_get xs k ≡ Some x
get_less [] y k x here within = absurd (omega arith)
get_less (z ∷ xs) y zero x here within = here
get_less (z ∷ xs) y (suc k) x here within = get_less xs y k x here (omega arith)

pub get_last : {A : Type 0} (xs : List A) (y : A) → slice_get (xs ++ y ∷ []) (length xs) ≡ Some y
get_last [] y = refl
get_last (z ∷ xs) y = get_last xs y

pub trees_more : (nodes more : List Node) {ns : List ℕ} {t : Trees} → AreTrees nodes ns t
    → AreTrees (nodes ++ more) ns t
trees_more nodes more no_trees = no_trees
trees_more nodes more (some_trees {n = n} {node = node} here kids rest) =
    some_trees (get_more nodes more n node here) (trees_more nodes more kids) (trees_more nodes more rest)

-- the nodes with these numbers have one list of trees
pub trees_unique : (nodes : List Node) {ns : List ℕ} {s t : Trees} → AreTrees nodes ns s
    → AreTrees nodes ns t → s ≡ t
trees_unique nodes no_trees no_trees = refl
trees_unique nodes (some_trees {n = n} {node = node} {kids = ks} {rest = rs} here kids rest) (some_trees {node = other} {kids = ks'} {rest = rs'} there kids' rest') =
    let both : Some node ≡ Some other = sym here ∙ there in
    let same : other ≡ node = cc in
    let among : AreTrees nodes (node.kids) ks' =
    subst (λ (v : Node). AreTrees nodes (v.kids) ks') same kids' in
    let e : ks ≡ ks' = trees_unique nodes kids among in
    let f : rs ≡ rs' = trees_unique nodes rest rest' in
    ap (λ k. tree (head_of n node) k rs) e
    ∙ (ap (λ r. tree (head_of n node) ks' r) f ∙ ap (λ v. tree (head_of n v) ks' rs') (sym same))

-- a script has one tree
pub tree_unique : (nodes : List Node) (s t : Trees) → IsTreeOf nodes s → IsTreeOf nodes t → s ≡ t
tree_unique nodes s t (n, last, a) (m, last', b) =
    trees_unique nodes a (subst (λ (k : ℕ). AreTrees nodes (k ∷ []) t) (let e : m ≡ n = omega arith in e) b)
