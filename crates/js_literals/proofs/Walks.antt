-- The leaves of literals one after the other, and the nodes that they mention.
use Rattle.std.proofs.Common.{◌≡◌, ℕ, ◌+◌, ◌<◌, Bool, true, false, List, [], ◌∷◌, ◌++◌, length, drop, get_or, if◌then◌else◌, refl, sym, ap, ◌∙◌, subst, arith, add-one, drop-cons, append_assoc, append-nil}
use Rattle.std.specs.Prelude.{filter}
use Rattle.std.specs.Map.{keys_of}
use Rattle.std.proofs.lemmas.List.{map-append, length-map, length-append}
use Rattle.std.proofs.lemmas.List.Elements.{filter-append, All-append, All-cons}
use Rattle.ivm_text.specs.declared.copies.Leaf.{Leaf}
use Rattle.ivm_text.specs.declared.copies.Leaf.TheVariants as leaves
use Rattle.js_syntax.specs.declared.node.Node.{Node}
use Rattle.js_literals.specs.Copies.{Tree, is_node, primitive, leaf_at, past, leaves_from, pairs_from}
use Rattle.js_literals.specs.View.{tree_at, trees_at, IsNumber, AreNumbers, Mentions}

-- ---- one literal

pub leaf_node : (n m : ℕ) (t : Tree) → is_node t ≡ true → m ≡ n → leaves.Node m ≡ leaf_at n t
leaf_node n m t e same = ap (λ k. leaves.Node k) same ∙ sym (ap (λ b. if b then leaves.Node n else primitive t) e)

pub leaf_plain : (n : ℕ) (t : Tree) (l : Leaf) → is_node t ≡ false → l ≡ primitive t → l ≡ leaf_at n t
leaf_plain n t l e is = is ∙ sym (ap (λ b. if b then leaves.Node n else primitive t) e)

one_kept : (t : Tree) → is_node t ≡ true → filter is_node (t ∷ []) ≡ t ∷ []
one_kept t e = rw e refl

none_kept : (t : Tree) → is_node t ≡ false → filter is_node (t ∷ []) ≡ []
none_kept t e = rw e refl

pub mentions_node : (nodes : List Node) (n : ℕ) (old new : List ℕ) → is_node (tree_at nodes n) ≡ true → IsNumber nodes n → new ≡ old ++ n ∷ []
    → Mentions nodes (tree_at nodes n ∷ []) old new
mentions_node nodes n old new node within e = record {
  order = ap (trees_at nodes) e ∙ map-append (tree_at nodes) old (n ∷ []) ∙ ap (λ ts. trees_at nodes old ++ ts) (sym (one_kept (tree_at nodes n) node));
  numbers = λ h. subst (λ ns. AreNumbers nodes ns) (sym e)
      (All-append (IsNumber nodes) old (n ∷ []) h (All-cons (IsNumber nodes) n [] within (λ k d out. absurd (omega arith))));
}

pub mentions_none : (nodes : List Node) (t : Tree) (old : List ℕ) → is_node t ≡ false → Mentions nodes (t ∷ []) old old
mentions_none nodes t old e = record {
  order = sym (ap (λ ts. trees_at nodes old ++ ts) (none_kept t e) ∙ append-nil (trees_at nodes old));
  numbers = λ h. h;
}

-- ---- lists

-- the number of the next node
mentions_past : (nodes : List Node) (t : Tree) (old new : List ℕ) → Mentions nodes (t ∷ []) old new → length new ≡ past (length old) t
mentions_past nodes t old new m =
    sym (length-map new (tree_at nodes)) ∙ ap length m.order ∙ length-append (trees_at nodes old) (filter is_node (t ∷ []))
    ∙ ap (λ k. k + length (filter is_node (t ∷ []))) (length-map old (tree_at nodes)) ∙ by (is_node t) (length old)
  where
    by : (b : Bool) (k : ℕ) → k + length (if b then t ∷ [] else []) ≡ (if b then k + 1 else k)
    by true k = refl
    by false k = omega arith

-- what is read of a list of literals, where `rest` is still to be read
pub record Walk (nodes : List Node) (rest all : List Tree) (start now : List ℕ) : Type 0 where
  pub order : trees_at nodes now ++ filter is_node rest ≡ trees_at nodes start ++ filter is_node all
  pub numbers : AreNumbers nodes start → AreNumbers nodes now

pub walk_begins : (nodes : List Node) (all : List Tree) (start : List ℕ) → Walk nodes all all start start
walk_begins nodes all start = record { order = refl; numbers = λ h. h }

pub walk_goes : (nodes : List Node) (t : Tree) (rest all : List Tree) (start now next : List ℕ) → Mentions nodes (t ∷ []) now next
    → Walk nodes (t ∷ rest) all start now → Walk nodes rest all start next
walk_goes nodes t rest all start now next m w = record {
  order = ap (λ ts. ts ++ filter is_node rest) m.order ∙ append_assoc (trees_at nodes now) (filter is_node (t ∷ [])) (filter is_node rest)
      ∙ ap (λ ts. trees_at nodes now ++ ts) (sym (filter-append is_node (t ∷ []) rest)) ∙ w.order;
  numbers = λ h. m.numbers (w.numbers h);
}

pub walk_ends : (nodes : List Node) (all : List Tree) (start now : List ℕ) → Walk nodes [] all start now → Mentions nodes all start now
walk_ends nodes all start now w = record { order = sym (append-nil (trees_at nodes now)) ∙ w.order; numbers = w.numbers }

pub leaves_go : (nodes : List Node) (t : Tree) (rest : List Tree) (done more whole : List Leaf) (l : Leaf) (now next : List ℕ)
    → l ≡ leaf_at (length now) t → Mentions nodes (t ∷ []) now next → more ≡ done ++ l ∷ []
    → done ++ leaves_from (length now) (t ∷ rest) ≡ whole → more ++ leaves_from (length next) rest ≡ whole
leaves_go nodes t rest done more whole l now next el m em e =
    ap (λ ls. ls ++ leaves_from (length next) rest) em ∙ append_assoc done (l ∷ []) (leaves_from (length next) rest)
    ∙ ap (λ k. done ++ l ∷ leaves_from k rest) (mentions_past nodes t now next m)
    ∙ ap (λ x. done ++ x ∷ leaves_from (past (length now) t) rest) el ∙ e

pub pairs_go : (nodes : List Node) (key : List ℕ) (t : Tree) (rest : List (List ℕ × Tree)) (done more whole : List (List ℕ × Leaf)) (l : Leaf) (now next : List ℕ)
    → l ≡ leaf_at (length now) t → Mentions nodes (t ∷ []) now next → more ≡ done ++ (key, l) ∷ []
    → done ++ pairs_from (length now) ((key, t) ∷ rest) ≡ whole → more ++ pairs_from (length next) rest ≡ whole
pairs_go nodes key t rest done more whole l now next el m em e =
    ap (λ ls. ls ++ pairs_from (length next) rest) em ∙ append_assoc done ((key, l) ∷ []) (pairs_from (length next) rest)
    ∙ ap (λ k. done ++ (key, l) ∷ pairs_from k rest) (mentions_past nodes t now next m)
    ∙ ap (λ x. done ++ (key, x) ∷ pairs_from (past (length now) t) rest) el ∙ e

-- the trees from a place on
pub trees_from : (nodes : List Node) (ks : List ℕ) (i d : ℕ) → i < length ks → trees_at nodes (drop i ks) ≡ tree_at nodes (get_or ks i d) ∷ trees_at nodes (drop (i + 1) ks)
trees_from nodes ks i d h = rw (add-one, drop-cons ks i d) refl

pub keys_go : (done more : List (List ℕ × Leaf)) (key : List ℕ) (l : Leaf) (rest whole : List (List ℕ)) → more ≡ done ++ (key, l) ∷ []
    → keys_of done ++ key ∷ rest ≡ whole → keys_of more ++ rest ≡ whole
keys_go done more key l rest whole em e =
    ap (λ ps. keys_of ps ++ rest) em ∙ ap (λ ks. ks ++ rest) (map-append (λ (p : List ℕ × Leaf). p.0) done ((key, l) ∷ []))
    ∙ append_assoc (keys_of done) (key ∷ []) rest ∙ e
