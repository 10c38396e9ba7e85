-- The parts of a text, and arguments one after the other.
use Rattle.std.proofs.Common.{◌≡◌, ℕ, ◌+◌, ◌-◌, ◌<◌, ◌≤◌, List, [], ◌∷◌, ◌++◌, length, take, get_or, refl, sym, ap, ◌∙◌, subst, arith, add-one}
use Rattle.std.specs.Prelude.{slice_index_or}
use Rattle.std.proofs.lemmas.List.{map-append, take_all}
use Rattle.std.proofs.Math.Seq.{take-suc}
use Rattle.js_syntax.specs.declared.node.Node.{Node}
use Rattle.js_parser.specs.View.{grown, root_at}
use Rattle.js_literals.specs.Copies.{Tree, side_by_side}
use Rattle.js_literals.specs.Told.{IsArgument, AreEach}
use Rattle.js_literals.specs.View.{tree_at, trees_at}
use Rattle.js_literals.specs.declared.argument.Argument.{Argument}

pub no_parts : (nodes : List Node) → length nodes ≡ 0 → side_by_side (root_at (grown [] nodes) (length nodes - 1)).kids ≡ []
unfolding grown
no_parts [] e = refl
no_parts (n ∷ ns) e = absurd (omega arith)

pub two_parts : (ks : List ℕ) → 2 ≤ length ks → length ks < 3 → ks ≡ slice_index_or ks 0 0 ∷ slice_index_or ks 1 0 ∷ []
two_parts [] long short = absurd (omega arith)
two_parts (a ∷ []) long short = absurd (omega arith)
two_parts (a ∷ b ∷ []) long short = refl
two_parts (a ∷ b ∷ d ∷ ks) long short = absurd (omega arith)

each_more : (ts : List Tree) (told : List Argument) (t : Tree) (a : Argument) → AreEach ts told → IsArgument t a → AreEach (ts ++ t ∷ []) (told ++ a ∷ [])
each_more [] [] t a all one = (one, tt)
each_more [] (b ∷ told) t a all one = absurd all
each_more (s ∷ ts) [] t a all one = absurd all
each_more (s ∷ ts) (b ∷ told) t a all one = (all.0, each_more ts told t a all.1 one)

pub each_goes : (nodes : List Node) (ks : List ℕ) (i d : ℕ) (told more : List Argument) (a : Argument) → i < length ks → IsArgument (tree_at nodes (get_or ks i d)) a
    → more ≡ told ++ a ∷ [] → AreEach (trees_at nodes (take i ks)) told → AreEach (trees_at nodes (take (i + 1) ks)) more
each_goes nodes ks i d told more a h one e all =
    let split : trees_at nodes (take (i + 1) ks) ≡ trees_at nodes (take i ks) ++ tree_at nodes (get_or ks i d) ∷ [] =
    ap (λ k. trees_at nodes (take k ks)) (add-one i) ∙ ap (trees_at nodes) (take-suc ks i d h) ∙ map-append (tree_at nodes) (take i ks) (get_or ks i d ∷ []) in
    subst (λ (ts : List Tree). AreEach ts more) (sym split)
    (subst (λ (xs : List Argument). AreEach (trees_at nodes (take i ks) ++ tree_at nodes (get_or ks i d) ∷ []) xs) (sym e) (each_more (trees_at nodes (take i ks)) told (tree_at nodes (get_or ks i d)) a all one))

pub each_ends : (nodes : List Node) (ks : List ℕ) (i : ℕ) (told : List Argument) → length ks ≤ i → AreEach (trees_at nodes (take i ks)) told → AreEach (trees_at nodes ks) told
each_ends nodes ks i told past all = subst (λ (js : List ℕ). AreEach (trees_at nodes js) told) (take_all i ks past) all
