-- How reading begins and ends.
use Rattle.std.proofs.Common.{◌≡◌, ℕ, zero, suc, ◌+◌, ◌-◌, ◌<◌, refl, subst, take, List, [], ◌∷◌, ◌++◌, length, drop, Option, None, Some, sym, ap, ◌∙◌, arith}
use Rattle.std.specs.Prelude.{MatchOption, IfSome}
use Rattle.std.specs.Option.{IsSome}
use Rattle.ivm_text.specs.declared.refusal.Refusal.{Refusal}
use Rattle.js_lexer.specs.declared.token.Token.{Token}
use Rattle.js_syntax.specs.declared.node.Node.{Node}
use Rattle.js_syntax.specs.declared.kind.Kind.TheVariants as kinds
use Rattle.js_syntax.specs.Tree.{Trees, nothing, tree}
use Rattle.parser_rules.specs.declared.form.Why.{Why}
use Rattle.parser_rules.specs.Work.{Part, State, going}
use Rattle.parser_rules.specs.Rules.{Rule, run}
use Rattle.parser_rules.specs.Grammar.{within, limit, at_start, reading, answer_by, answer_of, accepted, rejected, refusal_at, tree_of_parts}
use Rattle.js_parser.specs.declared.draft.Piece.{Piece}
use Rattle.js_parser.specs.declared.draft.Draft.{Draft}
use Rattle.js_parser.specs.declared.reader.Reader.{Reader}
use Rattle.std.proofs.lemmas.List.{length-append, length-take-le}
use Rattle.js_parser.specs.Accepted.{HasRoot}
use Rattle.js_parser.specs.View.{Root, grown, root_at, root_of, parts_then, frames_then, work_of}
use Rattle.js_parser.specs.Changes.{work_in}
use Rattle.js_parser.specs.State.{state_of, rest_of}
use Rattle.js_parser.specs.View.{tree_of}
use Rattle.js_parser.proofs.Works.{fresh_draft, last_part, no_parts, prefix_kept}
use Rattle.js_parser.proofs.Steps.{state_going, state_stuck}

pub started : (ts : List Token) (nodes : List Node) (top outer : Draft) (below : List Draft) → nodes ≡ [] → top ≡ fresh_draft kinds.Script 0 → below ≡ [] ++ outer ∷ []
    → outer ≡ fresh_draft kinds.Absent 0 → going (work_of (drop 0 ts) nodes top below) ≡ at_start ts
unfolding grown parts_then frames_then
started ts nodes top outer below en et eb eo =
    ap (λ (n : List Node). going (work_of (drop 0 ts) n top below)) en
    ∙ ap (λ (t : Draft). going (work_of (drop 0 ts) [] t below)) et
    ∙ ap (λ (b : List Draft). going (work_of (drop 0 ts) [] (fresh_draft kinds.Script 0) b)) eb
    ∙ ap (λ (o : Draft). going (work_of (drop 0 ts) [] (fresh_draft kinds.Script 0) (o ∷ []))) eo

pub read_whole : (whole : Rule) (ts : List Token) (s0 s : State) → s0 ≡ at_start ts → s ≡ run (within limit) whole s0 → s ≡ reading limit whole ts
read_whole whole ts s0 s e0 e = e ∙ ap (λ (q : State). run (within limit) whole q) e0

pub rejected_as : (whole : Rule) (end : ℕ) (ts : List Token) (r : Reader) (why : Why) (x : Refusal) → state_of r ≡ reading limit whole ts → r.refused ≡ Some why → x ≡ refusal_at end why (rest_of r) → answer_by whole end ts ≡ rejected x
rejected_as whole end ts r why x e stands is =
    ap (λ (s : State). answer_of end s) (sym e ∙ state_stuck r why stands) ∙ ap (λ (y : Refusal). rejected y) (sym is)

pub accepted_as : (whole : Rule) (end : ℕ) (ts : List Token) (r : Reader) (t : Trees) → state_of r ≡ reading limit whole ts → r.refused ≡ None → tree_of_parts (work_in (rest_of r) r.builder).top.parts ≡ t → answer_by whole end ts ≡ accepted t
accepted_as whole end ts r t e goes is = ap (λ (s : State). answer_of end s) (sym e ∙ state_going r goes) ∙ ap (λ (u : Trees). accepted u) is

-- the first nodes have the trees that they had among all
root_kept : (made : List Root) (ns : List Node) (k j : ℕ) → j < length made + k → root_at (grown made (take k ns)) j ≡ root_at (grown made ns) j
unfolding grown
root_kept made ns zero j h = sym (prefix_kept made ns j (omega arith))
root_kept made [] (suc k) j h = refl
root_kept made (n ∷ ns) (suc k) j h = root_kept (made ++ root_of made n ∷ []) ns k j (omega (arith, length-append made (root_of made n ∷ [])))

-- the tree of the last part is that of the nodes up to its own
finished_tree : (nodes : List Node) (pieces front : List Piece) (p : Piece) → pieces ≡ front ++ p ∷ [] → p.node < length nodes
    → tree_of_parts (parts_then (grown [] nodes) pieces []) ≡ tree_of (take (p.node + 1) nodes)
finished_tree nodes pieces front p e there =
    let first = take (p.node + 1) nodes in
    let at : length first - 1 ≡ p.node = omega (arith, length-take-le (p.node + 1) nodes (omega arith)) in
    ap (λ (ps : List Part). tree_of_parts ps) (last_part (grown [] nodes) pieces front p e)
    ∙ sym (ap (λ (n : ℕ). tree (root_at (grown [] first) n).head (root_at (grown [] first) n).kids nothing) at
    ∙ ap (λ (r : Root). tree r.head r.kids nothing) (root_kept [] nodes (p.node + 1) p.node (omega arith)))

-- which part is the last one, if there is one
abbrev IsLast : List Piece → Option Piece → Type 0
IsLast pieces last = MatchOption last (pieces ≡ []) (λ p. (front : List Piece) × (pieces ≡ front ++ p ∷ []))

pub last_tree_at : (nodes first : List Node) (pieces : List Piece) (last : Option Piece) (p : Piece) → IfSome last (λ p. p.node < length nodes) → IsLast pieces last
    → last ≡ Some p → first ≡ take (p.node + 1) nodes → tree_of_parts (parts_then (grown [] nodes) pieces []) ≡ tree_of first
last_tree_at nodes first pieces last p known is here taken =
    let there : p.node < length nodes = subst (λ (o : Option Piece). IfSome o (λ q. q.node < length nodes)) here known in
    let (front, e) = subst (λ (o : Option Piece). IsLast pieces o) here is in
    finished_tree nodes pieces front p e there ∙ ap tree_of (sym taken)

-- a tree with a root has a last part
pub some_last : (made : List Root) (pieces : List Piece) (last : Option Piece) → IsLast pieces last → HasRoot (tree_of_parts (parts_then made pieces [])) → IsSome last
some_last made pieces (Some p) is root = refl
some_last made pieces None none root = absurd (subst (λ (ps : List Part). HasRoot (tree_of_parts ps)) (no_parts made pieces none) root)
