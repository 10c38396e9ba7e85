-- A text has one value.
use Rattle.std.proofs.Common.{◌≡◌, ℕ, List, [], ◌∷◌, Some, refl, sym, ap, subst, ◌∙◌, true≢false}
use Rattle.ivm_text.specs.declared.copies.Copy.{Copy}
use Rattle.ivm_text.specs.declared.copies.CopyNode.{CopyNode}
use Rattle.ivm_text.specs.declared.copies.Leaf.TheVariants as leaves
use Rattle.js_syntax.specs.Tree.{Trees}
use Rattle.js_lexer.specs.declared.token.Token.{Token}
use Rattle.js_lexer.proofs.OneReading.{has_one_reading}
use Rattle.parser_rules.specs.Grammar.{limit}
use Rattle.js_grammar.specs.Exactly.{Derivation}
use Rattle.js_grammar.specs.Derives.{DerivesLiteral, DerivesArguments}
use Rattle.js_grammar.proofs.Grammar.{literals_same, arguments_same}
use Rattle.js_parser.specs.Parsed.{HasTree}
use Rattle.js_literals.specs.Copies.{Tree, nodes_from, AreNodesOf, IsCopyOf, leaf_alone, in_nodes}
use Rattle.js_literals.specs.Told.{IsArgument, AreEach, Passes, form_of_name, parts_of_text}
use Rattle.js_literals.specs.One.{HasOneValue}
use Rattle.js_literals.specs.declared.argument.FormKind.{FormKind}
use Rattle.js_literals.specs.declared.argument.Argument.{Argument}
use Rattle.js_literals.specs.declared.argument.Argument.TheVariants as arguments
use Rattle.js_literals.proofs.OneOrder.{same_order}

abbrev with_nodes : List CopyNode → Copy
with_nodes ns = record { nodes = ns; root = leaves.Node 0 }

same_nodes : (t : Tree) (x y : List CopyNode) → AreNodesOf t x → AreNodesOf t y → x ≡ y
same_nodes t x y p q = p.are_told ∙ ap (nodes_from 1) (same_order t p.order q.order p.is_order q.is_order) ∙ sym q.are_told

pub same_copy : {t : Tree} {a b : Copy} → IsCopyOf t a → IsCopyOf t b → a ≡ b
same_copy (leaf_alone e) (leaf_alone f) = refl
same_copy (leaf_alone e) (in_nodes f n) = absurd (true≢false (sym f ∙ e))
same_copy (in_nodes e n) (leaf_alone f) = absurd (true≢false (sym e ∙ f))
same_copy {t = t} (in_nodes {told = x} e n) (in_nodes {told = y} f m) = ap with_nodes (same_nodes t x y n m)

same_form : (t : Tree) (f g : FormKind) (n m : List ℕ) → Passes t f n → Passes t g m → arguments.Form f n ≡ arguments.Form g m
same_form t f g n m p q =
    let both : p.callee ∷ p.passed ∷ [] ≡ q.callee ∷ q.passed ∷ [] = sym p.are_parts ∙ q.are_parts in
    let callee : p.callee ≡ q.callee = cc in
    let passed : p.passed ≡ q.passed = cc in
    let forms : Some f ≡ Some g = sym p.is_form ∙ ap (λ (u : Tree). form_of_name u.head.name) callee ∙ q.is_form in
    let names : Some n ≡ Some m = sym p.is_name ∙ ap (λ (u : Tree). u.head.name) passed ∙ q.is_name in
    let form : f ≡ g = cc in
    let name : n ≡ m = cc in
    ap (λ k. arguments.Form k n) form ∙ ap (λ us. arguments.Form g us) name

same_argument : (t : Tree) (a b : Argument) → IsArgument t a → IsArgument t b → a ≡ b
same_argument t (arguments.Literal x) (arguments.Literal y) p q = ap (λ copy. arguments.Literal copy) (same_copy p.1 q.1)
same_argument t (arguments.Literal x) (arguments.Form f n) p q = absurd (true≢false (sym q.0 ∙ p.0))
same_argument t (arguments.Form f n) (arguments.Literal y) p q = absurd (true≢false (sym p.0 ∙ q.0))
same_argument t (arguments.Form f n) (arguments.Form g m) p q = same_form t f g n m p.1 q.1

same_arguments : (ts : List Tree) (xs ys : List Argument) → AreEach ts xs → AreEach ts ys → xs ≡ ys
same_arguments [] [] [] p q = refl
same_arguments [] [] (y ∷ ys) p q = absurd q
same_arguments [] (x ∷ xs) ys p q = absurd p
same_arguments (t ∷ ts) [] ys p q = absurd p
same_arguments (t ∷ ts) (x ∷ xs) [] p q = absurd q
same_arguments (t ∷ ts) (x ∷ xs) (y ∷ ys) p q =
    ap (λ a. a ∷ xs) (same_argument t x y p.0 q.0) ∙ ap (λ rest. y ∷ rest) (same_arguments ts xs ys p.1 q.1)

same_tree : (Derived : Derivation) → ((levels others : ℕ) (ts : List Token) (t u : Trees) → Derived levels ts t → Derived others ts u → t ≡ u) →
    (bytes : List ℕ) (s t : Trees) → HasTree Derived bytes s → HasTree Derived bytes t → s ≡ t
same_tree Derived once bytes s t p q =
    let tokens : p.tokens ≡ q.tokens = (has_one_reading bytes).tokens p.tokens q.tokens p.are_its_tokens q.are_its_tokens in
    once limit limit q.tokens s t (subst (λ (ts : List Token). Derived limit ts s) tokens p.derives) q.derives

pub has_one_value : (bytes : List ℕ) → HasOneValue bytes
has_one_value bytes = record {
  literal = λ a b p q.
      let trees = same_tree DerivesLiteral literals_same.once bytes p.text_tree q.text_tree p.is_its_tree q.is_its_tree in
      let one : p.literal ∷ [] ≡ q.literal ∷ [] = sym p.is_all ∙ ap parts_of_text trees ∙ q.is_all in
      let same : p.literal ≡ q.literal = cc in
      same_copy (subst (λ (t : Tree). IsCopyOf t a) same p.is_copied) q.is_copied;
  arguments = λ xs ys p q.
      let trees = same_tree DerivesArguments arguments_same.once bytes p.text_tree q.text_tree p.is_its_tree q.is_its_tree in
      same_arguments (parts_of_text q.text_tree) xs ys (subst (λ (t : Trees). AreEach (parts_of_text t) xs) trees p.are_told) q.are_told;
}
