-- Small scripts with their answers, which the checker computes.
use Rattle.std.proofs.Common.{◌≡◌, ℕ, Bool, true, false, List, [], ◌∷◌, pos, Some, None, refl}
use Rattle.std.specs.Prelude.{codes}
use Rattle.ivm_text.specs.declared.refusal.RefusalKind.TheVariants as refusals
use Rattle.js_syntax.specs.declared.kind.Kind.{Kind}
use Rattle.js_syntax.specs.declared.kind.Kind.TheVariants as kinds
use Rattle.js_syntax.specs.Tree.{Trees, nothing, tree}
use Rattle.js_lexer.specs.declared.token.Token.{Token}
use Rattle.js_lexer.specs.declared.token.TokenKind.TheVariants as tokens
use Rattle.parser_rules.specs.Classes.{class_of, class_in, words, foreign_words, punctuators, constructors}
use Rattle.parser_rules.specs.Rules.{passing_words}
use Rattle.parser_rules.specs.Work.{Work, State, going, stuck}
use Rattle.parser_rules.specs.Rules.{passes, after, take_one, refused, turns, repeated}
use Rattle.parser_rules.specs.Grammar.{within, answer, accepted, rejected, Answer}
use Rattle.parser_rules.specs.Expressions as e
use Rattle.parser_rules.specs.Statements as s

w : ℕ → List ℕ → Token
w place text = record { kind = tokens.Word; text = text; number = pos 0; place = place; after_line = false }

p : ℕ → List ℕ → Token
p place text = record { kind = tokens.Punct; text = text; number = pos 0; place = place; after_line = false }

n : ℕ → List ℕ → Token
n place text = record { kind = tokens.Num; text = text; number = pos 1; place = place; after_line = false }

-- behind a line terminator
l : Token → Token
l t = record t { after_line = true }

-- the kinds of a tree, in the order in which they stand
data Shape : Type 0 where
  none : Shape
  one : Kind → Shape → Shape → Shape

shape : Trees → Shape
shape nothing = none
shape (tree h k r) = one h.kind (shape k) (shape r)

shape_of : Answer → Shape
shape_of (accepted t) = shape t
shape_of (rejected r) = none

-- Each line is one text, and what the grammar answers.
samples :
    -- `;`
    (shape_of (answer 1 (p 0 (codes ";") ∷ [])) ≡ one kinds.Script (one kinds.Empty none none) none) ×
    -- `a + b * c`
    (shape_of (answer 9 (w 0 (codes "a") ∷ p 2 (codes "+") ∷ w 4 (codes "b") ∷ p 6 (codes "*") ∷ w 8 (codes "c") ∷ [])) ≡ one kinds.Script (one kinds.ExprStmt (one kinds.Add (one kinds.Name none (one kinds.Mul (one kinds.Name none (one kinds.Name none none)) none)) none) none) none) ×
    -- `a - b + c`
    (shape_of (answer 9 (w 0 (codes "a") ∷ p 2 (codes "-") ∷ w 4 (codes "b") ∷ p 6 (codes "+") ∷ w 8 (codes "c") ∷ [])) ≡ one kinds.Script (one kinds.ExprStmt (one kinds.Add (one kinds.Sub (one kinds.Name none (one kinds.Name none none)) (one kinds.Name none none)) none) none) none) ×
    -- `a = b = c`
    (shape_of (answer 9 (w 0 (codes "a") ∷ p 2 (codes "=") ∷ w 4 (codes "b") ∷ p 6 (codes "=") ∷ w 8 (codes "c") ∷ [])) ≡ one kinds.Script (one kinds.ExprStmt (one kinds.Assign (one kinds.Name none (one kinds.Assign (one kinds.Name none (one kinds.Name none none)) none)) none) none) none) ×
    -- `if (a) if (b) c; else d`
    (shape_of (answer 23 (w 0 (codes "if") ∷ p 3 (codes "(") ∷ w 4 (codes "a") ∷ p 5 (codes ")") ∷ w 7 (codes "if") ∷ p 10 (codes "(") ∷ w 11 (codes "b") ∷ p 12 (codes ")") ∷ w 14 (codes "c") ∷ p 15 (codes ";") ∷ w 17 (codes "else") ∷ w 22 (codes "d") ∷ [])) ≡ one kinds.Script (one kinds.If (one kinds.Name none (one kinds.If (one kinds.Name none (one kinds.ExprStmt (one kinds.Name none none) (one kinds.ExprStmt (one kinds.Name none none) none))) (one kinds.Absent none none))) none) none) ×
    -- `(a, b) => a`
    (shape_of (answer 11 (p 0 (codes "(") ∷ w 1 (codes "a") ∷ p 2 (codes ",") ∷ w 4 (codes "b") ∷ p 5 (codes ")") ∷ p 7 (codes "=>") ∷ w 10 (codes "a") ∷ [])) ≡ one kinds.Script (one kinds.ExprStmt (one kinds.Arrow (one kinds.Name none none) none) none) none) ×
    -- `(a, b)`
    (shape_of (answer 6 (p 0 (codes "(") ∷ w 1 (codes "a") ∷ p 2 (codes ",") ∷ w 4 (codes "b") ∷ p 5 (codes ")") ∷ [])) ≡ one kinds.Script (one kinds.ExprStmt (one kinds.Comma (one kinds.Name none (one kinds.Name none none)) none) none) none) ×
    -- `a` line end `(b)`
    (shape_of (answer 5 (w 0 (codes "a") ∷ l (p 2 (codes "(")) ∷ w 3 (codes "b") ∷ p 4 (codes ")") ∷ [])) ≡ one kinds.Script (one kinds.ExprStmt (one kinds.Call (one kinds.Name none (one kinds.Name none none)) none) none) none) ×
    -- `a` line end `++b`
    (shape_of (answer 5 (w 0 (codes "a") ∷ l (p 2 (codes "++")) ∷ w 4 (codes "b") ∷ [])) ≡ one kinds.Script (one kinds.ExprStmt (one kinds.Name none none) (one kinds.ExprStmt (one kinds.PreInc (one kinds.Name none none) none) none)) none) ×
    -- `return` line end `a`
    (shape_of (answer 8 (w 0 (codes "return") ∷ l (w 7 (codes "a")) ∷ [])) ≡ one kinds.Script (one kinds.Return (one kinds.Absent none none) (one kinds.ExprStmt (one kinds.Name none none) none)) none) ×
    -- `a ?? b || c`
    (answer 11 (w 0 (codes "a") ∷ p 2 (codes "??") ∷ w 5 (codes "b") ∷ p 7 (codes "||") ∷ w 10 (codes "c") ∷ []) ≡ rejected (record { kind = refusals.Unexpected; place = 7; word = None })) ×
    -- `if (1) let a = 2;`
    (answer 17 (w 0 (codes "if") ∷ p 3 (codes "(") ∷ n 4 (codes "1") ∷ p 5 (codes ")") ∷ w 7 (codes "let") ∷ w 11 (codes "a") ∷ p 13 (codes "=") ∷ n 15 (codes "2") ∷ p 16 (codes ";") ∷ []) ≡ rejected (record { kind = refusals.Unexpected; place = 7; word = None })) ×
    -- `var a`
    (answer 5 (w 0 (codes "var") ∷ w 4 (codes "a") ∷ []) ≡ rejected (record { kind = refusals.OutOfProfile; place = 0; word = Some (codes "var") })) ×
    -- `(a`
    (answer 2 (p 0 (codes "(") ∷ w 1 (codes "a") ∷ []) ≡ rejected (record { kind = refusals.Unexpected; place = 2; word = None })) ×
    -- `(a` line end `++b)`
    (answer 7 (p 0 (codes "(") ∷ w 1 (codes "a") ∷ l (p 3 (codes "++")) ∷ w 5 (codes "b") ∷ p 6 (codes ")") ∷ []) ≡ rejected (record { kind = refusals.Unexpected; place = 3; word = None })) ×
    -- `a` line end `=> b`
    (answer 6 (w 0 (codes "a") ∷ l (p 2 (codes "=>")) ∷ w 5 (codes "b") ∷ []) ≡ rejected (record { kind = refusals.Unexpected; place = 2; word = None }))
unfolding w p n l shape shape_of class_of class_in words foreign_words punctuators constructors passing_words passes after take_one refused turns repeated within e.further_expression e.expression_list e.comma_before e.element e.elements e.item_list e.declared_name e.parameter e.parameters e.body e.own_name e.name_if_any e.function_expression e.concise_body e.arrow e.leaf e.name_leaf e.number_leaf e.text_leaf e.word_leaf e.array e.property_value e.named_property e.keyed_property e.property e.object e.construction e.primary e.parenthesised e.member e.index e.call e.access e.calls e.stepped e.postfix e.simple_operand e.called_operand e.operand e.prefix e.product e.products e.sum_step e.sums e.comparison e.comparisons e.equality e.equalities e.coalescing e.conjunction e.conjunctions e.disjunction e.logical e.coalescings e.short_circuit e.choice e.conditional e.assigned e.assignment e.offered_item e.further_name e.further_item e.some_items e.items e.unwrapped_first e.behind_names e.behind_items e.covered e.named_arrow e.named_first e.prefix_first e.primary_first e.expression s.ends s.expression_before s.initialiser s.let_binding s.const_binding s.further_let s.further_const s.let_list s.const_list s.function_declaration s.empty_statement s.block s.condition s.else_branch s.alternative s.if_statement s.while_statement s.let_start s.const_start s.for_start s.for_head s.for_statement s.line_or_end s.jump s.ended_expression s.nothing_returned s.returned s.return_statement s.thrown s.throw_statement s.caught_name s.catch_name s.finaliser s.finaliser_if_any s.catch_clause s.only_finaliser s.handlers s.try_statement s.expression_statement s.simple_statement s.statement s.let_declaration s.const_declaration s.item s.script
samples = (refl, refl, refl, refl, refl, refl, refl, refl, refl, refl, refl, refl, refl, refl, refl, refl)
