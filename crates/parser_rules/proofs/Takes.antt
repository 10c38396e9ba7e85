-- Every form takes a token, so that the loops of the grammar end.
use Rattle.std.proofs.Common.{◌≡◌, ℕ, zero, suc, ◌-◌, ◌<◌, ◌≤◌, true, false, List, length, refl, sym, ap, ◌∙◌, subst, arith}
use Rattle.js_lexer.specs.declared.token.Token.{Token}
use Rattle.parser_rules.specs.declared.form.Form.{Form}
use Rattle.parser_rules.specs.declared.form.Form.TheVariants.{Expression, Prefix, Statement, Item, Block, Literal}
use Rattle.parser_rules.specs.declared.form.Why.{Why}
use Rattle.parser_rules.specs.Work.{Work, State, going, stuck}
use Rattle.parser_rules.specs.Rules.{Rule, left, run, passes, repeated, Test}
use Rattle.parser_rules.specs.Grammar.{within, beyond, rule_of}
use Rattle.parser_rules.specs.Expressions.{expression, covered, named_first, name_leaf, own_name, prefix_first, primary_first, primary, number_leaf, text_leaf, word_leaf, leaf, array, object, function_expression, name_if_any, construction, prefix}
use Rattle.parser_rules.specs.Statements.{statement, item, block, empty_statement, if_statement, while_statement, for_statement, try_statement, simple_statement, jump, return_statement, throw_statement, expression_statement, ended_expression, let_declaration, const_declaration, let_list, const_list, function_declaration}
use Rattle.parser_rules.specs.Expressions.{expression_list}
use Rattle.parser_rules.specs.Literals.{literal, negative, constant_word, literal_array, literal_object}
use Rattle.parser_rules.proofs.Laws.{takes, Eats, Keeps, Inside, Turning, Still, run_still, run_eats, run_keeps, turning, repeated_go, repeated_end}

pub rules_take : (form : Form) → takes (rule_of form) ≡ true
unfolding expression covered named_first name_leaf own_name prefix_first primary_first primary number_leaf text_leaf word_leaf leaf array object function_expression name_if_any construction prefix statement item block empty_statement if_statement while_statement for_statement try_statement simple_statement jump return_statement throw_statement expression_statement ended_expression let_declaration const_declaration let_list const_list function_declaration expression_list literal negative constant_word literal_array literal_object
rules_take Expression = refl
rules_take Prefix = refl
rules_take Statement = refl
rules_take Item = refl
rules_take Block = refl
rules_take Literal = refl

beyond_eats : (form : Form) → Eats (beyond form)
beyond_eats form = record { less = λ s. of s }
  where
    of : (s : State) → 0 < left s → left (beyond form s) < left s
    of (going w) h = omega arith
    of (stuck why ts) h = absurd (omega arith)

beyond_keeps : (form : Form) → Keeps (beyond form)
beyond_keeps form = record { at_most = λ s. of s }
  where
    of : (s : State) → left (beyond form s) ≤ left s
    of (going w) = omega arith
    of (stuck why ts) = omega arith

pub within_takes : (n : ℕ) → Inside (within n)
unfolding within
within_takes zero = record { eats = λ form. beyond_eats form; keeps = λ form. beyond_keeps form }
within_takes (suc n) = record { eats = λ form. run_eats (within n) (within_takes n) (rule_of form) (rules_take form); keeps = λ form. run_keeps (within n) (within_takes n) (rule_of form) }

-- ---- a loop of the grammar

abbrev pub looped : ℕ → Test → Rule → State → State
looped n test body s = repeated (passes test) (run (within n) body) s

pub loop_go : (n : ℕ) (test : Test) (body : Rule) (s s' end : State) → takes body ≡ true → passes test s ≡ true → s' ≡ run (within n) body s → looped n test body s ≡ end → looped n test body s' ≡ end
loop_go n test body s s' end e h step inv =
    ap (λ (q : State). looped n test body q) step ∙ sym (repeated_go (passes test) (run (within n) body) (turning (within n) (within_takes n) test body e) s h) ∙ inv

pub loop_less : (n : ℕ) (test : Test) (body : Rule) (s s' : State) → takes body ≡ true → passes test s ≡ true → s' ≡ run (within n) body s → left s' < left s
loop_less n test body s s' e h step = subst (λ (q : State). left q < left s) (sym step) ((turning (within n) (within_takes n) test body e).less s h)

pub loop_end : (n : ℕ) (test : Test) (body : Rule) (s end : State) → passes test s ≡ false → looped n test body s ≡ end → s ≡ end
loop_end n test body s end h inv = sym (repeated_end (passes test) (run (within n) body) s h) ∙ inv

-- ---- levels

pub within_still : (n : ℕ) (form : Form) → Still (within n form)
unfolding within
within_still zero form = record { stays = λ why ts. refl }
within_still (suc n) form = run_still (within n) (within_still n) (rule_of form)

pub within_none : (n : ℕ) (form : Form) (s : State) → n ≡ 0 → within n form s ≡ beyond form s
unfolding within
within_none n form s e = ap (λ (k : ℕ). within k form s) e

pub within_one : (n : ℕ) (form : Form) (s : State) → 0 < n → within n form s ≡ run (within (n - 1)) (rule_of form) s
unfolding within
within_one n form s h = let e : n ≡ suc (n - 1) = omega arith in ap (λ (k : ℕ). within k form s) e
