-- Every form by cases is its rule, and so are the texts.
use Rattle.std.proofs.Common.{◌≡◌, ℕ, List, [], ◌∷◌, refl}
use Rattle.js_syntax.specs.Tree.{Trees}
use Rattle.js_lexer.specs.declared.token.Token.{Token}
use Rattle.parser_rules.specs.declared.class.Class.TheVariants as classes
use Rattle.parser_rules.specs.declared.form.Form.{Form}
use Rattle.parser_rules.specs.declared.form.Form.TheVariants.{Expression, Prefix, Statement, Item, Block, Literal}
use Rattle.parser_rules.specs.Work.{Part, State}
use Rattle.parser_rules.specs.Rules.{Rule, run, ◌▸◌, inside, many, sees_other}
use Rattle.parser_rules.specs.Expressions.{expression, prefix, expression_list, item_list, declared_name, parameters, body}
use Rattle.parser_rules.specs.Statements.{script}
use Rattle.parser_rules.specs.Literals.{literal, literal_text, arguments_text, argument, text_end}
use Rattle.parser_rules.specs.Grammar.{within, rule_of}
use Rattle.parser_rules.proofs.Laws.{Inside, Still}
use Rattle.parser_rules.proofs.Takes.{within_takes, within_still}
use Rattle.js_grammar.specs.Spots.{Spot, spot, Reading, other_than, Many}
use Rattle.js_grammar.specs.Expressions.{ExpressionForm, PrefixForm, ExpressionList, Items, Declares, Parameters, Body}
use Rattle.js_grammar.specs.Literals.{LiteralForm, LiteralText, ArgumentsText}
use Rattle.js_grammar.specs.Derives.{FormOf, Reads, whole_tree, Derives, derives_script, DerivesLiteral, derives_literal, DerivesArguments, derives_arguments}
use Rattle.js_grammar.specs.Exactly.{IsSameGrammar}
use Rattle.js_grammar.proofs.Same.{a_part, a_name, each, Same}
use Rattle.js_grammar.proofs.Loops.{many_same}
use Rattle.js_grammar.proofs.Tests.{asks_other}
use Rattle.js_grammar.proofs.Compound.{block_same}
use Rattle.js_grammar.proofs.Choices.{statement_same, item_same}
use Rattle.js_grammar.proofs.Covers.{Unclosed}
use Rattle.js_grammar.proofs.WholeExpressions.{reads_unclosed}
use Rattle.js_grammar.proofs.Texts.{levels_same, text_same}

-- what is proved of expressions and literals
pub record Parts (at : Form → State → State) (R : Form → Reading Part) : Type 0 where
  pub expression_list_same : Same a_part (run at expression_list) (ExpressionList R)
  pub items_same : Same (each a_part) (run at item_list) (Items R)
  pub declares_same : Same a_name (run at declared_name) Declares
  pub parameters_same : Same (each a_name) (run at parameters) Parameters
  pub body_same : Same a_part (run at body) (Body R)
  pub expression_same : Same a_part (run at expression) (ExpressionForm R)
  pub prefix_same : Same a_part (run at prefix) (PrefixForm R)
  pub literal_same : Same a_part (run at literal) (LiteralForm R)
  pub literal_text_same : Same (each a_part) (run at (inside Literal ▸ text_end)) (LiteralText R)
  pub arguments_text_same : Same (each a_part) (run at (many (sees_other (classes.End ∷ [])) argument)) (ArgumentsText R)

module _ (parts : (at : Form → State → State) → Inside at → ((form : Form) → Still (at form)) → (R : Form → Reading Part) → ((form : Form) → Same a_part (at form) (R form)) → Unclosed R → Parts at R) where
  pub forms_same : (at : Form → State → State) → Inside at → ((form : Form) → Still (at form)) → (R : Form → Reading Part) → ((form : Form) → Same a_part (at form) (R form)) → Unclosed R →
      (form : Form) → Same a_part (run at (rule_of form)) (FormOf R form)
  forms_same at eats still R w u Expression = (parts at eats still R w u).expression_same
  forms_same at eats still R w u Prefix = (parts at eats still R w u).prefix_same
  forms_same at eats still R w u Statement = let s = parts at eats still R w u in statement_same at eats still R w s.expression_list_same s.declares_same s.items_same
  forms_same at eats still R w u Item = let s = parts at eats still R w u in item_same at eats still R w s.expression_list_same s.declares_same s.items_same s.parameters_same s.body_same
  forms_same at eats still R w u Block = let s = parts at eats still R w u in block_same at eats still R w s.expression_list_same s.declares_same s.items_same
  forms_same at eats still R w u Literal = (parts at eats still R w u).literal_same

  level : (n : ℕ) (form : Form) → Same a_part (within n form) (Reads n form)
  level n form = levels_same forms_same n form

  parts_at : (n : ℕ) → Parts (within n) (Reads n)
  parts_at n = parts (within n) (within_takes n) (within_still n) (Reads n) (level n) (reads_unclosed n)

  -- ---- scripts

  script_derived : (n : ℕ) (ts : List Token) (t : Trees) → Derives n ts t → (xs : List Part) × (end : Spot) × Many (other_than (classes.End ∷ [])) (Reads n Item) (spot ts 0) xs end × (whole_tree xs end ≡ t)
  script_derived n ts _ (derives_script {xs = xs} {end = end} m) = (xs, end, m, refl)

  script_same : (n : ℕ) → Same (each a_part) (run (within n) (many (sees_other (classes.End ∷ [])) (inside Item))) (Many (other_than (classes.End ∷ [])) (Reads n Item))
  script_same n = many_same (within n) (within_takes n) (within_still n) (sees_other (classes.End ∷ [])) (other_than (classes.End ∷ [])) (asks_other (classes.End ∷ [])) (inside Item) refl a_part (Reads n Item) (level n Item)

  abbrev items : Rule
  items = many (sees_other (classes.End ∷ [])) (inside Item)

  pub scripts_same : IsSameGrammar script Derives
  unfolding script
  scripts_same = text_same items (λ n. Many (other_than (classes.End ∷ [])) (Reads n Item)) script_same Derives (λ n ts xs end m. derives_script m) script_derived

  -- ---- literals and arguments

  literal_derived : (n : ℕ) (ts : List Token) (t : Trees) → DerivesLiteral n ts t → (xs : List Part) × (end : Spot) × LiteralText (Reads n) (spot ts 0) xs end × (whole_tree xs end ≡ t)
  literal_derived n ts _ (derives_literal {xs = xs} {end = end} m) = (xs, end, m, refl)

  pub literals_same : IsSameGrammar literal_text DerivesLiteral
  unfolding literal_text
  literals_same = text_same (inside Literal ▸ text_end) (λ n. LiteralText (Reads n)) (λ n. (parts_at n).literal_text_same) DerivesLiteral (λ n ts xs end m. derives_literal m) literal_derived

  arguments_derived : (n : ℕ) (ts : List Token) (t : Trees) → DerivesArguments n ts t → (xs : List Part) × (end : Spot) × ArgumentsText (Reads n) (spot ts 0) xs end × (whole_tree xs end ≡ t)
  arguments_derived n ts _ (derives_arguments {xs = xs} {end = end} m) = (xs, end, m, refl)

  abbrev arguments : Rule
  arguments = many (sees_other (classes.End ∷ [])) argument

  pub arguments_same : IsSameGrammar arguments_text DerivesArguments
  unfolding arguments_text
  arguments_same = text_same arguments (λ n. ArgumentsText (Reads n)) (λ n. (parts_at n).arguments_text_same) DerivesArguments (λ n ts xs end m. derives_arguments m) arguments_derived
