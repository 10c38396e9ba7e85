-- The grammar by cases is the table of rules.
use Rattle.parser_rules.specs.declared.form.Form.{Form}
use Rattle.parser_rules.specs.declared.class.Class.{Class}
use Rattle.parser_rules.specs.Work.{Part, State}
use Rattle.parser_rules.specs.Rules.{run}
use Rattle.parser_rules.specs.Expressions.{expression_list, elements, simple_operand}
use Rattle.parser_rules.specs.Statements.{script}
use Rattle.parser_rules.specs.Literals.{literal_text, arguments_text}
use Rattle.parser_rules.proofs.Laws.{Inside, Still}
use Rattle.js_grammar.specs.Spots.{Reading}
use Rattle.js_grammar.specs.Expressions.{ExpressionList, Elements, Simple}
use Rattle.js_grammar.specs.Derives.{Derives, DerivesLiteral, DerivesArguments}
use Rattle.js_grammar.specs.Exactly.{IsSameGrammar}
use Rattle.js_grammar.proofs.Same.{a_part, each, Same}
use Rattle.js_grammar.proofs.Lists.{expression_list_same, elements_same, items_same, declares_same, parameters_same, body_same}
use Rattle.js_grammar.proofs.Operands.{simple_same}
use Rattle.js_grammar.proofs.Tails.{prefix_same}
use Rattle.js_grammar.proofs.Levels.{conditional_same, assignment_same}
use Rattle.js_grammar.proofs.WholeExpressions.{expression_same}
use Rattle.js_grammar.proofs.Literals.{literal_same, literal_text_same, arguments_text_same}
use Rattle.js_grammar.proofs.Covers.{Unclosed}
use Rattle.js_grammar.proofs.Forms as forms
use Rattle.js_grammar.proofs.Forms.{Parts}

module _ (at : Form → State → State) (eats : Inside at) (still : (form : Form) → Still (at form)) (R : Form → Reading Part) (within : (form : Form) → Same a_part (at form) (R form)) (unclosed : Unclosed R) where
  list : Same a_part (run at expression_list) (ExpressionList R)
  list = expression_list_same at eats still R within

  several : (closing : Class) → Same (each a_part) (run at (elements closing)) (Elements R closing)
  several closing = elements_same at eats still R within closing

  simple : Same a_part (run at simple_operand) (Simple R)
  simple = simple_same at eats still R within

  pub parts : Parts at R
  parts = record {
    expression_list_same = list;
    items_same = items_same at eats still R within;
    declares_same = declares_same at eats still;
    parameters_same = parameters_same at eats still;
    body_same = body_same at eats still R within;
    expression_same = expression_same at eats still R within unclosed (conditional_same at eats still R within list several simple) (assignment_same at eats still R within list several simple);
    prefix_same = prefix_same at eats still R within list several simple;
    literal_same = literal_same at eats still R within;
    literal_text_same = literal_text_same at eats still R within;
    arguments_text_same = arguments_text_same at eats still R within;
  }

pub scripts_same : IsSameGrammar script Derives
scripts_same = forms.scripts_same parts

pub literals_same : IsSameGrammar literal_text DerivesLiteral
literals_same = forms.literals_same parts

pub arguments_same : IsSameGrammar arguments_text DerivesArguments
arguments_same = forms.arguments_same parts
