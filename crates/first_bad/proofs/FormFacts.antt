-- What is computed of the rules of forms and texts.
use Rattle.std.proofs.Common.{◌≡◌, true, false, [], ◌∷◌, Option, None, refl}
use Rattle.parser_rules.specs.declared.form.Form.TheVariants.{Expression, Prefix, Statement, Item, Block, Literal}
use Rattle.parser_rules.specs.declared.form.Cover.{Cover}
use Rattle.parser_rules.specs.Expressions as e
use Rattle.parser_rules.specs.Statements as s
use Rattle.parser_rules.specs.Literals as l
use Rattle.first_bad.proofs.Facts.{start, starting, again, finish, follows, form_start, braces, nothing_starts_inside}
use Rattle.first_bad.proofs.ExpressionFacts.{conditional_takes, conditional_stops, conditional_again, conditional_start, conditional_finish, conditional_firm, assignment_takes, assignment_stops, assignment_again, assignment_start, assignment_finish, assignment_firm, arrow_takes, arrow_stops, arrow_again, arrow_start, arrow_finish, arrow_firm, covered_takes, covered_stops, covered_again, covered_finish, covered_firm, primary_takes, primary_idle, primary_ended, primary_stops, primary_again, primary_finish, primary_firm, covered_begin, arrow_begin, primary_begin, conditional_begin, assignment_begin, operand_takes, operand_ended, operand_stops, operand_again, operand_start, operand_finish, operand_firm}

pub expression_again : again e.expression ≡ follows Expression
unfolding e.expression e.name_leaf e.own_name e.named_first e.named_arrow e.prefix_first e.primary_first
expression_again = simp (conditional_takes, conditional_stops, conditional_again, conditional_firm, assignment_takes, assignment_stops, assignment_again, assignment_firm, arrow_takes, arrow_stops, arrow_again, arrow_firm, covered_takes, covered_stops, covered_again, covered_firm, primary_takes, primary_idle, primary_ended, primary_stops, primary_again, primary_firm) refl

pub expression_finishes : finish form_start e.expression ≡ follows Expression
unfolding e.expression e.name_leaf e.own_name e.named_first e.named_arrow e.prefix_first e.primary_first
expression_finishes = simp (conditional_start, conditional_finish, conditional_firm, assignment_start, assignment_finish, assignment_firm, arrow_start, arrow_finish, arrow_firm, covered_finish, covered_firm, primary_idle, primary_ended, primary_again, primary_finish, primary_firm) refl

pub expression_begin : (k : Option Cover) → start nothing_starts_inside k e.expression ≡ form_start Expression
unfolding e.expression e.name_leaf e.own_name e.named_first e.named_arrow e.prefix_first e.primary_first
expression_begin k = simp (covered_begin, arrow_begin, primary_begin, conditional_begin, assignment_begin) refl

pub prefix_again : again e.prefix ≡ follows Prefix
unfolding e.prefix
prefix_again = simp (operand_takes, operand_ended, operand_stops, operand_again, operand_firm) refl

pub prefix_finishes : finish form_start e.prefix ≡ follows Prefix
unfolding e.prefix
prefix_finishes = simp (operand_takes, operand_ended, operand_stops, operand_again, operand_start, operand_finish, operand_firm) refl

pub statement_again : again s.statement ≡ follows Statement
unfolding s.statement s.empty_statement s.block s.if_statement s.condition s.alternative s.else_branch s.while_statement s.for_statement s.for_head s.for_start s.let_start s.const_start s.expression_before s.let_list s.let_binding s.initialiser s.further_let s.const_list s.const_binding s.further_const s.try_statement s.handlers s.catch_clause s.catch_name s.caught_name s.finaliser s.finaliser_if_any s.only_finaliser s.simple_statement s.jump s.line_or_end s.ends s.return_statement s.returned s.nothing_returned s.throw_statement s.thrown s.expression_statement s.ended_expression e.expression_list e.further_expression e.item_list e.declared_name e.own_name
statement_again = refl

pub statement_finishes : finish form_start s.statement ≡ follows Statement
unfolding s.statement s.empty_statement s.block s.if_statement s.condition s.alternative s.else_branch s.while_statement s.for_statement s.for_head s.for_start s.let_start s.const_start s.expression_before s.let_list s.let_binding s.initialiser s.further_let s.const_list s.const_binding s.further_const s.try_statement s.handlers s.catch_clause s.catch_name s.caught_name s.finaliser s.finaliser_if_any s.only_finaliser s.simple_statement s.jump s.line_or_end s.ends s.return_statement s.returned s.nothing_returned s.throw_statement s.thrown s.expression_statement s.ended_expression e.expression_list e.further_expression e.item_list e.declared_name e.own_name
statement_finishes = refl

pub statement_begin : (k : Option Cover) → start nothing_starts_inside k s.statement ≡ form_start Statement
unfolding s.statement s.empty_statement s.block s.if_statement s.condition s.alternative s.else_branch s.while_statement s.for_statement s.for_head s.for_start s.let_start s.const_start s.expression_before s.let_list s.let_binding s.initialiser s.further_let s.const_list s.const_binding s.further_const s.try_statement s.handlers s.catch_clause s.catch_name s.caught_name s.finaliser s.finaliser_if_any s.only_finaliser s.simple_statement s.jump s.line_or_end s.ends s.return_statement s.returned s.nothing_returned s.throw_statement s.thrown s.expression_statement s.ended_expression e.expression_list e.further_expression e.item_list e.declared_name e.own_name
statement_begin k = refl

pub item_again : again s.item ≡ follows Item
unfolding s.statement s.empty_statement s.block s.if_statement s.condition s.alternative s.else_branch s.while_statement s.for_statement s.for_head s.for_start s.let_start s.const_start s.expression_before s.let_list s.let_binding s.initialiser s.further_let s.const_list s.const_binding s.further_const s.try_statement s.handlers s.catch_clause s.catch_name s.caught_name s.finaliser s.finaliser_if_any s.only_finaliser s.simple_statement s.jump s.line_or_end s.ends s.return_statement s.returned s.nothing_returned s.throw_statement s.thrown s.expression_statement s.ended_expression e.expression_list e.further_expression e.item_list e.declared_name e.own_name s.item s.let_declaration s.const_declaration s.function_declaration e.parameters e.parameter e.comma_before e.body
item_again = refl

pub item_finishes : finish form_start s.item ≡ follows Item
unfolding s.statement s.empty_statement s.block s.if_statement s.condition s.alternative s.else_branch s.while_statement s.for_statement s.for_head s.for_start s.let_start s.const_start s.expression_before s.let_list s.let_binding s.initialiser s.further_let s.const_list s.const_binding s.further_const s.try_statement s.handlers s.catch_clause s.catch_name s.caught_name s.finaliser s.finaliser_if_any s.only_finaliser s.simple_statement s.jump s.line_or_end s.ends s.return_statement s.returned s.nothing_returned s.throw_statement s.thrown s.expression_statement s.ended_expression e.expression_list e.further_expression e.item_list e.declared_name e.own_name s.item s.let_declaration s.const_declaration s.function_declaration e.parameters e.parameter e.comma_before e.body
item_finishes = refl

pub item_begin : (k : Option Cover) → start nothing_starts_inside k s.item ≡ form_start Item
unfolding s.statement s.empty_statement s.block s.if_statement s.condition s.alternative s.else_branch s.while_statement s.for_statement s.for_head s.for_start s.let_start s.const_start s.expression_before s.let_list s.let_binding s.initialiser s.further_let s.const_list s.const_binding s.further_const s.try_statement s.handlers s.catch_clause s.catch_name s.caught_name s.finaliser s.finaliser_if_any s.only_finaliser s.simple_statement s.jump s.line_or_end s.ends s.return_statement s.returned s.nothing_returned s.throw_statement s.thrown s.expression_statement s.ended_expression e.expression_list e.further_expression e.item_list e.declared_name e.own_name s.item s.let_declaration s.const_declaration s.function_declaration e.parameters e.parameter e.comma_before e.body
item_begin k = refl

pub block_again : again s.block ≡ follows Block
unfolding s.block e.item_list
block_again = refl

pub block_finishes : finish form_start s.block ≡ follows Block
unfolding s.block e.item_list
block_finishes = refl

pub block_begin : (k : Option Cover) → start nothing_starts_inside k s.block ≡ form_start Block
unfolding s.block e.item_list
block_begin k = refl

pub literal_again : again l.literal ≡ follows Literal
unfolding l.literal l.negative l.negated_number l.literal_array l.literal_element l.literal_object l.literal_property l.constant_word e.comma_before e.leaf e.number_leaf e.text_leaf
literal_again = refl

pub literal_finishes : finish form_start l.literal ≡ follows Literal
unfolding l.literal l.negative l.negated_number l.literal_array l.literal_element l.literal_object l.literal_property l.constant_word e.comma_before e.leaf e.number_leaf e.text_leaf
literal_finishes = refl

pub literal_begin : (k : Option Cover) → start nothing_starts_inside k l.literal ≡ form_start Literal
unfolding l.literal l.negative l.negated_number l.literal_array l.literal_element l.literal_object l.literal_property l.constant_word e.comma_before e.leaf e.number_leaf e.text_leaf
literal_begin k = refl

pub script_finishes : finish form_start s.script ≡ (true ∷ false ∷ false ∷ false ∷ false ∷ false ∷ false ∷ false ∷ false ∷ false ∷ false ∷ false ∷ false ∷ [])
unfolding s.script
script_finishes = refl

pub script_starts : start form_start None s.script ≡ starting [] (true ∷ false ∷ false ∷ false ∷ false ∷ false ∷ false ∷ false ∷ false ∷ false ∷ false ∷ false ∷ false ∷ [])
unfolding s.script
script_starts = refl

pub literal_text_finishes : finish form_start l.literal_text ≡ (true ∷ false ∷ false ∷ false ∷ false ∷ false ∷ false ∷ false ∷ false ∷ false ∷ false ∷ false ∷ false ∷ [])
unfolding l.literal_text l.text_end
literal_text_finishes = refl

pub literal_text_starts : start form_start None l.literal_text ≡ starting braces (true ∷ false ∷ false ∷ false ∷ false ∷ false ∷ false ∷ false ∷ false ∷ false ∷ false ∷ false ∷ false ∷ [])
unfolding l.literal_text l.text_end
literal_text_starts = refl

pub arguments_text_finishes : finish form_start l.arguments_text ≡ (true ∷ false ∷ false ∷ false ∷ false ∷ false ∷ false ∷ false ∷ false ∷ false ∷ false ∷ false ∷ false ∷ [])
unfolding l.arguments_text l.argument l.passing l.passing_word l.passed_name e.comma_before
arguments_text_finishes = refl

pub arguments_text_starts : start form_start None l.arguments_text ≡ starting [] (true ∷ false ∷ false ∷ false ∷ false ∷ false ∷ false ∷ false ∷ false ∷ false ∷ false ∷ false ∷ false ∷ [])
unfolding l.arguments_text l.argument l.passing l.passing_word l.passed_name e.comma_before
arguments_text_starts = refl
