-- What is computed of the rules of expressions, one from the other.
use Rattle.std.proofs.Common.{◌≡◌, true, false, [], ◌∷◌, Option, refl}
use Rattle.parser_rules.specs.declared.form.Form.TheVariants.{Expression}
use Rattle.parser_rules.specs.declared.form.Cover.{Cover}
use Rattle.parser_rules.specs.Expressions as e
use Rattle.parser_rules.proofs.Laws.{takes}
use Rattle.first_bad.proofs.Begins.{idle}
use Rattle.first_bad.proofs.Marks.{paren_open, paren_close, brace_open, brace_close, arrow, every, none}
use Rattle.first_bad.proofs.Facts.{start, starting, stops, ended, again, finish, follows, form_start, behind_operand, braces, nothing_starts_inside}
use Rattle.first_bad.proofs.FirmRules.{firm}
use Rattle.first_bad.proofs.FirmTable as firmly

pub primary_firm : firm e.primary ≡ true
primary_firm = firmly.primary

pub calls_firm : firm e.calls ≡ true
calls_firm = firmly.calls

pub operand_firm : firm e.operand ≡ true
operand_firm = firmly.operand

pub products_firm : firm e.products ≡ true
products_firm = firmly.products

pub sums_firm : firm e.sums ≡ true
sums_firm = firmly.sums

pub comparisons_firm : firm e.comparisons ≡ true
comparisons_firm = firmly.comparisons

pub equalities_firm : firm e.equalities ≡ true
equalities_firm = firmly.equalities

pub conjunctions_firm : firm e.conjunctions ≡ true
conjunctions_firm = firmly.conjunctions

pub logical_firm : firm e.logical ≡ true
logical_firm = firmly.logical

pub conditional_firm : firm e.conditional ≡ true
conditional_firm = firmly.conditional

pub assignment_firm : firm e.assignment ≡ true
assignment_firm = firmly.assignment

pub arrow_firm : firm e.arrow ≡ true
arrow_firm = firmly.arrow

pub covered_firm : firm e.covered ≡ true
covered_firm = firmly.covered

-- ---- primary

pub primary_takes : takes e.primary ≡ true
unfolding e.primary e.number_leaf e.text_leaf e.word_leaf e.leaf e.array e.object e.property e.named_property e.keyed_property e.property_value e.declared_name e.comma_before e.elements e.element e.function_expression e.name_if_any e.own_name e.parameters e.parameter e.body e.item_list e.construction
primary_takes = refl

pub primary_idle : idle e.primary ≡ false
unfolding e.primary e.number_leaf e.text_leaf e.word_leaf e.leaf e.array e.object e.property e.named_property e.keyed_property e.property_value e.declared_name e.comma_before e.elements e.element e.function_expression e.name_if_any e.own_name e.parameters e.parameter e.body e.item_list e.construction
primary_idle = refl

pub primary_ended : ended e.primary ≡ false
unfolding e.primary e.number_leaf e.text_leaf e.word_leaf e.leaf e.array e.object e.property e.named_property e.keyed_property e.property_value e.declared_name e.comma_before e.elements e.element e.function_expression e.name_if_any e.own_name e.parameters e.parameter e.body e.item_list e.construction
primary_ended = refl

pub primary_stops : stops e.primary ≡ (false ∷ false ∷ false ∷ false ∷ false ∷ false ∷ false ∷ false ∷ false ∷ false ∷ false ∷ false ∷ false ∷ [])
unfolding e.primary e.number_leaf e.text_leaf e.word_leaf e.leaf e.array e.object e.property e.named_property e.keyed_property e.property_value e.declared_name e.comma_before e.elements e.element e.function_expression e.name_if_any e.own_name e.parameters e.parameter e.body e.item_list e.construction
primary_stops = refl

pub primary_again : again e.primary ≡ every
unfolding e.primary e.number_leaf e.text_leaf e.word_leaf e.leaf e.array e.object e.property e.named_property e.keyed_property e.property_value e.declared_name e.comma_before e.elements e.element e.function_expression e.name_if_any e.own_name e.parameters e.parameter e.body e.item_list e.construction
primary_again = refl

pub primary_start : (k : Option Cover) → start form_start k e.primary ≡ starting braces every
unfolding e.primary e.number_leaf e.text_leaf e.word_leaf e.leaf e.array e.object e.property e.named_property e.keyed_property e.property_value e.declared_name e.comma_before e.elements e.element e.function_expression e.name_if_any e.own_name e.parameters e.parameter e.body e.item_list e.construction
primary_start k = refl

pub primary_finish : finish form_start e.primary ≡ every
unfolding e.primary e.number_leaf e.text_leaf e.word_leaf e.leaf e.array e.object e.property e.named_property e.keyed_property e.property_value e.declared_name e.comma_before e.elements e.element e.function_expression e.name_if_any e.own_name e.parameters e.parameter e.body e.item_list e.construction
primary_finish = refl

pub primary_begin : (k : Option Cover) → start nothing_starts_inside k e.primary ≡ starting braces every
unfolding e.primary e.number_leaf e.text_leaf e.word_leaf e.leaf e.array e.object e.property e.named_property e.keyed_property e.property_value e.declared_name e.comma_before e.elements e.element e.function_expression e.name_if_any e.own_name e.parameters e.parameter e.body e.item_list e.construction
primary_begin k = refl

-- ---- calls

pub calls_takes : takes e.calls ≡ false
unfolding e.calls e.access e.member e.index e.call e.elements e.element e.comma_before e.expression_list e.further_expression
calls_takes = refl

pub calls_idle : idle e.calls ≡ false
unfolding e.calls e.access e.member e.index e.call e.elements e.element e.comma_before e.expression_list e.further_expression
calls_idle = refl

pub calls_ended : ended e.calls ≡ false
unfolding e.calls e.access e.member e.index e.call e.elements e.element e.comma_before e.expression_list e.further_expression
calls_ended = refl

pub calls_stops : stops e.calls ≡ (true ∷ true ∷ true ∷ true ∷ false ∷ true ∷ true ∷ true ∷ true ∷ true ∷ true ∷ true ∷ true ∷ [])
unfolding e.calls e.access e.member e.index e.call e.elements e.element e.comma_before e.expression_list e.further_expression
calls_stops = refl

pub calls_again : again e.calls ≡ (true ∷ true ∷ true ∷ true ∷ false ∷ true ∷ true ∷ true ∷ true ∷ true ∷ true ∷ true ∷ true ∷ [])
unfolding e.calls e.access e.member e.index e.call e.elements e.element e.comma_before e.expression_list e.further_expression
calls_again = refl

pub calls_start : (k : Option Cover) → start form_start k e.calls ≡ starting [] (true ∷ true ∷ true ∷ true ∷ false ∷ true ∷ true ∷ true ∷ true ∷ true ∷ true ∷ true ∷ true ∷ [])
unfolding e.calls e.access e.member e.index e.call e.elements e.element e.comma_before e.expression_list e.further_expression
calls_start k = refl

pub calls_finish : finish form_start e.calls ≡ (true ∷ true ∷ true ∷ true ∷ false ∷ true ∷ true ∷ true ∷ true ∷ true ∷ true ∷ true ∷ true ∷ [])
unfolding e.calls e.access e.member e.index e.call e.elements e.element e.comma_before e.expression_list e.further_expression
calls_finish = refl

pub calls_begin : (k : Option Cover) → start nothing_starts_inside k e.calls ≡ starting [] (true ∷ true ∷ true ∷ true ∷ false ∷ true ∷ true ∷ true ∷ true ∷ true ∷ true ∷ true ∷ true ∷ [])
unfolding e.calls e.access e.member e.index e.call e.elements e.element e.comma_before e.expression_list e.further_expression
calls_begin k = refl

-- ---- operand

pub operand_takes : takes e.operand ≡ true
unfolding e.operand e.called_operand e.simple_operand e.parenthesised e.name_leaf e.own_name e.postfix e.stepped e.expression_list e.further_expression
operand_takes = simp (primary_takes, calls_takes) refl

pub operand_ended : ended e.operand ≡ false
unfolding e.operand e.called_operand e.simple_operand e.parenthesised e.name_leaf e.own_name e.postfix e.stepped e.expression_list e.further_expression
operand_ended = refl

pub operand_stops : stops e.operand ≡ (false ∷ false ∷ false ∷ false ∷ false ∷ false ∷ false ∷ false ∷ false ∷ false ∷ false ∷ false ∷ false ∷ [])
unfolding e.operand e.called_operand e.simple_operand e.parenthesised e.name_leaf e.own_name e.postfix e.stepped e.expression_list e.further_expression
operand_stops = simp (primary_stops, calls_stops) refl

pub operand_again : again e.operand ≡ (follows Expression)
unfolding e.operand e.called_operand e.simple_operand e.parenthesised e.name_leaf e.own_name e.postfix e.stepped e.expression_list e.further_expression
operand_again = simp (primary_takes, primary_stops, primary_again, primary_firm, calls_takes, calls_ended, calls_stops, calls_again, calls_firm) refl

pub operand_start : (k : Option Cover) → start form_start k e.operand ≡ starting braces (true ∷ true ∷ true ∷ true ∷ false ∷ true ∷ true ∷ true ∷ true ∷ true ∷ true ∷ true ∷ true ∷ [])
unfolding e.operand e.called_operand e.simple_operand e.parenthesised e.name_leaf e.own_name e.postfix e.stepped e.expression_list e.further_expression
operand_start k = simp (primary_start, calls_start) refl

pub operand_finish : finish form_start e.operand ≡ (follows Expression)
unfolding e.operand e.called_operand e.simple_operand e.parenthesised e.name_leaf e.own_name e.postfix e.stepped e.expression_list e.further_expression
operand_finish = simp (primary_takes, primary_stops, primary_again, primary_finish, primary_firm, calls_takes, calls_ended, calls_stops, calls_again, calls_start, calls_finish, calls_firm) refl

-- ---- products

pub products_takes : takes e.products ≡ false
unfolding e.products e.product
products_takes = refl

pub products_idle : idle e.products ≡ false
unfolding e.products e.product
products_idle = refl

pub products_ended : ended e.products ≡ false
unfolding e.products e.product
products_ended = refl

pub products_stops : stops e.products ≡ every
unfolding e.products e.product
products_stops = refl

pub products_again : again e.products ≡ (follows Expression)
unfolding e.products e.product
products_again = simp (operand_takes, operand_ended, operand_stops, operand_again, operand_firm) refl

pub products_start : (k : Option Cover) → start form_start k e.products ≡ starting [] every
unfolding e.products e.product
products_start k = refl

pub products_finish : finish form_start e.products ≡ (follows Expression)
unfolding e.products e.product
products_finish = simp (operand_takes, operand_ended, operand_stops, operand_again, operand_start, operand_finish, operand_firm) refl

pub products_begin : (k : Option Cover) → start nothing_starts_inside k e.products ≡ starting [] every
unfolding e.products e.product
products_begin k = refl

-- ---- sums

pub sums_takes : takes e.sums ≡ false
unfolding e.sums e.sum_step
sums_takes = simp products_takes refl

pub sums_idle : idle e.sums ≡ false
unfolding e.sums e.sum_step
sums_idle = simp products_idle refl

pub sums_ended : ended e.sums ≡ false
unfolding e.sums e.sum_step
sums_ended = simp (products_takes, products_idle, products_firm) refl

pub sums_stops : stops e.sums ≡ every
unfolding e.sums e.sum_step
sums_stops = simp products_stops refl

pub sums_again : again e.sums ≡ (follows Expression)
unfolding e.sums e.sum_step
sums_again = simp (operand_takes, operand_ended, operand_stops, operand_again, operand_firm, products_takes, products_ended, products_stops, products_again, products_firm) refl

pub sums_start : (k : Option Cover) → start form_start k e.sums ≡ starting [] every
unfolding e.sums e.sum_step
sums_start k = simp products_start refl

pub sums_finish : finish form_start e.sums ≡ (follows Expression)
unfolding e.sums e.sum_step
sums_finish = simp (operand_takes, operand_ended, operand_stops, operand_again, operand_start, operand_finish, operand_firm, products_takes, products_idle, products_ended, products_stops, products_again, products_start, products_finish, products_firm) refl

pub sums_begin : (k : Option Cover) → start nothing_starts_inside k e.sums ≡ starting [] every
unfolding e.sums e.sum_step
sums_begin k = simp products_begin refl

-- ---- comparisons

pub comparisons_takes : takes e.comparisons ≡ false
unfolding e.comparisons e.comparison
comparisons_takes = simp sums_takes refl

pub comparisons_idle : idle e.comparisons ≡ false
unfolding e.comparisons e.comparison
comparisons_idle = simp sums_idle refl

pub comparisons_ended : ended e.comparisons ≡ false
unfolding e.comparisons e.comparison
comparisons_ended = simp (sums_takes, sums_idle, sums_firm) refl

pub comparisons_stops : stops e.comparisons ≡ every
unfolding e.comparisons e.comparison
comparisons_stops = simp sums_stops refl

pub comparisons_again : again e.comparisons ≡ (follows Expression)
unfolding e.comparisons e.comparison
comparisons_again = simp (operand_takes, operand_ended, operand_stops, operand_again, operand_firm, sums_takes, sums_ended, sums_stops, sums_again, sums_firm) refl

pub comparisons_start : (k : Option Cover) → start form_start k e.comparisons ≡ starting [] every
unfolding e.comparisons e.comparison
comparisons_start k = simp sums_start refl

pub comparisons_finish : finish form_start e.comparisons ≡ (follows Expression)
unfolding e.comparisons e.comparison
comparisons_finish = simp (operand_takes, operand_ended, operand_stops, operand_again, operand_start, operand_finish, operand_firm, sums_takes, sums_idle, sums_ended, sums_stops, sums_again, sums_start, sums_finish, sums_firm) refl

pub comparisons_begin : (k : Option Cover) → start nothing_starts_inside k e.comparisons ≡ starting [] every
unfolding e.comparisons e.comparison
comparisons_begin k = simp sums_begin refl

-- ---- equalities

pub equalities_takes : takes e.equalities ≡ false
unfolding e.equalities e.equality
equalities_takes = simp comparisons_takes refl

pub equalities_idle : idle e.equalities ≡ false
unfolding e.equalities e.equality
equalities_idle = simp comparisons_idle refl

pub equalities_ended : ended e.equalities ≡ false
unfolding e.equalities e.equality
equalities_ended = simp (comparisons_takes, comparisons_idle, comparisons_firm) refl

pub equalities_stops : stops e.equalities ≡ every
unfolding e.equalities e.equality
equalities_stops = simp comparisons_stops refl

pub equalities_again : again e.equalities ≡ (follows Expression)
unfolding e.equalities e.equality
equalities_again = simp (operand_takes, operand_ended, operand_stops, operand_again, operand_firm, comparisons_takes, comparisons_ended, comparisons_stops, comparisons_again, comparisons_firm) refl

pub equalities_start : (k : Option Cover) → start form_start k e.equalities ≡ starting [] every
unfolding e.equalities e.equality
equalities_start k = simp comparisons_start refl

pub equalities_finish : finish form_start e.equalities ≡ (follows Expression)
unfolding e.equalities e.equality
equalities_finish = simp (operand_takes, operand_ended, operand_stops, operand_again, operand_start, operand_finish, operand_firm, comparisons_takes, comparisons_idle, comparisons_ended, comparisons_stops, comparisons_again, comparisons_start, comparisons_finish, comparisons_firm) refl

pub equalities_begin : (k : Option Cover) → start nothing_starts_inside k e.equalities ≡ starting [] every
unfolding e.equalities e.equality
equalities_begin k = simp comparisons_begin refl

-- ---- conjunctions

pub conjunctions_takes : takes e.conjunctions ≡ false
unfolding e.conjunctions e.conjunction
conjunctions_takes = refl

pub conjunctions_idle : idle e.conjunctions ≡ false
unfolding e.conjunctions e.conjunction
conjunctions_idle = refl

pub conjunctions_ended : ended e.conjunctions ≡ false
unfolding e.conjunctions e.conjunction
conjunctions_ended = refl

pub conjunctions_stops : stops e.conjunctions ≡ every
unfolding e.conjunctions e.conjunction
conjunctions_stops = refl

pub conjunctions_again : again e.conjunctions ≡ (follows Expression)
unfolding e.conjunctions e.conjunction
conjunctions_again = simp (operand_takes, operand_ended, operand_stops, operand_again, operand_firm, equalities_takes, equalities_ended, equalities_stops, equalities_again, equalities_firm) refl

pub conjunctions_start : (k : Option Cover) → start form_start k e.conjunctions ≡ starting [] every
unfolding e.conjunctions e.conjunction
conjunctions_start k = refl

pub conjunctions_finish : finish form_start e.conjunctions ≡ (follows Expression)
unfolding e.conjunctions e.conjunction
conjunctions_finish = simp (operand_takes, operand_ended, operand_stops, operand_again, operand_start, operand_finish, operand_firm, equalities_takes, equalities_ended, equalities_stops, equalities_again, equalities_start, equalities_finish, equalities_firm) refl

pub conjunctions_begin : (k : Option Cover) → start nothing_starts_inside k e.conjunctions ≡ starting [] every
unfolding e.conjunctions e.conjunction
conjunctions_begin k = refl

-- ---- logical

pub logical_stops : stops e.logical ≡ every
unfolding e.logical e.disjunction
logical_stops = simp conjunctions_stops refl

pub logical_again : again e.logical ≡ (follows Expression)
unfolding e.logical e.disjunction
logical_again = simp (operand_takes, operand_ended, operand_stops, operand_again, operand_firm, equalities_takes, equalities_ended, equalities_stops, equalities_again, equalities_firm, conjunctions_takes, conjunctions_ended, conjunctions_stops, conjunctions_again, conjunctions_firm) refl

pub logical_start : (k : Option Cover) → start form_start k e.logical ≡ starting [] every
unfolding e.logical e.disjunction
logical_start k = simp conjunctions_start refl

pub logical_finish : finish form_start e.logical ≡ (follows Expression)
unfolding e.logical e.disjunction
logical_finish = simp (operand_takes, operand_ended, operand_stops, operand_again, operand_start, operand_finish, operand_firm, equalities_takes, equalities_ended, equalities_stops, equalities_again, equalities_start, equalities_finish, equalities_firm, conjunctions_takes, conjunctions_idle, conjunctions_ended, conjunctions_stops, conjunctions_again, conjunctions_start, conjunctions_finish, conjunctions_firm) refl

pub logical_begin : (k : Option Cover) → start nothing_starts_inside k e.logical ≡ starting [] every
unfolding e.logical e.disjunction
logical_begin k = simp conjunctions_begin refl

-- ---- conditional

pub conditional_takes : takes e.conditional ≡ false
unfolding e.conditional e.short_circuit e.coalescings e.coalescing e.choice
conditional_takes = simp equalities_takes refl

pub conditional_stops : stops e.conditional ≡ every
unfolding e.conditional e.short_circuit e.coalescings e.coalescing e.choice
conditional_stops = simp (equalities_stops, logical_stops) refl

pub conditional_again : again e.conditional ≡ (follows Expression)
unfolding e.conditional e.short_circuit e.coalescings e.coalescing e.choice
conditional_again = simp (operand_takes, operand_ended, operand_stops, operand_again, operand_firm, equalities_takes, equalities_idle, equalities_ended, equalities_stops, equalities_again, equalities_firm, logical_stops, logical_again, logical_firm) refl

pub conditional_start : (k : Option Cover) → start form_start k e.conditional ≡ starting [] every
unfolding e.conditional e.short_circuit e.coalescings e.coalescing e.choice
conditional_start k = simp (equalities_start, logical_start) refl

pub conditional_finish : finish form_start e.conditional ≡ (follows Expression)
unfolding e.conditional e.short_circuit e.coalescings e.coalescing e.choice
conditional_finish = simp (operand_takes, operand_ended, operand_stops, operand_again, operand_start, operand_finish, operand_firm, equalities_takes, equalities_idle, equalities_ended, equalities_stops, equalities_again, equalities_start, equalities_finish, equalities_firm, logical_stops, logical_again, logical_start, logical_finish, logical_firm) refl

pub conditional_begin : (k : Option Cover) → start nothing_starts_inside k e.conditional ≡ starting [] every
unfolding e.conditional e.short_circuit e.coalescings e.coalescing e.choice
conditional_begin k = simp (equalities_begin, logical_begin) refl

-- ---- assignment

pub assignment_takes : takes e.assignment ≡ false
unfolding e.assignment e.assigned e.postfix e.stepped
assignment_takes = simp (calls_takes, conditional_takes) refl

pub assignment_stops : stops e.assignment ≡ behind_operand
unfolding e.assignment e.assigned e.postfix e.stepped
assignment_stops = simp (calls_stops, conditional_stops) refl

pub assignment_again : again e.assignment ≡ (follows Expression)
unfolding e.assignment e.assigned e.postfix e.stepped
assignment_again = simp (calls_ended, calls_again, calls_firm, conditional_takes, conditional_stops, conditional_again, conditional_firm) refl

pub assignment_start : (k : Option Cover) → start form_start k e.assignment ≡ starting [] behind_operand
unfolding e.assignment e.assigned e.postfix e.stepped
assignment_start k = simp (calls_start, conditional_start) refl

pub assignment_finish : finish form_start e.assignment ≡ (follows Expression)
unfolding e.assignment e.assigned e.postfix e.stepped
assignment_finish = simp (calls_idle, calls_ended, calls_again, calls_finish, calls_firm, conditional_start, conditional_finish, conditional_firm) refl

pub assignment_begin : (k : Option Cover) → start nothing_starts_inside k e.assignment ≡ starting [] behind_operand
unfolding e.assignment e.assigned e.postfix e.stepped
assignment_begin k = simp (calls_begin, conditional_begin) refl

-- ---- arrow

pub arrow_takes : takes e.arrow ≡ true
unfolding e.arrow e.concise_body e.body e.item_list
arrow_takes = refl

pub arrow_stops : stops e.arrow ≡ none
unfolding e.arrow e.concise_body e.body e.item_list
arrow_stops = refl

pub arrow_again : again e.arrow ≡ (follows Expression)
unfolding e.arrow e.concise_body e.body e.item_list
arrow_again = refl

pub arrow_start : (k : Option Cover) → start form_start k e.arrow ≡ starting (arrow ∷ brace_open ∷ brace_close ∷ []) every
unfolding e.arrow e.concise_body e.body e.item_list
arrow_start k = refl

pub arrow_finish : finish form_start e.arrow ≡ (follows Expression)
unfolding e.arrow e.concise_body e.body e.item_list
arrow_finish = refl

pub arrow_begin : (k : Option Cover) → start nothing_starts_inside k e.arrow ≡ starting (arrow ∷ brace_open ∷ brace_close ∷ []) every
unfolding e.arrow e.concise_body e.body e.item_list
arrow_begin k = refl

-- ---- covered

pub covered_takes : takes e.covered ≡ true
unfolding e.covered e.items e.some_items e.further_item e.further_name e.offered_item e.behind_items e.behind_names e.unwrapped_first
covered_takes = refl

pub covered_stops : stops e.covered ≡ none
unfolding e.covered e.items e.some_items e.further_item e.further_name e.offered_item e.behind_items e.behind_names e.unwrapped_first
covered_stops = refl

pub covered_again : again e.covered ≡ (follows Expression)
unfolding e.covered e.items e.some_items e.further_item e.further_name e.offered_item e.behind_items e.behind_names e.unwrapped_first
covered_again = simp (arrow_takes, arrow_stops, arrow_again, arrow_firm, assignment_takes, assignment_stops, assignment_again, assignment_firm) refl

pub covered_finish : finish form_start e.covered ≡ (follows Expression)
unfolding e.covered e.items e.some_items e.further_item e.further_name e.offered_item e.behind_items e.behind_names e.unwrapped_first
covered_finish = simp (arrow_start, arrow_finish, arrow_firm, assignment_start, assignment_finish, assignment_firm) refl

pub covered_begin : (k : Option Cover) → start nothing_starts_inside k e.covered ≡ starting (paren_open ∷ paren_close ∷ arrow ∷ brace_open ∷ brace_close ∷ []) none
unfolding e.covered e.items e.some_items e.further_item e.further_name e.offered_item e.behind_items e.behind_names e.unwrapped_first
covered_begin k = simp (arrow_begin, assignment_begin) refl
