-- Each rule of the table is firm.
use Rattle.std.proofs.Common.{◌≡◌, ℕ, zero, suc, true, refl}
use Rattle.parser_rules.specs.declared.form.Form.{Form}
use Rattle.parser_rules.specs.declared.form.Form.TheVariants.{Expression, Prefix, Statement, Item, Block, Literal}
use Rattle.parser_rules.specs.declared.class.Class.TheVariants as classes
use Rattle.parser_rules.specs.Grammar.{rule_of, within}
use Rattle.parser_rules.specs.Expressions as e
use Rattle.parser_rules.specs.Statements as s
use Rattle.parser_rules.specs.Literals as l
use Rattle.first_bad.proofs.FirmRules.{firm, Firmly, run_firm, beyond_firm}
use Rattle.first_bad.proofs.Firm.{Firm}
use Rattle.first_bad.proofs.Begins.{within_shuts}
use Rattle.first_bad.proofs.Far.{within_far}
use Rattle.first_bad.proofs.Turns.{within_below}

list : firm e.expression_list ≡ true
unfolding e.expression_list e.further_expression
list = refl

items : firm e.item_list ≡ true
unfolding e.item_list
items = refl

body : firm e.body ≡ true
unfolding e.body
body = rw items refl

parameters : firm e.parameters ≡ true
unfolding e.parameters e.parameter e.declared_name e.comma_before
parameters = refl

pub arrow : firm e.arrow ≡ true
unfolding e.arrow e.concise_body
arrow = rw body refl

brackets : firm (e.elements classes.BracketClose) ≡ true
unfolding e.elements e.element e.comma_before
brackets = refl

parens : firm (e.elements classes.ParenClose) ≡ true
unfolding e.elements e.element e.comma_before
parens = refl

construction : firm e.construction ≡ true
unfolding e.construction e.elements e.element e.comma_before
construction = refl

array : firm e.array ≡ true
unfolding e.array
array = rw brackets refl

object : firm e.object ≡ true
unfolding e.object e.property e.named_property e.keyed_property e.property_value e.declared_name e.comma_before
object = refl

function : firm e.function_expression ≡ true
unfolding e.function_expression e.name_if_any e.own_name
function = rw (parameters, body) refl

pub primary : firm e.primary ≡ true
unfolding e.primary e.number_leaf e.text_leaf e.word_leaf e.leaf e.construction e.elements e.element e.comma_before
primary = rw (array, object, function) refl

pub calls : firm e.calls ≡ true
unfolding e.calls e.access e.member e.index e.call
calls = rw (list, parens) refl

pub operand : firm e.operand ≡ true
unfolding e.operand e.called_operand e.simple_operand e.parenthesised e.name_leaf e.own_name e.postfix e.stepped
operand = rw (list, primary, calls) refl

pub prefix : firm e.prefix ≡ true
unfolding e.prefix
prefix = rw operand refl

pub products : firm e.products ≡ true
unfolding e.products e.product
products = rw operand refl

pub sums : firm e.sums ≡ true
unfolding e.sums e.sum_step
sums = rw (operand, products) refl

pub comparisons : firm e.comparisons ≡ true
unfolding e.comparisons e.comparison
comparisons = rw (operand, sums) refl

pub equalities : firm e.equalities ≡ true
unfolding e.equalities e.equality
equalities = rw (operand, comparisons) refl

pub conjunctions : firm e.conjunctions ≡ true
unfolding e.conjunctions e.conjunction
conjunctions = rw (operand, equalities) refl

pub logical : firm e.logical ≡ true
unfolding e.logical e.disjunction
logical = rw (operand, equalities, conjunctions) refl

pub conditional : firm e.conditional ≡ true
unfolding e.conditional e.short_circuit e.coalescings e.coalescing e.choice
conditional = rw (operand, equalities, logical) refl

pub assignment : firm e.assignment ≡ true
unfolding e.assignment e.assigned e.postfix e.stepped
assignment = rw (calls, conditional) refl

pub covered : firm e.covered ≡ true
unfolding e.covered e.items e.some_items e.further_item e.further_name e.offered_item e.behind_items e.behind_names e.unwrapped_first
covered = rw (arrow, assignment) refl

pub expression : firm e.expression ≡ true
unfolding e.expression e.named_first e.name_leaf e.own_name e.named_arrow e.prefix_first e.primary_first
expression = rw (covered, arrow, primary, conditional, assignment) refl

-- ---- statements

block : firm s.block ≡ true
unfolding s.block
block = rw items refl

lets : firm s.let_list ≡ true
unfolding s.let_list s.let_binding s.initialiser s.further_let e.declared_name
lets = refl

consts : firm s.const_list ≡ true
unfolding s.const_list s.const_binding s.initialiser s.further_const e.declared_name
consts = refl

simple : firm s.simple_statement ≡ true
unfolding s.simple_statement s.jump s.line_or_end s.ends s.return_statement s.returned s.nothing_returned s.throw_statement s.thrown s.expression_statement s.ended_expression e.expression_list e.further_expression
simple = refl

tries : firm s.try_statement ≡ true
unfolding s.try_statement s.handlers s.catch_clause s.catch_name s.caught_name s.finaliser s.finaliser_if_any s.only_finaliser e.own_name
tries = refl

fors : firm s.for_statement ≡ true
unfolding s.for_statement s.for_head s.for_start s.let_start s.const_start s.expression_before
fors = rw (lets, consts, list) refl

pub statement : firm s.statement ≡ true
unfolding s.statement s.empty_statement s.if_statement s.condition s.alternative s.else_branch s.while_statement
statement = rw (block, list, fors, tries, simple) refl

pub item : firm s.item ≡ true
unfolding s.item s.let_declaration s.const_declaration s.function_declaration s.ends e.own_name
item = rw (lets, consts, parameters, body, statement) refl

-- ---- literals

literal : firm l.literal ≡ true
unfolding l.literal l.negative l.negated_number l.literal_array l.literal_element l.literal_object l.literal_property l.constant_word e.comma_before e.leaf e.number_leaf e.text_leaf
literal = refl

pub rules_firm : (form : Form) → firm (rule_of form) ≡ true
rules_firm Expression = expression
rules_firm Prefix = prefix
rules_firm Statement = statement
rules_firm Item = item
rules_firm Block = block
rules_firm Literal = literal

pub script_firm : firm s.script ≡ true
unfolding s.script
script_firm = refl

pub literal_firm : firm l.literal_text ≡ true
unfolding l.literal_text l.text_end
literal_firm = refl

pub arguments_firm : firm l.arguments_text ≡ true
unfolding l.arguments_text l.argument l.passing l.passing_word l.passed_name e.comma_before
arguments_firm = refl

-- ---- levels

pub within_firm : (n : ℕ) (form : Form) → Firm (within n form)
unfolding within
within_firm zero form = beyond_firm form
within_firm (suc n) form = run_firm (within n) (record { below = within_below n; shut = within_shuts n; far = within_far n; firm = within_firm n }) (rule_of form) (rules_firm form)

pub within_firmly : (n : ℕ) → Firmly (within n)
within_firmly n = record { below = within_below n; shut = within_shuts n; far = within_far n; firm = within_firm n }
