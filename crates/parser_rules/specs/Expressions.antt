-- The rules of expressions.
-- ECMA-262, Expressions; docs/SCRIPTS.md, "Expressions".
use Rattle.std.specs.Prelude.{List, [], ◌∷◌}
use Rattle.js_syntax.specs.declared.kind.Kind.{Kind}
use Rattle.js_syntax.specs.declared.kind.Kind.TheVariants as kinds
use Rattle.parser_rules.specs.declared.class.Class.{Class}
use Rattle.parser_rules.specs.declared.class.Class.TheVariants.{End, Name, Num, Text, Function, TypeOf, Void, This, Undefined, Null, True, False, New, BraceOpen, BraceClose, ParenOpen, ParenClose, BracketOpen, BracketClose, Dot, Comma, Less, More, AtMost, AtLeast, Same, NotSame, Plus, Minus, Times, Over, Percent, PlusPlus, MinusMinus, Not, AndAnd, OrOr, Coalesce, Question, Colon, Equals, PlusEquals, MinusEquals, TimesEquals, OverEquals, PercentEquals, Arrow}
use Rattle.parser_rules.specs.declared.form.Form.TheVariants.{Expression, Prefix, Item}
use Rattle.parser_rules.specs.Rules.{Rule, Test, nothing_more, take, act, inside, ◌▸◌, either, many, refuse, sees, sees_other, sees_on_line, sees_word, sees_key, may_be_parameters, must_be_parameters, open_form, open_prefix, precede, precede_operator, close, pair, unwrap, name_it, declare, key, value, shorthand, offer, parameters_only, clear, omit}

-- a token of this class is in view
abbrev pub at : Class → Test
at c = sees (c ∷ [])

abbrev pub token : Class → Rule
token c = take (at c)

-- ---- sets

abbrev pub prefix_operators : List Class
prefix_operators = Not ∷ Minus ∷ Plus ∷ TypeOf ∷ Void ∷ PlusPlus ∷ MinusMinus ∷ []

abbrev pub assignments : List Class
assignments = Equals ∷ PlusEquals ∷ MinusEquals ∷ TimesEquals ∷ OverEquals ∷ PercentEquals ∷ []

abbrev pub product_operators : List Class
product_operators = Times ∷ Over ∷ Percent ∷ []

abbrev pub sum_operators : List Class
sum_operators = Plus ∷ Minus ∷ []

abbrev pub comparison_operators : List Class
comparison_operators = Less ∷ More ∷ AtMost ∷ AtLeast ∷ []

abbrev pub equality_operators : List Class
equality_operators = Same ∷ NotSame ∷ []

-- what an expression may begin with
abbrev pub expression_begins : List Class
expression_begins =
    Name ∷ Num ∷ Text ∷ Function ∷ This ∷ Undefined ∷ Null ∷ True ∷ False ∷ New ∷ BraceOpen ∷ ParenOpen ∷ BracketOpen ∷ Not ∷ Minus ∷ Plus ∷ TypeOf ∷ Void ∷ PlusPlus ∷ MinusMinus ∷ []

-- ---- lists

unfoldable pub further_expression : Rule
further_expression = token Comma ▸ inside Expression ▸ act (pair kinds.Comma)

-- Expression: one, or several with `,` between, which lean to the left
unfoldable pub expression_list : Rule
expression_list = inside Expression ▸ many (at Comma) further_expression

-- a `,`, or what closes the list
unfoldable pub comma_before : Class → Rule
comma_before closing = either (at Comma) (token Comma) (either (at closing) nothing_more refuse)

unfoldable pub element : Class → Rule
element closing = inside Expression ▸ comma_before closing

-- ArgumentList and ElementList, without spreads and holes; a `,` may stand at the end
unfoldable pub elements : Class → Rule
elements closing = many (sees_other (closing ∷ [])) (element closing) ▸ token closing

-- StatementList, up to a `}` or the end
unfoldable pub item_list : Rule
item_list = many (sees_other (BraceClose ∷ End ∷ [])) (inside Item)

-- ---- functions

-- a name that is declared
unfoldable pub declared_name : Rule
declared_name = act declare ▸ token Name

unfoldable pub parameter : Rule
parameter = declared_name ▸ comma_before ParenClose

-- FormalParameters, without defaults and patterns
unfoldable pub parameters : Rule
parameters = token ParenOpen ▸ many (at Name) parameter ▸ token ParenClose

-- FunctionBody
unfoldable pub body : Rule
body = act (open_form kinds.Body) ▸ token BraceOpen ▸ item_list ▸ token BraceClose ▸ act close

-- a name that the form has, where there is one
unfoldable pub own_name : Rule
own_name = act name_it ▸ token Name

unfoldable pub name_if_any : Rule
name_if_any = either (at Name) own_name nothing_more

-- FunctionExpression
unfoldable pub function_expression : Rule
function_expression =
    act (open_form kinds.FunctionExpr) ▸ token Function ▸ name_if_any ▸ parameters ▸ body ▸ act close

-- ConciseBody
unfoldable pub concise_body : Rule
concise_body = either (at BraceOpen) body (inside Expression)

-- the rest of an ArrowFunction whose parameters were read; no line terminator stands before the
-- `=>`
unfoldable pub arrow : Rule
arrow = act clear ▸ take (sees_on_line (Arrow ∷ [])) ▸ concise_body ▸ act close

-- ---- operands

-- a node of one token
unfoldable pub leaf : Kind → Class → Rule
leaf kind class = act (open_form kind) ▸ token class ▸ act close

-- IdentifierReference
unfoldable pub name_leaf : Rule
name_leaf = act (open_form kinds.Name) ▸ own_name ▸ act close

unfoldable pub number_leaf : Rule
number_leaf = act (open_form kinds.Num) ▸ act value ▸ token Num ▸ act close

unfoldable pub text_leaf : Rule
text_leaf = act (open_form kinds.Text) ▸ act name_it ▸ token Text ▸ act close

-- the words that are values by themselves; `undefined` is one of them here
unfoldable pub word_leaf : Rule
word_leaf =
    either (at This) (leaf kinds.This This)
    (either (at Undefined) (leaf kinds.Undefined Undefined)
    (either (at Null) (leaf kinds.Null Null)
    (either (at True) (leaf kinds.True True)
    (either (at False) (leaf kinds.False False) refuse))))

-- ArrayLiteral
unfoldable pub array : Rule
array = act (open_form kinds.Array) ▸ token BracketOpen ▸ elements BracketClose ▸ act close

unfoldable pub property_value : Rule
property_value = token Colon ▸ inside Expression

unfoldable pub named_property : Rule
named_property = declared_name ▸ either (at Colon) property_value (act shorthand)

unfoldable pub keyed_property : Rule
keyed_property = act key ▸ take sees_key ▸ property_value

-- PropertyDefinition: `x`, `x: e`, or a key with its value
unfoldable pub property : Rule
property = either (at Name) named_property keyed_property ▸ comma_before BraceClose

-- ObjectLiteral
unfoldable pub object : Rule
object =
    act (open_form kinds.Object) ▸ token BraceOpen ▸ many (sees_other (BraceClose ∷ [])) property ▸ token BraceClose ▸ act close

-- `new N(args)`, for the constructors that a script can name
unfoldable pub construction : Rule
construction =
    act (open_form kinds.New) ▸ token New ▸ act name_it ▸ take sees_word ▸ token ParenOpen ▸ elements ParenClose ▸ act close

-- PrimaryExpression, but names and parentheses
unfoldable pub primary : Rule
primary =
    either (at Num) number_leaf
    (either (at Text) text_leaf
    (either (at BracketOpen) array
    (either (at BraceOpen) object
    (either (at Function) function_expression
    (either (at New) construction word_leaf)))))

-- ParenthesizedExpression, where no arrow function may stand
unfoldable pub parenthesised : Rule
parenthesised = act (open_form kinds.Arrow) ▸ token ParenOpen ▸ expression_list ▸ token ParenClose ▸ act unwrap

-- ---- behind an operand

unfoldable pub member : Rule
member = act (precede kinds.Member) ▸ token Dot ▸ act name_it ▸ take sees_word ▸ act close

unfoldable pub index : Rule
index = act (precede kinds.Index) ▸ token BracketOpen ▸ expression_list ▸ token BracketClose ▸ act close

unfoldable pub call : Rule
call = act (precede kinds.Call) ▸ token ParenOpen ▸ elements ParenClose ▸ act close

unfoldable pub access : Rule
access = either (at Dot) member (either (at BracketOpen) index call)

-- MemberExpression and CallExpression, which lean to the left
unfoldable pub calls : Rule
calls = many (sees (Dot ∷ BracketOpen ∷ ParenOpen ∷ [])) access

unfoldable pub stepped : Rule
stepped = act precede_operator ▸ take (sees (PlusPlus ∷ MinusMinus ∷ [])) ▸ act close

-- UpdateExpression: no line terminator stands before the operator
unfoldable pub postfix : Rule
postfix = either (sees_on_line (PlusPlus ∷ MinusMinus ∷ [])) stepped nothing_more

-- what calls, members and operators behind it may follow
unfoldable pub simple_operand : Rule
simple_operand = either (at ParenOpen) parenthesised (either (at Name) name_leaf primary)

unfoldable pub called_operand : Rule
called_operand = simple_operand ▸ calls ▸ postfix

-- UnaryExpression: operators before an operand are levels
unfoldable pub operand : Rule
operand = either (sees prefix_operators) (inside Prefix) called_operand

unfoldable pub prefix : Rule
prefix = act open_prefix ▸ take (sees prefix_operators) ▸ operand ▸ act close

-- ---- operators between operands

-- an operator between operands, and its right operand, behind which `tighter` reads what binds
-- tighter
abbrev pub binary : List Class → Rule → Rule
binary operators tighter = act precede_operator ▸ take (sees operators) ▸ operand ▸ tighter ▸ act close

-- MultiplicativeExpression; here and below, what stands behind the first operand
unfoldable pub product : Rule
product = act precede_operator ▸ take (sees product_operators) ▸ operand ▸ act close

unfoldable pub products : Rule
products = many (sees product_operators) product

-- AdditiveExpression
unfoldable pub sum_step : Rule
sum_step = binary sum_operators products

unfoldable pub sums : Rule
sums = products ▸ many (sees sum_operators) sum_step

-- RelationalExpression
unfoldable pub comparison : Rule
comparison = binary comparison_operators sums

unfoldable pub comparisons : Rule
comparisons = sums ▸ many (sees comparison_operators) comparison

-- EqualityExpression
unfoldable pub equality : Rule
equality = binary equality_operators comparisons

unfoldable pub equalities : Rule
equalities = comparisons ▸ many (sees equality_operators) equality

-- CoalesceExpression: its operands are without `&&` and `||`, and it leans to the left
unfoldable pub coalescing : Rule
coalescing = binary (Coalesce ∷ []) equalities

-- LogicalANDExpression
unfoldable pub conjunction : Rule
conjunction = binary (AndAnd ∷ []) equalities

unfoldable pub conjunctions : Rule
conjunctions = many (at AndAnd) conjunction

-- LogicalORExpression
unfoldable pub disjunction : Rule
disjunction = act precede_operator ▸ token OrOr ▸ operand ▸ equalities ▸ conjunctions ▸ act close

unfoldable pub logical : Rule
logical = conjunctions ▸ many (at OrOr) disjunction

unfoldable pub coalescings : Rule
coalescings = many (at Coalesce) coalescing

-- ShortCircuitExpression: `??` does not mix with `&&` and `||`
unfoldable pub short_circuit : Rule
short_circuit = equalities ▸ either (at Coalesce) coalescings logical

unfoldable pub choice : Rule
choice = act (precede kinds.Cond) ▸ token Question ▸ inside Expression ▸ token Colon ▸ inside Expression ▸ act close

-- ConditionalExpression
unfoldable pub conditional : Rule
conditional = short_circuit ▸ either (at Question) choice nothing_more

unfoldable pub assigned : Rule
assigned = act precede_operator ▸ take (sees assignments) ▸ inside Expression ▸ act close

-- AssignmentExpression, behind what calls and members may follow: only that may stand to the left
-- of `=`
unfoldable pub assignment : Rule
assignment = calls ▸ either (sees assignments) assigned (postfix ▸ conditional)

-- ---- expressions

unfoldable pub offered_item : Rule
offered_item = inside Expression ▸ act offer ▸ act (pair kinds.Comma)

unfoldable pub further_name : Rule
further_name = either (at ParenClose) (act parameters_only) offered_item

-- a further expression behind a `(`, or nothing but the `)` where all were names
unfoldable pub further_item : Rule
further_item = token Comma ▸ either may_be_parameters further_name offered_item

unfoldable pub some_items : Rule
some_items = inside Expression ▸ act offer ▸ many (at Comma) further_item

-- what stands between the parentheses
unfoldable pub items : Rule
items = either (at ParenClose) (act parameters_only) some_items

unfoldable pub unwrapped_first : Rule
unwrapped_first = act unwrap ▸ assignment

unfoldable pub behind_names : Rule
behind_names = either (sees_on_line (Arrow ∷ [])) arrow unwrapped_first

-- behind the `)`: an arrow function, or the rest of an expression
unfoldable pub behind_items : Rule
behind_items = either must_be_parameters arrow (either may_be_parameters behind_names unwrapped_first)

-- CoverParenthesizedExpressionAndArrowParameterList
unfoldable pub covered : Rule
covered = act (open_form kinds.Arrow) ▸ token ParenOpen ▸ items ▸ token ParenClose ▸ behind_items

unfoldable pub named_arrow : Rule
named_arrow = act (precede kinds.Arrow) ▸ act offer ▸ arrow

-- a name, and then an arrow function or the rest of an expression
unfoldable pub named_first : Rule
named_first = name_leaf ▸ either (sees_on_line (Arrow ∷ [])) named_arrow assignment

unfoldable pub prefix_first : Rule
prefix_first = inside Prefix ▸ conditional

unfoldable pub primary_first : Rule
primary_first = primary ▸ assignment

-- an expression without `,`
unfoldable pub expression : Rule
expression =
    either (at ParenOpen) covered
    (either (at Name) named_first
    (either (sees prefix_operators) prefix_first primary_first))
