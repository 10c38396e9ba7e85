-- The rules of statements and declarations.
-- ECMA-262, Statements and Declarations; Automatic Semicolon Insertion; docs/SCRIPTS.md,
-- "Statements".
use Rattle.std.specs.Prelude.{List, [], ◌∷◌}
use Rattle.js_syntax.specs.declared.kind.Kind.{Kind}
use Rattle.js_syntax.specs.declared.kind.Kind.TheVariants as kinds
use Rattle.parser_rules.specs.declared.class.Class.{Class}
use Rattle.parser_rules.specs.declared.class.Class.TheVariants.{End, Name, Num, Text, Let, Const, Function, If, Else, While, For, Break, Continue, Return, Throw, Try, Catch, Finally, TypeOf, Void, This, Undefined, Null, True, False, New, BraceOpen, BraceClose, ParenOpen, ParenClose, BracketOpen, Semicolon, Comma, Plus, Minus, PlusPlus, MinusMinus, Not, Equals}
use Rattle.parser_rules.specs.declared.form.Form.TheVariants.{Expression, Statement, Item, Block}
use Rattle.parser_rules.specs.Rules.{Rule, Test, nothing_more, take, act, inside, ◌▸◌, either, many, refuse, sees, sees_other, after_line, may_end, open_form, close, name_it, declare, omit}
use Rattle.parser_rules.specs.Expressions.{at, token, expression_list, item_list, declared_name, own_name, parameters, body}

-- ---- what statements begin with

-- an ExpressionStatement begins with neither `{` nor `function`
abbrev pub begins_expression_statement : List Class
begins_expression_statement =
    Name ∷ Num ∷ Text ∷ This ∷ Undefined ∷ Null ∷ True ∷ False ∷ New ∷ ParenOpen ∷ BracketOpen ∷ Not ∷ Minus ∷ Plus ∷ TypeOf ∷ Void ∷ PlusPlus ∷ MinusMinus ∷ []

abbrev pub statement_begins : List Class
statement_begins =
    Semicolon ∷ BraceOpen ∷ If ∷ While ∷ For ∷ Break ∷ Continue ∷ Return ∷ Throw ∷ Try ∷ begins_expression_statement

abbrev pub item_begins : List Class
item_begins = Let ∷ Const ∷ Function ∷ statement_begins

-- ---- ends

-- A `;`, or the end of the statement without one. What was read before is the longest that can be
-- read, so the token in view continues nothing.
unfoldable pub ends : Rule
ends = either (at Semicolon) (token Semicolon) (either may_end nothing_more refuse)

-- an expression, or nothing in front of a token of this class
unfoldable pub expression_before : Class → Rule
expression_before closing = either (at closing) (act omit) expression_list

-- ---- declarations

unfoldable pub initialiser : Rule
initialiser = token Equals ▸ inside Expression

-- LexicalBinding, without patterns
unfoldable pub let_binding : Rule
let_binding = declared_name ▸ either (at Equals) initialiser (act omit)

-- a constant has its value at once
unfoldable pub const_binding : Rule
const_binding = declared_name ▸ initialiser

unfoldable pub further_let : Rule
further_let = token Comma ▸ let_binding

unfoldable pub further_const : Rule
further_const = token Comma ▸ const_binding

-- LexicalDeclaration, without its end
unfoldable pub let_list : Rule
let_list = act (open_form kinds.Let) ▸ token Let ▸ let_binding ▸ many (at Comma) further_let

unfoldable pub const_list : Rule
const_list = act (open_form kinds.Const) ▸ token Const ▸ const_binding ▸ many (at Comma) further_const

-- FunctionDeclaration
unfoldable pub function_declaration : Rule
function_declaration = act (open_form kinds.FunctionDecl) ▸ token Function ▸ own_name ▸ parameters ▸ body ▸ act close

-- ---- statements

-- EmptyStatement
unfoldable pub empty_statement : Rule
empty_statement = act (open_form kinds.Empty) ▸ token Semicolon ▸ act close

-- Block
unfoldable pub block : Rule
block = act (open_form kinds.Block) ▸ token BraceOpen ▸ item_list ▸ token BraceClose ▸ act close

-- a condition in parentheses
unfoldable pub condition : Rule
condition = token ParenOpen ▸ expression_list ▸ token ParenClose

unfoldable pub else_branch : Rule
else_branch = token Else ▸ inside Statement

unfoldable pub alternative : Rule
alternative = either (at Else) else_branch (act omit)

-- IfStatement: an `else` belongs to the nearest `if` that can take it, since that one takes it
-- first
unfoldable pub if_statement : Rule
if_statement =
    act (open_form kinds.If) ▸ token If ▸ condition ▸ inside Statement ▸ alternative ▸ act close

-- WhileStatement
unfoldable pub while_statement : Rule
while_statement = act (open_form kinds.While) ▸ token While ▸ condition ▸ inside Statement ▸ act close

unfoldable pub let_start : Rule
let_start = let_list ▸ act close

unfoldable pub const_start : Rule
const_start = const_list ▸ act close

-- what a `for` begins with; no `;` is left out there
unfoldable pub for_start : Rule
for_start =
    either (at Let) let_start
    (either (at Const) const_start
    (expression_before Semicolon))

unfoldable pub for_head : Rule
for_head =
    token ParenOpen ▸ for_start ▸ token Semicolon ▸ expression_before Semicolon ▸ token Semicolon ▸ expression_before ParenClose ▸ token ParenClose

-- ForStatement
unfoldable pub for_statement : Rule
for_statement =
    act (open_form kinds.For) ▸ token For ▸ for_head ▸ inside Statement ▸ act close

-- BreakStatement and ContinueStatement, without labels: a line terminator ends them
unfoldable pub line_or_end : Rule
line_or_end = either after_line nothing_more ends

unfoldable pub jump : Kind → Class → Rule
jump kind class = act (open_form kind) ▸ token class ▸ line_or_end ▸ act close

unfoldable pub ended_expression : Rule
ended_expression = expression_list ▸ ends

unfoldable pub nothing_returned : Rule
nothing_returned = act omit ▸ ends

-- what a `return` gives: nothing in front of `;`, `}` and the end, and behind a line terminator,
-- which ends the statement
unfoldable pub returned : Rule
returned =
    either after_line (act omit)
    (either (sees (Semicolon ∷ BraceClose ∷ End ∷ [])) nothing_returned ended_expression)

-- ReturnStatement
unfoldable pub return_statement : Rule
return_statement = act (open_form kinds.Return) ▸ token Return ▸ returned ▸ act close

unfoldable pub thrown : Rule
thrown = either after_line refuse ended_expression

-- ThrowStatement: no line terminator stands behind `throw`
unfoldable pub throw_statement : Rule
throw_statement = act (open_form kinds.Throw) ▸ token Throw ▸ thrown ▸ act close

unfoldable pub caught_name : Rule
caught_name = token ParenOpen ▸ own_name ▸ token ParenClose

-- CatchParameter, which may be missing
unfoldable pub catch_name : Rule
catch_name = either (at ParenOpen) caught_name nothing_more

unfoldable pub finaliser : Rule
finaliser = token Finally ▸ inside Block

unfoldable pub finaliser_if_any : Rule
finaliser_if_any = either (at Finally) finaliser (act omit)

unfoldable pub catch_clause : Rule
catch_clause = token Catch ▸ catch_name ▸ inside Block ▸ finaliser_if_any

unfoldable pub only_finaliser : Rule
only_finaliser = act omit ▸ finaliser

-- Catch and Finally: one of them is there
unfoldable pub handlers : Rule
handlers =
    either (at Catch) catch_clause only_finaliser

-- TryStatement
unfoldable pub try_statement : Rule
try_statement = act (open_form kinds.Try) ▸ token Try ▸ inside Block ▸ handlers ▸ act close

-- ExpressionStatement
unfoldable pub expression_statement : Rule
expression_statement = act (open_form kinds.ExprStmt) ▸ ended_expression ▸ act close

-- the statements that jump or throw, or are an expression
unfoldable pub simple_statement : Rule
simple_statement =
    either (at Break) (jump kinds.Break Break)
    (either (at Continue) (jump kinds.Continue Continue)
    (either (at Return) return_statement
    (either (at Throw) throw_statement
    (either (sees begins_expression_statement) expression_statement refuse))))

unfoldable pub statement : Rule
statement =
    either (at Semicolon) empty_statement
    (either (at BraceOpen) block
    (either (at If) if_statement
    (either (at While) while_statement
    (either (at For) for_statement
    (either (at Try) try_statement simple_statement)))))

unfoldable pub let_declaration : Rule
let_declaration = let_list ▸ ends ▸ act close

unfoldable pub const_declaration : Rule
const_declaration = const_list ▸ ends ▸ act close

-- StatementListItem: declarations stand only in a list
unfoldable pub item : Rule
item =
    either (at Let) let_declaration
    (either (at Const) const_declaration
    (either (at Function) function_declaration statement))

-- ---- scripts

-- Script, in a frame that was opened for it
unfoldable pub script : Rule
script = many (sees_other (End ∷ [])) (inside Item) ▸ act close
