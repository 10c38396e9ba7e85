-- What a node does: a tick, and the rule of its form, one node deeper. And what a whole run does.
-- ECMA-262, Runtime Semantics: Evaluation. Ticks and nesting are this project's own; docs/SCRIPTS.md, "Evaluation", docs/PRICES.md, "Ticks".
use Rattle.std.specs.Prelude.{ℕ, zero, suc, ◌-◌, List, codes, Option, None, Some, true, false, Result, Ok, Err}
use Rattle.ivm_text.specs.declared.copies.ErrorKind.TheVariants.{RangeError}
use Rattle.charged_heap.specs.Store.{Store}
use Rattle.charged_heap.specs.declared.values.Value.{Value}
use Rattle.charged_heap.specs.declared.values.Value.TheVariants as value
use Rattle.js_syntax.specs.declared.kind.Kind.{Kind}
use Rattle.js_syntax.specs.declared.kind.Kind.TheVariants as kinds
use Rattle.js_ops.specs.Outcome.{text_made, thrown}
use Rattle.js_ops.specs.Operators.{operator_of}
use Rattle.js_ops.specs.declared.operators.Operator.{Operator}
use Rattle.js_ops.specs.declared.operators.Operator.TheVariants as operator
use Rattle.js_ops.specs.declared.operators.UnaryOperator.TheVariants as unary
use Rattle.js_scopes.specs.Names.{name_outcome}
use Rattle.js_syntax.specs.Tree.{Trees}
use Rattle.js_trees.specs.Tree.{Tree, kid}
use Rattle.js_trees.specs.Declarations.{declarations}
use Rattle.js_scopes.specs.Scripts.{script_declared}
use Rattle.script_meaning.specs.Outcome.{State, Out, Inside, gives, is_empty, on_heap, of_heap, with_tick}
use Rattle.script_meaning.specs.Places.{ScriptList, form_at, name_of}
use Rattle.script_meaning.specs.Functions.{call_rule}
use Rattle.script_meaning.specs.Expressions.{comma_rule, binary_rule, unary_rule, typeof_rule, void_rule, condition_rule, logical_rule, assign_rule, update_rule, step_rule, member_rule, index_rule, called_rule, array_rule, object_rule, closure_made, function_rule}
use Rattle.script_meaning.specs.Statements.{list_rule, block_rule, declare_rule, if_rule, return_rule}
use Rattle.script_meaning.specs.Loops.{while_rule, for_rule}
use Rattle.script_meaning.specs.Handlers.{throw_rule, try_rule}
use Rattle.script_meaning.specs.declared.completion.Abrupt.{Abrupt}
use Rattle.script_meaning.specs.declared.completion.Abrupt.TheVariants as abrupt
use Rattle.script_meaning.specs.declared.completion.Completion.{Completion}
use Rattle.script_meaning.specs.declared.completion.Completion.TheVariants as completion
use Rattle.script_meaning.specs.declared.completion.Ended.{Ended}
use Rattle.script_meaning.specs.declared.completion.Ended.TheVariants as ended
use Rattle.script_meaning.specs.declared.site.Place.TheVariants as place
use Rattle.script_meaning.specs.declared.site.Role.{Role}
use Rattle.script_meaning.specs.declared.site.Role.TheVariants as role
use Rattle.script_meaning.specs.declared.site.Site.{Site}

-- ---- by form

-- an operator by how it takes its operands; a form that is no operator either is empty
abbrev pub operation : Option Operator → ScriptList → Inside → Trees → Site → State → Out
operation (Some (operator.Binary op)) scripts at kids site s = binary_rule op at kids site s
operation (Some (operator.Unary unary.TypeOf)) scripts at kids site s = typeof_rule scripts at kids site s
operation (Some (operator.Unary op)) scripts at kids site s = unary_rule op at kids site s
operation (Some (operator.Update op)) scripts at kids site s = update_rule op scripts at kids site s
operation (Some (operator.Step op before)) scripts at kids site s = step_rule op before scripts at kids site s
operation None scripts at kids site s = is_empty s

-- an expression for its value; the other forms are operators, or no expressions, or not built yet
abbrev pub value_by : Kind → ScriptList → Inside → Tree → Site → State → Out
value_by kinds.Num scripts at t site s = gives (value.Num t.head.value) s
value_by kinds.Text scripts at t site s = of_heap s (text_made (name_of t) s.heap)
value_by kinds.Undefined scripts at t site s = gives value.Undefined s
value_by kinds.Null scripts at t site s = gives value.Null s
value_by kinds.True scripts at t site s = gives (value.Bool true) s
value_by kinds.False scripts at t site s = gives (value.Bool false) s
value_by kinds.This scripts at t site s = gives site.receiver s
value_by kinds.Name scripts at t site s = of_heap s (name_outcome (name_of t) site.scope site.global s.heap)
value_by kinds.Comma scripts at t site s = comma_rule at t.kids site s
value_by kinds.Assign scripts at t site s = assign_rule scripts at t.kids site s
value_by kinds.Arrow scripts at t site s = of_heap s (closure_made t.head.number_of_node site site.receiver s.heap)
value_by kinds.FunctionExpr scripts at t site s = function_rule t site s
value_by kinds.Cond scripts at t site s = condition_rule at t.kids site s
value_by kinds.Coalesce scripts at t site s = logical_rule kinds.Coalesce at t.kids site s
value_by kinds.Or scripts at t site s = logical_rule kinds.Or at t.kids site s
value_by kinds.And scripts at t site s = logical_rule kinds.And at t.kids site s
value_by kinds.Void scripts at t site s = void_rule at t.kids site s
value_by kinds.Member scripts at t site s = member_rule role.Value at t site s
value_by kinds.Index scripts at t site s = index_rule role.Value at t.kids site s
value_by kinds.Call scripts at t site s = called_rule scripts at t.kids site s
value_by kinds.Array scripts at t site s = array_rule at t.kids site s
value_by kinds.Object scripts at t site s = object_rule at t site s
value_by kind scripts at t site s = operation (operator_of kind) scripts at t.kids site s

-- a target for its place; no other form is one
abbrev pub target_by : Kind → Inside → Tree → Site → State → Out
target_by kinds.Name at t site s = (Ok (ended.Place (place.Name t.head.number_of_node)), s)
target_by kinds.Member at t site s = member_rule role.Target at t site s
target_by kinds.Index at t site s = index_rule role.Target at t.kids site s
target_by kinds.Script at t site s = is_empty s
target_by kinds.Body at t site s = is_empty s
target_by kinds.Block at t site s = is_empty s
target_by kinds.Empty at t site s = is_empty s
target_by kinds.Let at t site s = is_empty s
target_by kinds.Const at t site s = is_empty s
target_by kinds.FunctionDecl at t site s = is_empty s
target_by kinds.ExprStmt at t site s = is_empty s
target_by kinds.If at t site s = is_empty s
target_by kinds.While at t site s = is_empty s
target_by kinds.For at t site s = is_empty s
target_by kinds.Break at t site s = is_empty s
target_by kinds.Continue at t site s = is_empty s
target_by kinds.Return at t site s = is_empty s
target_by kinds.Throw at t site s = is_empty s
target_by kinds.Try at t site s = is_empty s
target_by kinds.Absent at t site s = is_empty s
target_by kinds.Comma at t site s = is_empty s
target_by kinds.Assign at t site s = is_empty s
target_by kinds.AssignAdd at t site s = is_empty s
target_by kinds.AssignSub at t site s = is_empty s
target_by kinds.AssignMul at t site s = is_empty s
target_by kinds.AssignDiv at t site s = is_empty s
target_by kinds.AssignRem at t site s = is_empty s
target_by kinds.Arrow at t site s = is_empty s
target_by kinds.Cond at t site s = is_empty s
target_by kinds.Coalesce at t site s = is_empty s
target_by kinds.Or at t site s = is_empty s
target_by kinds.And at t site s = is_empty s
target_by kinds.Same at t site s = is_empty s
target_by kinds.NotSame at t site s = is_empty s
target_by kinds.Less at t site s = is_empty s
target_by kinds.More at t site s = is_empty s
target_by kinds.AtMost at t site s = is_empty s
target_by kinds.AtLeast at t site s = is_empty s
target_by kinds.Add at t site s = is_empty s
target_by kinds.Sub at t site s = is_empty s
target_by kinds.Mul at t site s = is_empty s
target_by kinds.Div at t site s = is_empty s
target_by kinds.Rem at t site s = is_empty s
target_by kinds.Not at t site s = is_empty s
target_by kinds.Minus at t site s = is_empty s
target_by kinds.Plus at t site s = is_empty s
target_by kinds.TypeOf at t site s = is_empty s
target_by kinds.Void at t site s = is_empty s
target_by kinds.PreInc at t site s = is_empty s
target_by kinds.PreDec at t site s = is_empty s
target_by kinds.PostInc at t site s = is_empty s
target_by kinds.PostDec at t site s = is_empty s
target_by kinds.Call at t site s = is_empty s
target_by kinds.New at t site s = is_empty s
target_by kinds.Num at t site s = is_empty s
target_by kinds.Text at t site s = is_empty s
target_by kinds.Undefined at t site s = is_empty s
target_by kinds.Null at t site s = is_empty s
target_by kinds.True at t site s = is_empty s
target_by kinds.False at t site s = is_empty s
target_by kinds.This at t site s = is_empty s
target_by kinds.Array at t site s = is_empty s
target_by kinds.Object at t site s = is_empty s
target_by kinds.FunctionExpr at t site s = is_empty s

-- a callee for its function, and for what it is a member of
abbrev pub callee_by : Kind → ScriptList → Inside → Tree → Site → State → Out
callee_by kinds.Member scripts at t site s = member_rule role.Callee at t site s
callee_by kinds.Index scripts at t site s = index_rule role.Callee at t.kids site s
callee_by kind scripts at t site s = value_by kind scripts at t site s

-- a statement; forms that are no statements are empty
abbrev pub statement_by : Kind → Inside → Tree → Site → State → Out
statement_by kinds.Script at t site s = list_rule at t.kids site None s
statement_by kinds.Body at t site s = list_rule at t.kids site None s
statement_by kinds.Block at t site s = block_rule at t.kids site s
statement_by kinds.Let at t site s = declare_rule at t.head.names t.kids site s
statement_by kinds.Const at t site s = declare_rule at t.head.names t.kids site s
statement_by kinds.ExprStmt at t site s = at role.Value (kid 0 t.kids) site s
statement_by kinds.If at t site s = if_rule at t.kids site s
statement_by kinds.Return at t site s = return_rule at t.kids site s
statement_by kinds.While at t site s = while_rule at t.kids site s
statement_by kinds.For at t site s = for_rule at t.kids site s
statement_by kinds.Break at t site s = (Err (abrupt.Break None), s)
statement_by kinds.Continue at t site s = (Err (abrupt.Continue None), s)
statement_by kinds.Throw at t site s = throw_rule at t.kids site s
statement_by kinds.Try at t site s = try_rule at t site s
statement_by kinds.Empty at t site s = is_empty s
statement_by kinds.FunctionDecl at t site s = is_empty s
statement_by kinds.Absent at t site s = is_empty s
statement_by kinds.Comma at t site s = is_empty s
statement_by kinds.Assign at t site s = is_empty s
statement_by kinds.AssignAdd at t site s = is_empty s
statement_by kinds.AssignSub at t site s = is_empty s
statement_by kinds.AssignMul at t site s = is_empty s
statement_by kinds.AssignDiv at t site s = is_empty s
statement_by kinds.AssignRem at t site s = is_empty s
statement_by kinds.Arrow at t site s = is_empty s
statement_by kinds.Cond at t site s = is_empty s
statement_by kinds.Coalesce at t site s = is_empty s
statement_by kinds.Or at t site s = is_empty s
statement_by kinds.And at t site s = is_empty s
statement_by kinds.Same at t site s = is_empty s
statement_by kinds.NotSame at t site s = is_empty s
statement_by kinds.Less at t site s = is_empty s
statement_by kinds.More at t site s = is_empty s
statement_by kinds.AtMost at t site s = is_empty s
statement_by kinds.AtLeast at t site s = is_empty s
statement_by kinds.Add at t site s = is_empty s
statement_by kinds.Sub at t site s = is_empty s
statement_by kinds.Mul at t site s = is_empty s
statement_by kinds.Div at t site s = is_empty s
statement_by kinds.Rem at t site s = is_empty s
statement_by kinds.Not at t site s = is_empty s
statement_by kinds.Minus at t site s = is_empty s
statement_by kinds.Plus at t site s = is_empty s
statement_by kinds.TypeOf at t site s = is_empty s
statement_by kinds.Void at t site s = is_empty s
statement_by kinds.PreInc at t site s = is_empty s
statement_by kinds.PreDec at t site s = is_empty s
statement_by kinds.PostInc at t site s = is_empty s
statement_by kinds.PostDec at t site s = is_empty s
statement_by kinds.Member at t site s = is_empty s
statement_by kinds.Index at t site s = is_empty s
statement_by kinds.Call at t site s = is_empty s
statement_by kinds.New at t site s = is_empty s
statement_by kinds.Num at t site s = is_empty s
statement_by kinds.Text at t site s = is_empty s
statement_by kinds.Undefined at t site s = is_empty s
statement_by kinds.Null at t site s = is_empty s
statement_by kinds.True at t site s = is_empty s
statement_by kinds.False at t site s = is_empty s
statement_by kinds.This at t site s = is_empty s
statement_by kinds.Name at t site s = is_empty s
statement_by kinds.Array at t site s = is_empty s
statement_by kinds.Object at t site s = is_empty s
statement_by kinds.FunctionExpr at t site s = is_empty s

abbrev pub node_by : Role → ScriptList → Inside → Tree → Site → State → Out
node_by role.Value scripts at t site s = value_by t.head.kind scripts at t site s
node_by role.Target scripts at t site s = target_by t.head.kind at t site s
node_by role.Callee scripts at t site s = callee_by t.head.kind scripts at t site s
node_by role.Statement scripts at t site s = statement_by t.head.kind at t site s

-- ---- nodes

abbrev pub too_deep : State → Out
too_deep s = of_heap s (thrown RangeError (codes "nesting too deep") s.heap)

-- a node where at most so many may be in evaluation, itself included: it takes its tick, and then its form's rule
-- is followed; where none may be, an error is thrown in its place
unfoldable pub evaluated : ScriptList → ℕ → Inside
evaluated scripts zero for t site s = with_tick s too_deep
evaluated scripts (suc room) for t site s = with_tick s (λ s. node_by for scripts (evaluated scripts room) t site s)

-- ---- runs

-- at most so many nodes are in evaluation at once
abbrev pub NESTING : ℕ
NESTING = 256

-- how a run ends; no `return`, `break` or `continue` leaves a script or a function
abbrev pub completion_of : Result Ended Abrupt → Completion
completion_of (Ok (ended.Value v)) = completion.Normal v
completion_of (Ok _) = completion.Normal value.Undefined
completion_of (Err (abrupt.Throw v)) = completion.Throw v
completion_of (Err (abrupt.Stop cause)) = completion.Stop cause
completion_of (Err _) = completion.Normal value.Undefined

-- a script is run in the record and over the global object of a context, which is its `this`: its names are declared
-- first, and then its statements are carried out
unfoldable pub script_run : ScriptList → ℕ → ℕ → ℕ → ℕ → State → Out
script_run scripts script root names global s =
    on_heap s (script_declared script names global (declarations (form_at scripts script root).kids) s.heap)
    (λ _ s. evaluated scripts NESTING role.Statement (form_at scripts script root)
    (record { script = script; scope = names; global = global; receiver = value.Item global }) s)

-- a function is called with these arguments
unfoldable pub call_run : ScriptList → Value → Value → List Value → State → Out
call_run scripts function receiver arguments s = call_rule (evaluated scripts NESTING) scripts function receiver arguments s

-- the run ends so, with this store and so many ticks taken of the budget
abbrev pub run_end : ℕ → Out → Completion × Store × ℕ
run_end budget (r, s) = (completion_of r, s.heap, budget - s.left)

abbrev pub run_start : Store → ℕ → ℕ → State
run_start s ticks budget = record { heap = s; left = budget - ticks }
