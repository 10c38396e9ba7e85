-- What a call does.
-- ECMA-262, EvaluateCall and the [[Call]] of functions; docs/SCRIPTS.md, "Calls".
use Rattle.std.specs.Prelude.{List, [], codes, Bool, true, false, Ok, Err, if◌then◌else◌}
use Rattle.ivm_text.specs.declared.copies.ErrorKind.TheVariants.{TypeError}
use Rattle.charged_heap.specs.Store.{Store, item_at}
use Rattle.charged_heap.specs.declared.builtin.Builtin.{Builtin}
use Rattle.charged_heap.specs.declared.builtin.Builtin.TheVariants as builtin
use Rattle.charged_heap.specs.declared.item.Item.{Item}
use Rattle.charged_heap.specs.declared.item.Item.TheVariants as item
use Rattle.charged_heap.specs.declared.values.Value.{Value}
use Rattle.charged_heap.specs.declared.values.Value.TheVariants as value
use Rattle.js_syntax.specs.declared.kind.Kind.{Kind}
use Rattle.js_syntax.specs.declared.kind.Kind.TheVariants as kinds
use Rattle.charged_heap.specs.Ends.{Ends}
use Rattle.js_ops.specs.Outcome.{thrown}
use Rattle.js_members.specs.Arrays.{push_outcome, pop_outcome}
use Rattle.js_trees.specs.Tree.{Tree, kid}
use Rattle.js_trees.specs.Declarations.{declarations}
use Rattle.js_trees.specs.declared.declaration.Declaration.{Declaration}
use Rattle.js_scopes.specs.Lists.{call_scope}
use Rattle.script_meaning.specs.Outcome.{State, Out, Inside, gives, on_heap, of_heap, with_tick}
use Rattle.script_meaning.specs.Places.{ScriptList, form_at}
use Rattle.script_meaning.specs.declared.completion.Abrupt.TheVariants as abrupt
use Rattle.script_meaning.specs.declared.site.Role.TheVariants as role
use Rattle.script_meaning.specs.declared.site.Site.{Site}

-- ---- what can't be called

abbrev pub no_function : Store → Ends Value
no_function s = thrown TypeError (codes "not a function") s

-- ---- built-in functions

-- what a built-in function gives; the others aren't built yet
abbrev pub builtin_outcome : Builtin → Value → List Value → Store → Ends Value
builtin_outcome builtin.ArrayPush receiver arguments s = push_outcome receiver arguments s
builtin_outcome builtin.ArrayPop receiver arguments s = pop_outcome receiver s
builtin_outcome builtin.Object receiver arguments s = no_function s
builtin_outcome builtin.ObjectKeys receiver arguments s = no_function s
builtin_outcome builtin.Array receiver arguments s = no_function s
builtin_outcome builtin.ArrayIsArray receiver arguments s = no_function s
builtin_outcome builtin.String receiver arguments s = no_function s
builtin_outcome builtin.Number receiver arguments s = no_function s
builtin_outcome builtin.Error receiver arguments s = no_function s
builtin_outcome builtin.TypeError receiver arguments s = no_function s
builtin_outcome builtin.RangeError receiver arguments s = no_function s
builtin_outcome builtin.ReferenceError receiver arguments s = no_function s
builtin_outcome builtin.SyntaxError receiver arguments s = no_function s
builtin_outcome builtin.Promise receiver arguments s = no_function s
builtin_outcome builtin.PromiseResolve receiver arguments s = no_function s
builtin_outcome builtin.PromiseReject receiver arguments s = no_function s
builtin_outcome builtin.Reference receiver arguments s = no_function s
builtin_outcome builtin.ExternalCopy receiver arguments s = no_function s
builtin_outcome builtin.ArrayJoin receiver arguments s = no_function s
builtin_outcome builtin.ArraySlice receiver arguments s = no_function s
builtin_outcome builtin.ArrayIndexOf receiver arguments s = no_function s
builtin_outcome builtin.StringCharCodeAt receiver arguments s = no_function s
builtin_outcome builtin.StringSlice receiver arguments s = no_function s
builtin_outcome builtin.StringIndexOf receiver arguments s = no_function s
builtin_outcome builtin.PromiseThen receiver arguments s = no_function s
builtin_outcome builtin.PromiseCatch receiver arguments s = no_function s
builtin_outcome builtin.ReferenceGet receiver arguments s = no_function s
builtin_outcome builtin.ReferenceSet receiver arguments s = no_function s
builtin_outcome builtin.ReferenceApply receiver arguments s = no_function s
builtin_outcome builtin.ReferenceApplyIgnored receiver arguments s = no_function s
builtin_outcome builtin.ReferenceCopy receiver arguments s = no_function s
builtin_outcome builtin.ReferenceDeref receiver arguments s = no_function s
builtin_outcome builtin.ReferenceDerefInto receiver arguments s = no_function s
builtin_outcome builtin.ReferenceRelease receiver arguments s = no_function s
builtin_outcome builtin.ReferenceGetSync receiver arguments s = no_function s
builtin_outcome builtin.ReferenceSetSync receiver arguments s = no_function s
builtin_outcome builtin.ReferenceApplySync receiver arguments s = no_function s
builtin_outcome builtin.ReferenceCopySync receiver arguments s = no_function s
builtin_outcome builtin.ExternalCopyCopy receiver arguments s = no_function s
builtin_outcome builtin.ExternalCopyCopyInto receiver arguments s = no_function s

-- its call takes a tick of its own
unfoldable pub builtin_rule : Builtin → Value → List Value → State → Out
builtin_rule which receiver arguments s = with_tick s (λ s. of_heap s (builtin_outcome which receiver arguments s.heap))

-- ---- functions of scripts

abbrev pub is_body : Kind → Bool
is_body kinds.Body = true
is_body _ = false

-- what the body of a function declares; an expression in its place declares nothing
abbrev pub body_declares : Tree → List Declaration
body_declares body = if is_body body.head.kind then declarations body.kids else []

-- `this` in a function: that of the call, and in an arrow function the one that it keeps
abbrev pub this_of : Kind → Value → Value → Value
this_of kinds.Arrow kept given = kept
this_of _ kept given = given

-- how a body's end is the end of the call: with what it returns, and else with undefined
abbrev pub returned : Out → Out
returned (Ok ended, s) = gives value.Undefined s
returned (Err (abrupt.Return v), s) = gives v s
returned (Err (abrupt.Throw v), s) = (Err (abrupt.Throw v), s)
returned (Err (abrupt.Break v), s) = (Err (abrupt.Break v), s)
returned (Err (abrupt.Continue v), s) = (Err (abrupt.Continue v), s)
returned (Err (abrupt.Stop cause), s) = (Err (abrupt.Stop cause), s)
returned (Err abrupt.NoMemory, s) = (Err abrupt.NoMemory, s)

-- the body is a list of statements, or an expression whose value is returned
abbrev pub body_rule : Bool → Inside → Tree → Site → State → Out
body_rule true at body site s = returned (at role.Statement body site s)
body_rule false at body site s = at role.Value body site s

-- the scope of the call is made, and then the body is evaluated in it
unfoldable pub enter_rule : Inside → Tree → Site → List Value → State → Out
enter_rule at f site arguments s =
    on_heap s (call_scope site.script site.global site.scope f.head.names (body_declares (kid 0 f.kids)) arguments s.heap)
    (λ scope s. body_rule (is_body (kid 0 f.kids).head.kind) at (kid 0 f.kids) (record site { scope = scope }) s)

-- a function of one of the scripts is entered; no other item can be called. That a function's node is one is a law
-- (`script_laws`), and isn't asked here.
abbrev pub item_call : Inside → ScriptList → Item → Value → List Value → State → Out
item_call at scripts (item.Closure script node scope global kept) receiver arguments s =
    enter_rule at (form_at scripts script node)
    (record { script = script; scope = scope; global = global; receiver = this_of (form_at scripts script node).head.kind kept receiver }) arguments s
item_call at scripts _ receiver arguments s = of_heap s (no_function s.heap)

-- what a call of a value does
unfoldable pub call_rule : Inside → ScriptList → Value → Value → List Value → State → Out
call_rule at scripts (value.Builtin which) receiver arguments s = builtin_rule which receiver arguments s
call_rule at scripts (value.Item n) receiver arguments s = item_call at scripts (item_at s.heap n) receiver arguments s
call_rule at scripts _ receiver arguments s = of_heap s (no_function s.heap)
