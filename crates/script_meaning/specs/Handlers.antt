-- `throw` and `try`. `at` evaluates what stands inside the form.
-- ECMA-262, The throw Statement and The try Statement; docs/SCRIPTS.md, "Throwing and catching".
use Rattle.std.specs.Prelude.{ℕ, List, Option, Some, None, Result, Ok, Err}
use Rattle.charged_heap.specs.declared.values.Value.{Value}
use Rattle.js_syntax.specs.declared.kind.Kind.{Kind}
use Rattle.js_syntax.specs.declared.kind.Kind.TheVariants as kinds
use Rattle.js_syntax.specs.Tree.{Trees}
use Rattle.js_trees.specs.Tree.{Tree, kid}
use Rattle.js_scopes.specs.Lists.{catch_scope}
use Rattle.script_meaning.specs.Outcome.{State, Out, Inside, on_heap, with_value}
use Rattle.script_meaning.specs.Statements.{filled}
use Rattle.script_meaning.specs.declared.completion.Abrupt.{Abrupt}
use Rattle.script_meaning.specs.declared.completion.Abrupt.TheVariants as abrupt
use Rattle.script_meaning.specs.declared.completion.Ended.{Ended}
use Rattle.script_meaning.specs.declared.site.Role.TheVariants as role
use Rattle.script_meaning.specs.declared.site.Site.{Site}

unfoldable pub throw_rule : Inside → Trees → Site → State → Out
throw_rule at kids site s = with_value (at role.Value (kid 0 kids) site s) (λ v s. (Err (abrupt.Throw v), s))

-- ---- `catch`

-- the block of a `catch` with a name has a scope of that name, whose value is what was thrown
abbrev pub handler_by : Option (List ℕ) → Inside → Tree → Site → Value → State → Out
handler_by None at handler site v s = at role.Statement handler site s
handler_by (Some name) at handler site v s =
    on_heap s (catch_scope site.scope name v s.heap) (λ scope s. at role.Statement handler (record site { scope = scope }) s)

-- only what was thrown is caught
abbrev pub caught : Out → (Value → State → Out) → Out
caught (Err (abrupt.Throw v), s) handle = handle v s
caught (Err (abrupt.Return v), s) handle = (Err (abrupt.Return v), s)
caught (Err (abrupt.Break v), s) handle = (Err (abrupt.Break v), s)
caught (Err (abrupt.Continue v), s) handle = (Err (abrupt.Continue v), s)
caught (Err (abrupt.Stop cause), s) handle = (Err (abrupt.Stop cause), s)
caught (Err abrupt.NoMemory, s) handle = (Err abrupt.NoMemory, s)
caught (Ok end, s) handle = (Ok end, s)

abbrev pub handled_by : Kind → Inside → Option (List ℕ) → Tree → Site → Out → Out
handled_by kinds.Absent at name handler site o = o
handled_by _ at name handler site o = caught o (λ v s. handler_by name at handler site v s)

abbrev pub handled : Inside → Tree → Site → Out → Out
handled at t site o = handled_by (kid 1 t.kids).head.kind at t.head.name (kid 1 t.kids) site o

-- ---- `finally`

-- the end before stands, unless the `finally` ends abruptly itself
abbrev pub kept : Result Ended Abrupt → Out → Out
kept before (Ok end, s) = (before, s)
kept before (Err e, s) = (Err e, s)

-- a `finally` sees every end but a stop
abbrev pub at_last : Out → (State → Out) → Out
at_last (Ok end, s) finish = kept (Ok end) (finish s)
at_last (Err (abrupt.Throw v), s) finish = kept (Err (abrupt.Throw v)) (finish s)
at_last (Err (abrupt.Return v), s) finish = kept (Err (abrupt.Return v)) (finish s)
at_last (Err (abrupt.Break v), s) finish = kept (Err (abrupt.Break v)) (finish s)
at_last (Err (abrupt.Continue v), s) finish = kept (Err (abrupt.Continue v)) (finish s)
at_last (Err (abrupt.Stop cause), s) finish = (Err (abrupt.Stop cause), s)
at_last (Err abrupt.NoMemory, s) finish = (Err abrupt.NoMemory, s)

abbrev pub finalized_by : Kind → Inside → Tree → Site → Out → Out
finalized_by kinds.Absent at finalizer site o = o
finalized_by _ at finalizer site o = at_last o (λ s. at role.Statement finalizer site s)

abbrev pub finalized : Inside → Tree → Site → Out → Out
finalized at t site o = finalized_by (kid 2 t.kids).head.kind at (kid 2 t.kids) site o

-- ---- `try`

-- how a `try` ends, whose block or whose `catch` has ended so; its value is undefined where it has none
abbrev pub try_end : Inside → Tree → Site → Out → Out
try_end at t site o = filled (finalized at t site o)

unfoldable pub try_rule : Inside → Tree → Site → State → Out
try_rule at t site s = try_end at t site (handled at t site (at role.Statement (kid 0 t.kids) site s))
