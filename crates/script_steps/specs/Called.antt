-- What an item does that is called, by the function that it is.
-- ECMA-262, the [[Call]] of functions; docs/SCRIPTS.md, "Calls".
use Rattle.std.specs.Prelude.{ℕ, List, Option, Some, None}
use Rattle.charged_heap.specs.declared.item.Item.{Item}
use Rattle.charged_heap.specs.declared.item.Item.TheVariants as item
use Rattle.charged_heap.specs.declared.values.Value.{Value}
use Rattle.script_meaning.specs.Outcome.{State, Out, Inside, of_heap}
use Rattle.script_meaning.specs.Places.{ScriptList, form_at}
use Rattle.script_meaning.specs.Functions.{enter_rule, this_of, no_function}
use Rattle.script_meaning.specs.declared.site.Site.{Site}

-- a closure's node, and the place where it was made; none of all other items
abbrev pub closure_of : Item → Option (ℕ × Site)
closure_of (item.Closure script node scope global kept) =
    Some (node, record { script = script; scope = scope; global = global; receiver = kept })
closure_of _ = None

-- a call of the closure of that node, made there
abbrev pub closure_call : Inside → ScriptList → ℕ → Site → Value → List Value → State → Out
closure_call at scripts node site receiver arguments s =
    enter_rule at (form_at scripts site.script node)
    (record site { receiver = this_of (form_at scripts site.script node).head.kind site.receiver receiver }) arguments s

-- a call of an item that may be one
abbrev pub called_as : Inside → ScriptList → Option (ℕ × Site) → Value → List Value → State → Out
called_as at scripts (Some (node, site)) receiver arguments s = closure_call at scripts node site receiver arguments s
called_as at scripts None receiver arguments s = of_heap s (no_function s.heap)
