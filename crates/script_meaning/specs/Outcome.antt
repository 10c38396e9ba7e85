-- How the evaluation of a node ends, with the state then, and how one goes on after another.
-- ECMA-262, The Completion Record Specification Type; docs/SCRIPTS.md, "Evaluation".
use Rattle.std.specs.Prelude.{ℕ, zero, suc, Result, Ok, Err}
use Rattle.charged_heap.specs.Store.{Store}
use Rattle.charged_heap.specs.declared.fault.Fail.{Fail}
use Rattle.charged_heap.specs.declared.fault.Fail.TheVariants as fail
use Rattle.charged_heap.specs.declared.values.Value.{Value}
use Rattle.charged_heap.specs.declared.values.Value.TheVariants as value
use Rattle.js_trees.specs.Tree.{Tree}
use Rattle.charged_heap.specs.Ends.{Ends}
use Rattle.script_meaning.specs.declared.completion.Abrupt.{Abrupt}
use Rattle.script_meaning.specs.declared.completion.Abrupt.TheVariants as abrupt
use Rattle.script_meaning.specs.declared.completion.Ended.{Ended}
use Rattle.script_meaning.specs.declared.completion.Ended.TheVariants as ended
use Rattle.script_meaning.specs.declared.completion.StopCause.TheVariants.{Timeout, Memory}
use Rattle.script_meaning.specs.declared.site.Place.{Place}
use Rattle.script_meaning.specs.declared.site.Role.{Role}
use Rattle.script_meaning.specs.declared.site.Site.{Site}

-- what an evaluation changes: the store, and the ticks that are left
pub record State : Type 0 where
  pub heap : Store
  pub left : ℕ

-- how a node ended, and the state then
abbrev pub Out : Type 0
Out = Result Ended Abrupt × State

-- how each node ends that stands inside, evaluated for a role at a site
abbrev pub Inside : Type 0
Inside = Role → Tree → Site → State → Out

-- ---- ends

abbrev pub gives : Value → State → Out
gives v s = (Ok (ended.Value v), s)

abbrev pub is_empty : State → Out
is_empty s = (Ok ended.Empty, s)

-- a failure over the heap, as the end of a node
abbrev pub abrupt_of : Fail → Abrupt
abrupt_of (fail.Throw v) = abrupt.Throw v
abrupt_of (fail.Over told) = abrupt.Stop (Memory told)
abrupt_of fail.NoMemory = abrupt.NoMemory

-- ---- going on

-- goes on with what a call over the heap gave
abbrev pub on_heap : {A : Type 0} → State → Ends A → (A → State → Out) → Out
on_heap s (Ok a, heap) go = go a (record s { heap = heap })
on_heap s (Err failed, heap) go = (Err (abrupt_of failed), record s { heap = heap })

-- the value that a call over the heap gave
abbrev pub of_heap : State → Ends Value → Out
of_heap s made = on_heap s made gives

-- goes on with a value; what has none passes
abbrev pub with_value : Out → (Value → State → Out) → Out
with_value (Ok (ended.Value v), s) go = go v s
with_value (Ok ended.Empty, s) go = (Ok ended.Empty, s)
with_value (Ok (ended.Place place), s) go = (Ok (ended.Place place), s)
with_value (Ok (ended.Member function receiver), s) go = (Ok (ended.Member function receiver), s)
with_value (Err e, s) go = (Err e, s)

-- goes on after whatever ended, with its value or without one
abbrev pub with_end : Out → (State → Out) → Out
with_end (Ok _, s) go = go s
with_end (Err e, s) go = (Err e, s)

-- goes on with a place; what is none passes
abbrev pub with_place : Out → (Place → State → Out) → Out
with_place (Ok (ended.Place place), s) go = go place s
with_place (Ok ended.Empty, s) go = (Ok ended.Empty, s)
with_place (Ok (ended.Value v), s) go = (Ok (ended.Value v), s)
with_place (Ok (ended.Member function receiver), s) go = (Ok (ended.Member function receiver), s)
with_place (Err e, s) go = (Err e, s)

-- goes on with a function and the receiver of its call, which is undefined where the function is no member
abbrev pub with_callee : Out → (Value → Value → State → Out) → Out
with_callee (Ok (ended.Member function receiver), s) go = go function receiver s
with_callee (Ok (ended.Value v), s) go = go v value.Undefined s
with_callee (Ok ended.Empty, s) go = (Ok ended.Empty, s)
with_callee (Ok (ended.Place place), s) go = (Ok (ended.Place place), s)
with_callee (Err e, s) go = (Err e, s)

-- one tick is due: it is taken, or the budget is used up and the run stops
abbrev pub ticked : ℕ → State → (State → Out) → Out
ticked zero s go = (Err (abrupt.Stop Timeout), s)
ticked (suc left) s go = go (record s { left = left })

abbrev pub with_tick : State → (State → Out) → Out
with_tick s go = ticked s.left s go
