-- What each kind of task does to the contents of a live isolate, and what it comes to.
-- This project's own, after isolated-vm's `createContext`, `eval`, `get` and `set`; docs/HOST.md, "What a call gives", docs/PRICES.md.
use Rattle.std.specs.Prelude.{ℕ, List, [], ◌∷◌, ◌++◌, ◌-◌, length, slice_index_or, Option, None, Some, Ok, Err}
use Rattle.std.specs.Option.{unwrap_or, option_and_then}
use Rattle.ivm_text.specs.Keys.{value_at}
use Rattle.ivm_text.specs.declared.overrun.Overrun.{Overrun}
use Rattle.charged_heap.specs.Price.{charge_of}
use Rattle.charged_heap.specs.Store.{Store, item_at}
use Rattle.charged_heap.specs.declared.fault.Fail.TheVariants.{Throw, Over, NoMemory}
use Rattle.charged_heap.specs.declared.item.Item.{Item}
use Rattle.charged_heap.specs.declared.item.Item.TheVariants as item
use Rattle.charged_heap.specs.declared.values.Value.{Value}
use Rattle.charged_heap.specs.declared.values.Value.TheVariants as value
use Rattle.js_syntax.specs.declared.node.Node.{Node}
use Rattle.js_members.specs.Writes.{write_outcome}
use Rattle.charged_heap.specs.Ends.{Ends, and_then, item_made}
use Rattle.script_meaning.specs.Evaluates.{script_run, run_end, run_start}
use Rattle.script_meaning.specs.declared.completion.Completion.{Completion}
use Rattle.script_meaning.specs.declared.completion.Completion.TheVariants as completion
use Rattle.script_meaning.specs.declared.completion.StopCause.TheVariants.{Timeout, Memory}
use Rattle.js_scripts.specs.Text.{Reading, script, refused}
use Rattle.task_history.specs.declared.outcome.By.TheVariants as by
use Rattle.task_history.specs.declared.outcome.Outcome.{Outcome}
use Rattle.task_history.specs.declared.outcome.Outcome.TheVariants as outcome
use Rattle.isolate_meaning.specs.State.{Context, Contents, State, live, ended, cells_of}
use Rattle.isolate_meaning.specs.Values.{result, reading, thrown}

-- what came of a task: the state after it, its outcome, the ticks that it took, and the cells that are charged at its
-- end, or were where the limit stopped it
pub record Done : Type 0 where
  pub state : State
  pub out : Outcome
  pub ticks : ℕ
  pub cells : ℕ

-- ---- ends

-- the isolate lives on
abbrev pub lives : Contents → Outcome → ℕ → Done
lives contents out ticks = record { state = live contents; out = out; ticks = ticks; cells = cells_of contents }

-- the next charge would have passed the limit, which ends the isolate; its items are gone
abbrev pub over : Store → Overrun → ℕ → Done
over s told ticks = record {
  state = ended by.Memory;
  out = outcome.MemoryLimit told;
  ticks = ticks;
  cells = charge_of s.items;
}

abbrev pub with_store : Contents → Store → Contents
with_store contents s = record contents { store = s }

-- goes on with what a call over the heap gave; a charge above the limit ends the isolate, and what is thrown is told.
-- Nothing comes of a call that ends for want of memory.
abbrev pub going_on : {A : Type 0} → Contents → Ends A → (A → Store → Option Done) → Option Done
going_on contents (Ok a, s) go = go a s
going_on contents (Err (Over told), s) go = Some (over s told 0)
going_on contents (Err (Throw v), s) go = Some (lives (with_store contents s) (thrown s v) 0)
going_on contents (Err NoMemory, s) go = None

-- ---- contexts

pub record MadeContext : Type 0 where
  pub context : Context
  pub row : ℕ

-- an empty object, a scope without names, and a row of the object, one after the other
abbrev pub context_items : Store → Ends MadeContext
context_items s =
    and_then (item_made (item.Plain []) s) (λ global s.
    and_then (item_made (item.Scope None [] []) s) (λ names s.
    and_then (item_made (item.Row (value.Item global)) s) (λ row s.
    (Ok (record { context = record { names = names; global = global }; row = row }), s))))

abbrev pub with_context : Contents → MadeContext → Store → Contents
with_context contents made s = record contents {
  store = s;
  contexts = contents.contexts ++ made.context ∷ [];
  rows = contents.rows ++ made.row ∷ [];
}

-- a context is made, and told with its number and that of its global object's row
unfoldable pub context_made : Contents → Option Done
context_made contents =
    going_on contents (context_items contents.store) (λ made s.
    Some (lives (with_context contents made s) (outcome.Context (length contents.contexts) (length contents.rows)) 0))

-- ---- runs of texts

abbrev pub no_context : Context
no_context = record { names = 0; global = 0 }

abbrev pub context_at : Contents → ℕ → Context
context_at contents n = slice_index_or contents.contexts n no_context

-- how a run ended: with a value, with what it threw, with its ticks used up, or at the limit of cells
abbrev pub run_done : Contents → Completion × Store × ℕ → Done
run_done contents (completion.Normal v, s, ticks) = lives (with_store contents s) (result s v) ticks
run_done contents (completion.Throw v, s, ticks) = lives (with_store contents s) (thrown s v) ticks
run_done contents (completion.Stop Timeout, s, ticks) = lives (with_store contents s) (outcome.Timeout ticks) ticks
run_done contents (completion.Stop (Memory told), s, ticks) = over s told ticks

-- the last script is run in a context, within so many ticks
abbrev pub last_run : ℕ → ℕ → Context → Contents → Done
last_run budget root context contents =
    run_done contents (run_end budget
    (script_run contents.scripts (length contents.scripts - 1) root context.names context.global (run_start contents.store 0 budget)))

abbrev pub with_script : Contents → List Node → Store → Contents
with_script contents nodes s = record contents { store = s; scripts = contents.scripts ++ nodes ∷ [] }

-- a text that is no script is refused, and nothing changes; a script is charged, and joins the others before it is run
unfoldable pub text_run : ℕ → ℕ → Reading → Contents → Option Done
text_run budget n (refused r) contents = Some (lives contents (outcome.Syntax r) 0)
text_run budget n (script nodes) contents =
    going_on contents (item_made (item.Script (length contents.scripts)) contents.store) (λ _ s.
    Some (last_run budget (length nodes - 1) (context_at contents n) (with_script contents nodes s)))

-- ---- rows

-- the value that a row holds; no other item is a row
abbrev pub row_value_in : Item → Option Value
row_value_in (item.Row v) = Some v
row_value_in (item.Text units) = None
row_value_in (item.Plain props) = None
row_value_in (item.Array values) = None
row_value_in (item.Error sort message) = None
row_value_in (item.Scope parent bindings functions) = None
row_value_in (item.Closure number node scope global receiver) = None
row_value_in (item.Promise state reactions) = None
row_value_in (item.Settler promise good) = None
row_value_in (item.Reference to released) = None
row_value_in (item.Deref handle) = None
row_value_in (item.External copy) = None
row_value_in (item.Into copy) = None
row_value_in (item.Callback number) = None
row_value_in (item.Script number) = None

-- the value of a row
abbrev pub row_value : Contents → ℕ → Option Value
row_value contents row = row_value_in (item_at contents.store (slice_index_or contents.rows row 0))

-- the own property of an item; only objects have some, until references can name arrays and errors
abbrev pub own_property_in : Item → List ℕ → Option Value
own_property_in (item.Plain props) key = value_at props key
own_property_in (item.Array values) key = None
own_property_in (item.Error sort message) key = None
own_property_in (item.Text units) key = None
own_property_in (item.Scope parent bindings functions) key = None
own_property_in (item.Closure number node scope global receiver) key = None
own_property_in (item.Promise state reactions) key = None
own_property_in (item.Settler promise good) key = None
own_property_in (item.Reference to released) key = None
own_property_in (item.Deref handle) key = None
own_property_in (item.External copy) key = None
own_property_in (item.Into copy) key = None
own_property_in (item.Callback number) key = None
own_property_in (item.Row v) key = None
own_property_in (item.Script number) key = None

-- the own property of a value; no value but an item has one
abbrev pub own_property : Store → Value → List ℕ → Option Value
own_property s (value.Item n) key = own_property_in (item_at s n) key
own_property s value.Undefined key = None
own_property s value.Null key = None
own_property s (value.Bool b) key = None
own_property s (value.Num n) key = None
own_property s (value.Builtin which) key = None

-- a property of this value is read; one that isn't there is undefined
abbrev pub property_told : List ℕ → Contents → Value → Done
property_told key contents v =
    lives contents (reading contents.store (unwrap_or (own_property contents.store v key) value.Undefined)) 0

-- a property of the value of a row is read
unfoldable pub property_read : ℕ → List ℕ → Contents → Option Done
property_read row key contents =
    option_and_then (λ object. Some (property_told key contents object)) (row_value contents row)

-- a value is written to a property of another as an assignment writes it: a new key goes last and is charged, a present
-- key keeps its place
abbrev pub property_put : List ℕ → Contents → Value → Value → Option Done
property_put key contents v object =
    going_on contents (write_outcome object key v contents.store) (λ _ s. Some (lives (with_store contents s) outcome.Done 0))

-- what passes is written to a property of the value of a row
unfoldable pub property_written : ℕ → List ℕ → Option Value → Contents → Option Done
property_written row key passed contents =
    option_and_then (λ v. option_and_then (property_put key contents v) (row_value contents row)) passed
