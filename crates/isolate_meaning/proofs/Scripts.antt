-- In each isolate that a journal gives, what the items name of its scripts is there.
use Rattle.std.proofs.Common.{◌≡◌, ◌∙◌, ℕ, zero, suc, ◌+◌, ◌<◌, ◌≤◌, List, [], ◌∷◌, ◌++◌, length, Bool, true, false, Option, None, Some, Result, Ok, Err, refl, sym, ap, subst, arith, length-append, if◌then◌else◌}
use Rattle.std.specs.Option.{unwrap_or, option_and_then}
use Rattle.std.specs.Prelude.{◌-◌, IfSome, nat_le, nat_lt}
use Rattle.charged_heap.specs.Ends.{Ends, item_made}
use Rattle.charged_heap.specs.Price.{charge_of, price_of}
use Rattle.charged_heap.specs.Room.{overrun_of}
use Rattle.charged_heap.specs.Store.{Store, item_at, with_more}
use Rattle.charged_heap.specs.declared.fault.Fail.TheVariants.{Throw, Over, NoMemory}
use Rattle.charged_heap.specs.declared.item.Item.{Item}
use Rattle.charged_heap.specs.declared.item.Item.TheVariants as item
use Rattle.charged_heap.specs.declared.values.Value.{Value}
use Rattle.charged_heap.specs.declared.values.Value.TheVariants as value
use Rattle.js_members.specs.Writes.{write_outcome}
use Rattle.js_scripts.specs.Text.{Reading, script, refused}
use Rattle.js_syntax.specs.declared.node.Node.{Node}
use Rattle.js_trees.specs.Forms.{is_function_kind}
use Rattle.js_trees.specs.Tree.{absent, tree_of}
use Rattle.script_laws.specs.Scripts.{IsFunctionAt, ItsScriptIsThere, ScriptsAreThere}
use Rattle.script_laws.proofs.Changes.{Keeps, ends_then, item_ends, one_more, same_store}
use Rattle.script_laws.proofs.FunctionWalk.{script_keeps}
use Rattle.script_laws.proofs.StoreFunctions.{o-write}
use Rattle.script_meaning.specs.Evaluates.{script_run, run_end, run_start}
use Rattle.script_meaning.specs.Outcome.{Out}
use Rattle.script_meaning.specs.Places.{ScriptList, form_at, form_in, script_at}
use Rattle.script_meaning.specs.declared.completion.Abrupt.TheVariants as abrupt
use Rattle.script_meaning.specs.declared.completion.Ended.TheVariants as end
use Rattle.script_meaning.specs.declared.completion.StopCause.TheVariants as stop
use Rattle.task_history.specs.declared.task.Act.{Act}
use Rattle.task_history.specs.declared.task.Act.TheVariants.{Get, Set, Apply, CopyOut}
use Rattle.task_history.specs.declared.task.Task.{Task}
use Rattle.task_history.specs.declared.task.TaskKind.{TaskKind}
use Rattle.task_history.specs.declared.task.TaskKind.TheVariants as kind
use Rattle.task_history.specs.declared.outcome.Outcome.TheVariants as outcome
use Rattle.task_history.specs.declared.record.Entry.{Entry}
use Rattle.isolate_meaning.specs.State.{Context, Contents, ScriptsAre, State, live, ended, Isolate, fresh}
use Rattle.isolate_meaning.specs.Values.{passed_value}
use Rattle.isolate_meaning.specs.Tasks.{Done, MadeContext, lives, with_store, with_context, with_script, going_on, context_items, context_made, context_at, run_done, last_run, text_run, row_value, property_told, property_put, property_read, property_written}
use Rattle.isolate_meaning.specs.Does.{ActsOn, Acts, DoesTo, acts, refuses}
use Rattle.isolate_meaning.specs.Replay.{Replay, Stands}

-- ---- one script more

append-get : (scripts : ScriptList) (nodes : List Node) (n : ℕ) → n < length scripts → script_at (scripts ++ nodes ∷ []) n ≡ script_at scripts n
append-get [] nodes n within = absurd (omega (arith, within))
append-get (first ∷ scripts) nodes zero within = refl
append-get (first ∷ scripts) nodes (suc n) within = append-get scripts nodes n (omega (arith, within))

past_all : (scripts : ScriptList) (n : ℕ) → length scripts ≤ n → script_at scripts n ≡ []
past_all [] n past = refl
past_all (first ∷ scripts) zero past = absurd (omega (arith, past))
past_all (first ∷ scripts) (suc n) past = past_all scripts n (omega (arith, past))

none_in : (node : ℕ) → is_function_kind (form_in [] node).head.kind ≡ false
none_in node = by (nat_lt node 0) refl
  where
    by : (within : Bool) → within ≡ nat_lt node 0 → is_function_kind (if within then tree_of [] node else absent).head.kind ≡ false
    by true at =
        let none : node < 0 = grind (arith, sym at) in
        absurd (omega (arith, none))
    by false at = refl

-- a function of a script is in a script that is there
script_there : (scripts : ScriptList) (n node : ℕ) → IsFunctionAt scripts n node → n < length scripts
script_there scripts n node is = by (nat_lt n (length scripts)) refl
  where
    by : (within : Bool) → within ≡ nat_lt n (length scripts) → n < length scripts
    by true at = grind (arith, sym at)
    by false at =
        let none : is_function_kind (form_in [] node).head.kind ≡ true =
        sym (ap (λ (nodes : List Node). is_function_kind (form_in nodes node).head.kind) (past_all scripts n (grind (arith, sym at)))) ∙ is
        in
        absurd (cc (sym (none_in node) ∙ none))

item_still : (scripts : ScriptList) (nodes : List Node) (one : Item) → ItsScriptIsThere scripts one → ItsScriptIsThere (scripts ++ nodes ∷ []) one
item_still scripts nodes (item.Closure n node scope global receiver) is =
    ap (λ (of : List Node). is_function_kind (form_in of node).head.kind) (append-get scripts nodes n (script_there scripts n node is)) ∙ is
item_still scripts nodes (item.Script n) is = omega (arith, is, length-append scripts (nodes ∷ []))
item_still scripts nodes (item.Text units) is = tt
item_still scripts nodes (item.Plain props) is = tt
item_still scripts nodes (item.Array values) is = tt
item_still scripts nodes (item.Error sort message) is = tt
item_still scripts nodes (item.Scope parent bindings functions) is = tt
item_still scripts nodes (item.Promise state reactions) is = tt
item_still scripts nodes (item.Settler promise good) is = tt
item_still scripts nodes (item.Reference to released) is = tt
item_still scripts nodes (item.Deref handle) is = tt
item_still scripts nodes (item.External copy) is = tt
item_still scripts nodes (item.Into copy) is = tt
item_still scripts nodes (item.Callback callback) is = tt
item_still scripts nodes (item.Row value) is = tt

still_there : (scripts : ScriptList) (nodes : List Node) (s : Store) → ScriptsAreThere scripts s → ScriptsAreThere (scripts ++ nodes ∷ []) s
still_there scripts nodes s are = record { each = λ n within. item_still scripts nodes (item_at s n) (are.each n within) }

-- ---- going on

on-scripts : {A : Type 0} (contents : Contents) (ends : Ends A) (go : A → Store → Option Done) → ScriptsAreThere contents.scripts contents.store
    → Keeps contents.scripts contents.store ends
    → ((a : A) (s : Store) → ScriptsAreThere contents.scripts s → IfSome (go a s) (λ done. ScriptsAre done.state)) → IfSome (going_on contents ends go) (λ done. ScriptsAre done.state)
on-scripts contents (Ok a, s) go are keeps each = each a s (keeps are)
on-scripts contents (Err (Over told), s) go are keeps each = tt
on-scripts contents (Err (Throw v), s) go are keeps each = keeps are
on-scripts contents (Err NoMemory, s) go are keeps each = tt

some-scripts : {o : Option Done} (done : Done) → o ≡ Some done → IfSome o (λ done. ScriptsAre done.state) → ScriptsAre done.state
some-scripts done is each = subst (λ o. IfSome o (λ done. ScriptsAre done.state)) is each

-- ---- contexts

items-keep : (b : ScriptList) (s : Store) → Keeps b s (context_items s)
items-keep b s =
    ends_then b s (item_made (item.Plain []) s) _ (item_ends b (item.Plain []) s tt) (λ global s.
    ends_then b s (item_made (item.Scope None [] []) s) _ (item_ends b (item.Scope None [] []) s tt) (λ names s.
    ends_then b s (item_made (item.Row (value.Item global)) s) _ (item_ends b (item.Row (value.Item global)) s tt) (λ row s.
    same_store {A = MadeContext} b s (Ok (record { context = record { names = names; global = global }; row = row })))))

context-scripts : (contents : Contents) → ScriptsAreThere contents.scripts contents.store → IfSome (context_made contents) (λ done. ScriptsAre done.state)
unfolding context_made
context-scripts contents are =
    on-scripts contents (context_items contents.store)
    (λ made s. Some (lives (with_context contents made s) (outcome.Context (length contents.contexts) (length contents.rows)) 0))
    are (items-keep contents.scripts contents.store) (λ made s are. are)

-- ---- runs of texts

run-scripts : (budget : ℕ) (contents : Contents) (ran : Out) → ScriptsAreThere contents.scripts ran.1.heap → ScriptsAre (run_done contents (run_end budget ran)).state
run-scripts budget contents (Ok (end.Value v), s) are = are
run-scripts budget contents (Ok end.Empty, s) are = are
run-scripts budget contents (Ok (end.Place place), s) are = are
run-scripts budget contents (Ok (end.Member function receiver), s) are = are
run-scripts budget contents (Err (abrupt.Throw v), s) are = are
run-scripts budget contents (Err (abrupt.Stop stop.Timeout), s) are = are
run-scripts budget contents (Err (abrupt.Stop (stop.Memory overrun)), s) are = tt
run-scripts budget contents (Err (abrupt.Return v), s) are = are
run-scripts budget contents (Err (abrupt.Break v), s) are = are
run-scripts budget contents (Err (abrupt.Continue v), s) are = are
run-scripts budget contents (Err abrupt.NoMemory, s) are = are

last-scripts : (budget root : ℕ) (context : Context) (contents : Contents) → ScriptsAreThere contents.scripts contents.store → ScriptsAre (last_run budget root context contents).state
last-scripts budget root context contents are =
    run-scripts budget contents
    (script_run contents.scripts (length contents.scripts - 1) root context.names context.global (run_start contents.store 0 budget))
    (script_keeps contents.scripts (length contents.scripts - 1) root context.names context.global (run_start contents.store 0 budget) are)

text-scripts : (budget n : ℕ) (text : Reading) (contents : Contents) → ScriptsAreThere contents.scripts contents.store → IfSome (text_run budget n text contents) (λ done. ScriptsAre done.state)
unfolding text_run
text-scripts budget n (refused r) contents are = are
text-scripts budget n (script nodes) contents are = by (nat_le (charge_of contents.store.items + price_of one) contents.store.limit)
  where
    one : Item
    one = item.Script (length contents.scripts)

    root : ℕ
    root = length nodes - 1

    there : ScriptsAreThere (contents.scripts ++ nodes ∷ []) (with_more contents.store one)
    there =
        one_more (contents.scripts ++ nodes ∷ []) contents.store one (omega (arith, length-append contents.scripts (nodes ∷ [])))
        (still_there contents.scripts nodes contents.store are)

    by : (fits : Bool) → IfSome (going_on contents (if fits then (Ok (length contents.store.items), with_more contents.store one) else (Err (Over (overrun_of contents.store (price_of one))), contents.store)) (λ _ s. Some (last_run budget root (context_at contents n) (with_script contents nodes s)))) (λ done. ScriptsAre done.state)
    by true = last-scripts budget root (context_at contents n) (with_script contents nodes (with_more contents.store one)) there
    by false = tt

-- ---- rows

object-scripts : (key : List ℕ) (object : Option Value) (contents : Contents) → ScriptsAreThere contents.scripts contents.store
    → IfSome (option_and_then (λ v. Some (property_told key contents v)) object) (λ done. ScriptsAre done.state)
object-scripts key None contents are = tt
object-scripts key (Some v) contents are = are

read-scripts : (row : ℕ) (key : List ℕ) (contents : Contents) → ScriptsAreThere contents.scripts contents.store → IfSome (property_read row key contents) (λ done. ScriptsAre done.state)
unfolding property_read
read-scripts row key contents are = object-scripts key (row_value contents row) contents are

put-scripts : (key : List ℕ) (v : Value) (object : Option Value) (contents : Contents) → ScriptsAreThere contents.scripts contents.store
    → IfSome (option_and_then (property_put key contents v) object) (λ done. ScriptsAre done.state)
put-scripts key v None contents are = tt
put-scripts key v (Some object) contents are =
    on-scripts contents (write_outcome object key v contents.store) (λ _ s. Some (lives (with_store contents s) outcome.Done 0)) are
    (o-write contents.scripts object key v contents.store) (λ _ s are. are)

written-scripts : (row : ℕ) (key : List ℕ) (passed : Option Value) (contents : Contents) → ScriptsAreThere contents.scripts contents.store
    → IfSome (property_written row key passed contents) (λ done. ScriptsAre done.state)
unfolding property_written
written-scripts row key None contents are = tt
written-scripts row key (Some v) contents are = put-scripts key v (row_value contents row) contents are

-- ---- tasks

act-scripts : (row : ℕ) (act : Act) (contents : Contents) (done : Done) → ScriptsAreThere contents.scripts contents.store → ActsOn row act contents done → ScriptsAre done.state
act-scripts row (Get key want) contents done are came = some-scripts done came (read-scripts row key contents are)
act-scripts row (Set key v) contents done are came = some-scripts done came (written-scripts row key (passed_value v) contents are)
act-scripts row (Apply receiver args want) contents done are came = absurd came
act-scripts row CopyOut contents done are came = absurd came

kind-scripts : (budget : ℕ) (task : TaskKind) (contents : Contents) (done : Done) → ScriptsAreThere contents.scripts contents.store → Acts budget task contents done → ScriptsAre done.state
kind-scripts budget kind.Context contents done are came = some-scripts done came (context-scripts contents are)
kind-scripts budget (kind.Compile text) contents done are came = absurd came
kind-scripts budget (kind.Run compiled context want) contents done are came = absurd came
kind-scripts budget (kind.Eval context text want) contents done are came = some-scripts done came.runs (text-scripts budget context came.reading contents are)
kind-scripts budget (kind.Act row act) contents done are came = act-scripts row act contents done are came
kind-scripts budget (kind.Resume promise answer) contents done are came = absurd came

-- ---- journals

deed-scripts : (task : Task) (old new : State) (entry : Entry) → ScriptsAre old → DoesTo task old new entry → ScriptsAre new
deed-scripts task old new entry are (acts {contents = contents} {done = done} deed) = kind-scripts task.budget task.kind contents done are deed
deed-scripts task old new entry are refuses = tt

entry-scripts : (task : Option Task) (old new : Isolate) (entry : Entry) → ScriptsAre old.state → Stands task old new entry → ScriptsAre new.state
entry-scripts None old new entry are stopped = subst (λ (i : Isolate). ScriptsAre i.state) (sym stopped.ends) tt
entry-scripts (Some task) old new entry are deed = deed-scripts task old.state new.state entry are deed.does

scripts_from : (first last : Isolate) (journal : List Entry) → ScriptsAre first.state → Replay first journal last → ScriptsAre last.state
scripts_from first last [] are whole = subst (λ (i : Isolate). ScriptsAre i.state) (sym whole) are
scripts_from first last (entry ∷ journal) are whole =
    scripts_from whole.0 last journal (entry-scripts entry.task first whole.0 entry are whole.1) whole.2

pub scripts_stay : (i limit : ℕ) (journal : List Entry) (last : Isolate) → Replay (fresh i limit) journal last → ScriptsAre last.state
scripts_stay i limit journal last whole = scripts_from (fresh i limit) last journal (record { each = λ n within. absurd (omega (arith, within)) }) whole
