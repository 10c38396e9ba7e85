-- No entry passes the limit in cells or the budget of its task, and the store's limit is the isolate's.
use Rattle.std.proofs.Common.{◌≡◌, ◌∙◌, ℕ, ◌+◌, ◌-◌, ◌<◌, ◌≤◌, List, [], ◌∷◌, ◌++◌, length, Option, None, Some, Result, Ok, Err, refl, sym, ap, subst, arith}
use Rattle.std.specs.List.{All}
use Rattle.std.specs.Prelude.{IfSome}
use Rattle.std.specs.Option.{unwrap_or, option_map_or, option_and_then}
use Rattle.std.proofs.lemmas.List.Elements.{All-nil, All-cons}
use Rattle.ivm_text.specs.declared.copies.Copy.{Copy}
use Rattle.ivm_text.specs.declared.copies.Passed.TheVariants as passed
use Rattle.ivm_text.specs.declared.overrun.Overrun.{Overrun}
use Rattle.charged_heap.specs.Ends.{Ends, and_then, item_made}
use Rattle.charged_heap.specs.Price.{charge_of}
use Rattle.charged_heap.specs.Store.{Store}
use Rattle.charged_heap.specs.declared.fault.Fail.TheVariants.{Throw, Over, NoMemory}
use Rattle.charged_heap.specs.declared.item.Item.TheVariants as item
use Rattle.charged_heap.specs.declared.values.Value.{Value}
use Rattle.charged_heap.specs.declared.values.Value.TheVariants as value
use Rattle.js_members.specs.Writes.{write_outcome}
use Rattle.js_scripts.specs.Text.{Reading, script, refused}
use Rattle.script_meaning.specs.Evaluates.{script_run, run_end, run_start}
use Rattle.script_meaning.specs.Limits.{EndsWithin, RunsWithin, StaysWithin, TellsEnd, TellsOverrun as TellsRefused}
use Rattle.script_meaning.specs.Outcome.{State as Running, Out}
use Rattle.script_meaning.specs.declared.completion.Abrupt.{Abrupt}
use Rattle.script_meaning.specs.declared.completion.Abrupt.TheVariants as abrupt
use Rattle.script_meaning.specs.declared.completion.Ended.{Ended}
use Rattle.script_meaning.specs.declared.completion.Ended.TheVariants as end
use Rattle.script_meaning.specs.declared.completion.StopCause.TheVariants as stop
use Rattle.script_meaning.proofs.OutcomeLimits.{o-write}
use Rattle.script_meaning.proofs.StoreLimits.{ends_then, item_ends, same_store}
use Rattle.script_meaning.proofs.TickLaws.{script_within}
use Rattle.task_history.specs.declared.task.Act.{Act}
use Rattle.task_history.specs.declared.task.Act.TheVariants.{Get, Set, Apply, CopyOut}
use Rattle.task_history.specs.declared.task.Task.{Task}
use Rattle.task_history.specs.declared.task.TaskKind.{TaskKind}
use Rattle.task_history.specs.declared.task.TaskKind.TheVariants as kind
use Rattle.task_history.specs.declared.outcome.Outcome.{Outcome}
use Rattle.task_history.specs.declared.outcome.Outcome.TheVariants as outcome
use Rattle.task_history.specs.declared.record.Entry.{Entry}
use Rattle.isolate_meaning.specs.State.{Context, Contents, State, live, ended, Isolate, fresh, cells_of}
use Rattle.isolate_meaning.specs.Values.{result, reading, thrown, value_copy, passed_value}
use Rattle.isolate_meaning.specs.Tasks.{Done, MadeContext, lives, over, with_store, with_context, with_script, going_on, context_items, context_made, context_at, run_done, last_run, text_run, row_value, own_property, property_told, property_put, property_read, property_written}
use Rattle.isolate_meaning.specs.Does.{Acts, ActsOn, Does, DoesTo, acts, refuses, HostStop, entry_of, stop_entry}
use Rattle.isolate_meaning.specs.Replay.{Replay, Stands}
use Rattle.isolate_meaning.specs.Limits.{budget_of, TellsOverrun, TellsTimeout, KeepsLimits, HasLimit, StateHasLimit, KeepTheirLimits}

-- ---- what comes of a task

-- the entry that it leaves keeps the limits, and so does the state
pub record IsLimited (most budget : ℕ) (done : Done) : Type 0 where
  pub state : StateHasLimit most done.state
  pub cells : done.cells ≤ most
  pub ticks : done.ticks ≤ budget
  pub timeout : (n : ℕ) → done.out ≡ outcome.Timeout n → TellsTimeout n done.ticks budget
  pub overrun : (told : Overrun) → done.out ≡ outcome.MemoryLimit told → TellsOverrun most done.cells told

-- the outcome tells no limit
abbrev IsQuiet : Outcome → Type 0
IsQuiet out = ((n : ℕ) → out ≡ outcome.Timeout n → ⊥) × ((told : Overrun) → out ≡ outcome.MemoryLimit told → ⊥)

lives_limited : (most budget ticks : ℕ) (contents : Contents) (out : Outcome) → HasLimit most contents.store → ticks ≤ budget → IsQuiet out → IsLimited most budget (lives contents out ticks)
lives_limited most budget ticks contents out has few quiet = record {
  state = has;
  cells = has.charge;
  ticks = few;
  timeout = λ n is. absurd (quiet.0 n is);
  overrun = λ told is. absurd (quiet.1 told is);
}

over_limited : (most budget ticks : ℕ) (s : Store) (told : Overrun) → HasLimit most s → ticks ≤ budget → TellsRefused s told → IsLimited most budget (over s told ticks)
over_limited most budget ticks s told has few (asked, fails) = record {
  state = tt;
  cells = has.charge;
  ticks = few;
  timeout = λ n is. cc;
  overrun = λ other is.
      let same : told ≡ other = cc in
      subst (TellsOverrun most (charge_of s.items)) same (record {
        charged = ap (λ (o : Overrun). o.charged) fails.numbers;
        limit = ap (λ (o : Overrun). o.limit) fails.numbers ∙ has.limit;
        asked = asked;
        asked_told = ap (λ (o : Overrun). o.asked) fails.numbers;
        passes = omega (arith, fails.over, has.limit);
      });
}

-- a store that stays within its limit
still : (most : ℕ) (s t : Store) → HasLimit most s → StaysWithin s t → HasLimit most t
still most s t has within =
    let limit : t.limit ≡ most = within.limit ∙ has.limit in
    let fits : charge_of s.items ≤ s.limit = omega (arith, has.charge, has.limit) in
    let fits_after : charge_of t.items ≤ t.limit = within.charge fits in
    record { limit = limit; charge = omega (arith, fits_after, limit) }

-- ---- going on

limited_on : {A : Type 0} (most budget : ℕ) (contents : Contents) (ends : Ends A) (go : A → Store → Option Done) → HasLimit most contents.store → EndsWithin contents.store ends
    → ((a : A) (s : Store) → HasLimit most s → IfSome (go a s) (IsLimited most budget)) → IfSome (going_on contents ends go) (IsLimited most budget)
limited_on most budget contents (Ok a, s) go has within each = each a s (still most contents.store s has within.0)
limited_on most budget contents (Err (Over told), s) go has within each = over_limited most budget 0 s told (still most contents.store s has within.0) (omega arith) within.1
limited_on most budget contents (Err (Throw v), s) go has within each =
    lives_limited most budget 0 (with_store contents s) (thrown s v) (still most contents.store s has within.0) (omega arith) (λ n is. cc, λ told is. cc)
limited_on most budget contents (Err NoMemory, s) go has within each = tt

some_limited : {o : Option Done} (most budget : ℕ) (done : Done) → o ≡ Some done → IfSome o (IsLimited most budget) → IsLimited most budget done
some_limited most budget done is each = subst (λ o. IfSome o (IsLimited most budget)) is each

-- ---- contexts

items_within : (s : Store) → EndsWithin s (context_items s)
items_within s =
    ends_then s (item_made (item.Plain []) s) _ (item_ends (item.Plain []) s) (λ global s.
    ends_then s (item_made (item.Scope None [] []) s) _ (item_ends (item.Scope None [] []) s) (λ names s.
    ends_then s (item_made (item.Row (value.Item global)) s) _ (item_ends (item.Row (value.Item global)) s) (λ row s. same_store {A = MadeContext} s (Ok (record { context = record { names = names; global = global }; row = row })) tt)))

context_limited : (most budget : ℕ) (contents : Contents) → HasLimit most contents.store → IfSome (context_made contents) (IsLimited most budget)
unfolding context_made
context_limited most budget contents has =
    limited_on most budget contents (context_items contents.store)
    (λ made s. Some (lives (with_context contents made s) (outcome.Context (length contents.contexts) (length contents.rows)) 0))
    has (items_within contents.store)
    (λ made s has. lives_limited most budget 0 (with_context contents made s) (outcome.Context (length contents.contexts) (length contents.rows)) has (omega arith) (λ n is. cc, λ told is. cc))

-- ---- runs of texts

-- it lives on with what it was told, or with what it threw
normal_limited : (most budget ticks : ℕ) (contents : Contents) (s : Store) (v : Value) → HasLimit most s → ticks ≤ budget → IsLimited most budget (lives (with_store contents s) (result s v) ticks)
normal_limited most budget ticks contents s v has few = lives_limited most budget ticks (with_store contents s) (result s v) has few (λ n is. cc, λ told is. cc)

timeout_limited : (most budget ticks : ℕ) (contents : Contents) (s : Store) → HasLimit most s → ticks ≡ budget → IsLimited most budget (lives (with_store contents s) (outcome.Timeout ticks) ticks)
timeout_limited most budget ticks contents s has all = record {
  state = has;
  cells = has.charge;
  ticks = omega (arith, all);
  timeout = λ n is. record { told = cc; all = all };
  overrun = λ told is. cc;
}

run_limited : (most budget : ℕ) (contents : Contents) (ran : Out) → HasLimit most ran.1.heap → TellsEnd ran.1 ran.0 → IsLimited most budget (run_done contents (run_end budget ran))
run_limited most budget contents (Ok (end.Value v), s) has told = normal_limited most budget (budget - s.left) contents s.heap v has (omega arith)
run_limited most budget contents (Ok end.Empty, s) has told = normal_limited most budget (budget - s.left) contents s.heap value.Undefined has (omega arith)
run_limited most budget contents (Ok (end.Place place), s) has told = normal_limited most budget (budget - s.left) contents s.heap value.Undefined has (omega arith)
run_limited most budget contents (Ok (end.Member function receiver), s) has told = normal_limited most budget (budget - s.left) contents s.heap value.Undefined has (omega arith)
run_limited most budget contents (Err (abrupt.Throw v), s) has told =
    lives_limited most budget (budget - s.left) (with_store contents s.heap) (thrown s.heap v) has (omega arith) (λ n is. cc, λ told is. cc)
run_limited most budget contents (Err (abrupt.Stop stop.Timeout), s) has told = timeout_limited most budget (budget - s.left) contents s.heap has (omega (arith, told))
run_limited most budget contents (Err (abrupt.Stop (stop.Memory overrun)), s) has told = over_limited most budget (budget - s.left) s.heap overrun has (omega arith) told
run_limited most budget contents (Err (abrupt.Return v), s) has told = normal_limited most budget (budget - s.left) contents s.heap value.Undefined has (omega arith)
run_limited most budget contents (Err (abrupt.Break v), s) has told = normal_limited most budget (budget - s.left) contents s.heap value.Undefined has (omega arith)
run_limited most budget contents (Err (abrupt.Continue v), s) has told = normal_limited most budget (budget - s.left) contents s.heap value.Undefined has (omega arith)
run_limited most budget contents (Err abrupt.NoMemory, s) has told = normal_limited most budget (budget - s.left) contents s.heap value.Undefined has (omega arith)

-- a run that began over a store with the limit
ran_limited : (most budget : ℕ) (contents : Contents) (start : Running) (ran : Out) → HasLimit most start.heap → RunsWithin start ran → IsLimited most budget (run_done contents (run_end budget ran))
ran_limited most budget contents start (r, s) has within = run_limited most budget contents (r, s) (still most start.heap s.heap has within.0.heap) within.1

last_limited : (most budget root : ℕ) (context : Context) (contents : Contents) → HasLimit most contents.store → IsLimited most budget (last_run budget root context contents)
last_limited most budget root context contents has =
    ran_limited most budget contents (run_start contents.store 0 budget)
    (script_run contents.scripts (length contents.scripts - 1) root context.names context.global (run_start contents.store 0 budget)) has
    (script_within contents.scripts (length contents.scripts - 1) root context.names context.global (run_start contents.store 0 budget))

text_limited : (most budget n : ℕ) (text : Reading) (contents : Contents) → HasLimit most contents.store → IfSome (text_run budget n text contents) (IsLimited most budget)
unfolding text_run
text_limited most budget n (refused r) contents has = lives_limited most budget 0 contents (outcome.Syntax r) has (omega arith) (λ n is. cc, λ told is. cc)
text_limited most budget n (script nodes) contents has =
    limited_on most budget contents (item_made (item.Script (length contents.scripts)) contents.store)
    (λ _ s. Some (last_run budget (length nodes - 1) (context_at contents n) (with_script contents nodes s)))
    has (item_ends (item.Script (length contents.scripts)) contents.store)
    (λ _ s has. last_limited most budget (length nodes - 1) (context_at contents n) (with_script contents nodes s) has)

-- ---- rows

told_reading : (copy : Option Copy) → IsQuiet (option_map_or (λ copy. outcome.Passed (passed.Copy copy)) copy outcome.NotTransferable)
told_reading None = (λ n is. cc, λ told is. cc)
told_reading (Some copy) = (λ n is. cc, λ told is. cc)

told_limited : (most budget : ℕ) (key : List ℕ) (v : Value) (contents : Contents) → HasLimit most contents.store → IsLimited most budget (property_told key contents v)
told_limited most budget key v contents has =
    lives_limited most budget 0 contents (reading contents.store (unwrap_or (own_property contents.store v key) value.Undefined)) has (omega arith)
    (told_reading (value_copy contents.store (unwrap_or (own_property contents.store v key) value.Undefined)))

object_limited : (most budget : ℕ) (key : List ℕ) (object : Option Value) (contents : Contents) → HasLimit most contents.store
    → IfSome (option_and_then (λ v. Some (property_told key contents v)) object) (IsLimited most budget)
object_limited most budget key None contents has = tt
object_limited most budget key (Some v) contents has = told_limited most budget key v contents has

read_limited : (most budget row : ℕ) (key : List ℕ) (contents : Contents) → HasLimit most contents.store → IfSome (property_read row key contents) (IsLimited most budget)
unfolding property_read
read_limited most budget row key contents has = object_limited most budget key (row_value contents row) contents has

put_limited : (most budget : ℕ) (key : List ℕ) (v : Value) (object : Option Value) (contents : Contents) → HasLimit most contents.store
    → IfSome (option_and_then (property_put key contents v) object) (IsLimited most budget)
put_limited most budget key v None contents has = tt
put_limited most budget key v (Some object) contents has =
    limited_on most budget contents (write_outcome object key v contents.store) (λ _ s. Some (lives (with_store contents s) outcome.Done 0))
    has (o-write object key v contents.store)
    (λ _ s has. lives_limited most budget 0 (with_store contents s) outcome.Done has (omega arith) (λ n is. cc, λ told is. cc))

written_limited : (most budget row : ℕ) (key : List ℕ) (passed : Option Value) (contents : Contents) → HasLimit most contents.store
    → IfSome (property_written row key passed contents) (IsLimited most budget)
unfolding property_written
written_limited most budget row key None contents has = tt
written_limited most budget row key (Some v) contents has = put_limited most budget key v (row_value contents row) contents has

-- ---- tasks

act_limited : (most budget row : ℕ) (act : Act) (contents : Contents) (done : Done) → HasLimit most contents.store → ActsOn row act contents done → IsLimited most budget done
act_limited most budget row (Get key want) contents done has came = some_limited most budget done came (read_limited most budget row key contents has)
act_limited most budget row (Set key v) contents done has came = some_limited most budget done came (written_limited most budget row key (passed_value v) contents has)
act_limited most budget row (Apply receiver args want) contents done has came = absurd came
act_limited most budget row CopyOut contents done has came = absurd came

kind_limited : (most budget : ℕ) (task : TaskKind) (contents : Contents) (done : Done) → HasLimit most contents.store → Acts budget task contents done → IsLimited most budget done
kind_limited most budget kind.Context contents done has came = some_limited most budget done came (context_limited most budget contents has)
kind_limited most budget (kind.Compile text) contents done has came = absurd came
kind_limited most budget (kind.Run compiled context want) contents done has came = absurd came
kind_limited most budget (kind.Eval context text want) contents done has came = some_limited most budget done came.runs (text_limited most budget context came.reading contents has)
kind_limited most budget (kind.Act row act) contents done has came = act_limited most budget row act contents done has came
kind_limited most budget (kind.Resume promise answer) contents done has came = absurd came

-- ---- entries

-- an entry that keeps the limits, and the state after it
pub record EntryKeeps (most : ℕ) (new : State) (entry : Entry) : Type 0 where
  pub state : StateHasLimit most new
  pub limits : KeepsLimits most entry

deed_keeps : (most : ℕ) (task : Task) (old new : State) (entry : Entry) → StateHasLimit most old → DoesTo task old new entry → EntryKeeps most new entry
deed_keeps most task old new entry has (acts {contents = contents} {done = done} deed) =
    let limited = kind_limited most task.budget task.kind contents done has deed in record {
      state = limited.state;
      limits = record { cells = limited.cells; ticks = limited.ticks; timeout = limited.timeout; overrun = limited.overrun };
    }
deed_keeps most task old new entry has refuses = record {
  state = tt;
  limits = record { cells = omega arith; ticks = omega arith; timeout = λ n is. cc; overrun = λ told is. cc };
}

stop_keeps : (most : ℕ) (contents : Contents) → HasLimit most contents.store → KeepsLimits most (stop_entry (cells_of contents))
stop_keeps most contents has = record { cells = has.charge; ticks = omega arith; timeout = λ n is. cc; overrun = λ told is. cc }

entry_keeps : (most : ℕ) (task : Option Task) (old new : Isolate) (entry : Entry) → StateHasLimit most old.state → Stands task old new entry → EntryKeeps most new.state entry
entry_keeps most None old new entry has stopped = record {
  state = subst (λ (i : Isolate). StateHasLimit most i.state) (sym stopped.ends) tt;
  limits = subst (KeepsLimits most) (sym stopped.noted) (stop_keeps most stopped.contents (subst (StateHasLimit most) stopped.was_live has));
}
entry_keeps most (Some task) old new entry has deed = deed_keeps most task old.state new.state entry has deed.does

limit_stays : (task : Option Task) (old new : Isolate) (entry : Entry) → Stands task old new entry → new.limit ≡ old.limit
limit_stays None old new entry stopped = ap (λ (i : Isolate). i.limit) stopped.ends
limit_stays (Some task) old new entry deed = deed.limit

-- ---- journals

keep_from : (most : ℕ) (first last : Isolate) (journal : List Entry) → first.limit ≡ most → StateHasLimit most first.state → Replay first journal last → KeepTheirLimits most journal last
keep_from most first last [] limit has whole = record {
  entries = All-nil (KeepsLimits most);
  isolate = ap (λ (i : Isolate). i.limit) whole ∙ limit;
  store = subst (λ (i : Isolate). StateHasLimit most i.state) (sym whole) has;
}
keep_from most first last (entry ∷ journal) limit has whole =
    let one = entry_keeps most entry.task first whole.0 entry has whole.1 in
    let rest = keep_from most whole.0 last journal (limit_stays entry.task first whole.0 entry whole.1 ∙ limit) one.state whole.2 in record {
      entries = All-cons (KeepsLimits most) entry journal one.limits rest.entries;
      isolate = rest.isolate;
      store = rest.store;
    }

-- a journal of an isolate with this limit
pub keep_their_limits : (i limit : ℕ) (journal : List Entry) (last : Isolate) → Replay (fresh i limit) journal last → KeepTheirLimits limit journal last
keep_their_limits i limit journal last whole = keep_from limit (fresh i limit) last journal refl (record { limit = refl; charge = omega arith }) whole
