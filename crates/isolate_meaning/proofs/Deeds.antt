-- What comes of a task on a live isolate: it lives on with all that it had, or it ends at its limit in cells.
use Rattle.std.proofs.Common.{◌≡◌, ℕ, ◌+◌, ◌-◌, ◌≤◌, List, [], ◌∷◌, length, Bool, true, false, if◌then◌else◌, nat_le, Option, None, Some, Ok, Err, refl, sym, ap, subst, ◌∙◌, arith, inl, inr, length-append}
use Rattle.std.specs.Prelude.{IfSome}
use Rattle.std.specs.Option.{unwrap_or, option_map_or, option_and_then}
use Rattle.ivm_text.specs.declared.copies.Copy.{Copy}
use Rattle.ivm_text.specs.declared.copies.Passed.TheVariants as passed
use Rattle.ivm_text.specs.declared.overrun.Overrun.{Overrun}
use Rattle.charged_heap.specs.Price.{charge_of, price_of}
use Rattle.charged_heap.specs.Store.{Store}
use Rattle.charged_heap.specs.declared.fault.Fail.TheVariants.{Throw, Over, NoMemory}
use Rattle.charged_heap.specs.declared.item.Item.{Item}
use Rattle.charged_heap.specs.declared.item.Item.TheVariants as item
use Rattle.charged_heap.specs.declared.values.Value.{Value}
use Rattle.charged_heap.specs.declared.values.Value.TheVariants as value
use Rattle.js_members.specs.Writes.{write_outcome}
use Rattle.charged_heap.specs.Ends.{Ends, and_then, item_made}
use Rattle.script_meaning.specs.Evaluates.{script_run, run_end, run_start}
use Rattle.script_meaning.specs.declared.completion.Completion.{Completion}
use Rattle.script_meaning.specs.declared.completion.Completion.TheVariants as completion
use Rattle.script_meaning.specs.declared.completion.StopCause.TheVariants.{Timeout, Memory}
use Rattle.js_scripts.specs.Text.{Reading, script, refused}
use Rattle.task_history.specs.Lists.{is_disposal}
use Rattle.task_history.specs.declared.task.Act.{Act}
use Rattle.task_history.specs.declared.task.Act.TheVariants.{Get, Set, Apply, CopyOut}
use Rattle.task_history.specs.declared.task.Task.{Task}
use Rattle.task_history.specs.declared.task.TaskKind.{TaskKind}
use Rattle.task_history.specs.declared.task.TaskKind.TheVariants as kind
use Rattle.task_history.specs.declared.outcome.By.{By}
use Rattle.task_history.specs.declared.outcome.By.TheVariants.{Host}
use Rattle.task_history.specs.declared.outcome.Outcome.{Outcome}
use Rattle.task_history.specs.declared.outcome.Outcome.TheVariants as outcome
use Rattle.isolate_meaning.specs.State.{Contents, live, ended, is_ended}
use Rattle.isolate_meaning.specs.Values.{result, thrown, value_copy, passed_value}
use Rattle.isolate_meaning.specs.Tasks.{Done, MadeContext, lives, over, with_store, with_context, with_script, going_on, context_items, context_made, context_at, run_done, last_run, text_run, row_value, own_property, property_told, property_put, property_read, property_written}
use Rattle.isolate_meaning.specs.Does.{Acts, ActsOn, entry_of}
use Rattle.isolate_meaning.specs.Laws.{AreThere, IsContextReply, EndsByLimit}

-- ---- what comes of it

-- what lives on has all contexts and rows that were there
pub record HasAll (old new : Contents) : Type 0 where
  pub contexts : length old.contexts ≤ length new.contexts
  pub rows : length old.rows ≤ length new.rows

-- a context that is told is there, and so is its row
abbrev pub TellsThere : Contents → Outcome → Type 0
TellsThere new out = (n row : ℕ) → out ≡ outcome.Context n row → AreThere (live new) n row

-- what lives on is told as no disposal; what ends, as the limit that was passed
pub data Comes (old : Contents) : Done → Type 0 where
  lives_on : (new : Contents) (out : Outcome) (ticks : ℕ) → HasAll old new → is_disposal out ≡ false → TellsThere new out → Comes old (lives new out ticks)
  passes : (s : Store) (told : Overrun) (ticks : ℕ) → Comes old (over s told ticks)

-- ---- what makes no context lives on so

-- the outcome tells no context
abbrev IsOther : Outcome → Type 0
IsOther out = (n row : ℕ) → out ≡ outcome.Context n row → ⊥

other_there : (new : Contents) (out : Outcome) → IsOther out → TellsThere new out
other_there new out other n row is = absurd (other n row is)

all_there : (old new : Contents) → new.contexts ≡ old.contexts → new.rows ≡ old.rows → HasAll old new
all_there old new contexts rows = record {
  contexts = omega (arith, ap length contexts);
  rows = omega (arith, ap length rows);
}

passed_other : (value : Copy) → IsOther (outcome.Passed (passed.Copy value))
passed_other value n row is = cc

throw_other : (copy : Copy) → IsOther (outcome.Throw copy)
throw_other copy n row is = cc

timeout_other : (ticks : ℕ) → IsOther (outcome.Timeout ticks)
timeout_other ticks n row is = cc

done_other : IsOther outcome.Done
done_other n row is = cc

same_on : (old new : Contents) (out : Outcome) (ticks : ℕ) → new.contexts ≡ old.contexts → new.rows ≡ old.rows → is_disposal out ≡ false → IsOther out → Comes old (lives new out ticks)
same_on old new out ticks contexts rows quiet other = lives_on new out ticks (all_there old new contexts rows) quiet (other_there new out other)

-- a call over the heap that goes on so
comes_on : {A : Type 0} (old : Contents) (ends : Ends A) (go : A → Store → Option Done) → ((a : A) (s : Store) → IfSome (go a s) (Comes old)) → IfSome (going_on old ends go) (Comes old)
comes_on old (Ok a, s) go each = each a s
comes_on old (Err (Over told), s) go each = passes s told 0
comes_on old (Err (Throw v), s) go each = same_on old (with_store old s) (thrown s v) 0 refl refl refl (λ n row is. cc)
comes_on old (Err NoMemory, s) go each = tt

-- what comes, where something does
some_comes : {o : Option Done} (old : Contents) (done : Done) → o ≡ Some done → IfSome o (Comes old) → Comes old done
some_comes old done is each = subst (λ o. IfSome o (Comes old)) is each

-- ---- each kind of task

made_on : (old : Contents) (made : MadeContext) (s : Store) → Comes old (lives (with_context old made s) (outcome.Context (length old.contexts) (length old.rows)) 0)
made_on old made s =
    let contexts = length-append old.contexts (made.context ∷ []) in
    let rows = length-append old.rows (made.row ∷ []) in
    lives_on (with_context old made s) (outcome.Context (length old.contexts) (length old.rows)) 0
    (record { contexts = omega (arith, contexts); rows = omega (arith, rows) }) refl
    (λ n row is.
    let context_is : length old.contexts ≡ n = cc in
    let row_is : length old.rows ≡ row = cc in
    (omega (arith, contexts, context_is), omega (arith, rows, row_is)))

context_comes : (old : Contents) → IfSome (context_made old) (Comes old)
unfolding context_made
context_comes old = comes_on old (context_items old.store) (λ made s. Some (lives (with_context old made s) (outcome.Context (length old.contexts) (length old.rows)) 0)) (made_on old)

run_comes : (old middle : Contents) (ran : Completion × Store × ℕ) → middle.contexts ≡ old.contexts → middle.rows ≡ old.rows → Comes old (run_done middle ran)
run_comes old middle (completion.Normal v, s, ticks) contexts rows = same_on old (with_store middle s) (result s v) ticks contexts rows refl (λ n row is. cc)
run_comes old middle (completion.Throw v, s, ticks) contexts rows = same_on old (with_store middle s) (thrown s v) ticks contexts rows refl (λ n row is. cc)
run_comes old middle (completion.Stop Timeout, s, ticks) contexts rows = same_on old (with_store middle s) (outcome.Timeout ticks) ticks contexts rows refl (timeout_other ticks)
run_comes old middle (completion.Stop (Memory told), s, ticks) contexts rows = passes s told ticks

text_comes : (budget n : ℕ) (reading : Reading) (old : Contents) → IfSome (text_run budget n reading old) (Comes old)
unfolding text_run
text_comes budget n (refused r) old = same_on old old (outcome.Syntax r) 0 refl refl refl (λ n row is. cc)
text_comes budget n (script nodes) old =
    comes_on old (item_made (item.Script (length old.scripts)) old.store) (λ _ s. Some (last_run budget (length nodes - 1) (context_at old n) (with_script old nodes s)))
    (λ _ s.
    let middle = with_script old nodes s in
    run_comes old middle (run_end budget (script_run middle.scripts (length middle.scripts - 1) (length nodes - 1) (context_at old n).names (context_at old n).global (run_start middle.store 0 budget))) refl refl)

read_comes : (old : Contents) (copy : Option Copy) → Comes old (lives old (option_map_or (λ copy. outcome.Passed (passed.Copy copy)) copy outcome.NotTransferable) 0)
read_comes old None = same_on old old outcome.NotTransferable 0 refl refl refl (λ n row is. cc)
read_comes old (Some copy) = same_on old old (outcome.Passed (passed.Copy copy)) 0 refl refl refl (passed_other copy)

told_comes : (key : List ℕ) (v : Value) (old : Contents) → Comes old (property_told key old v)
told_comes key v old = read_comes old (value_copy old.store (unwrap_or (own_property old.store v key) value.Undefined))

object_comes : (key : List ℕ) (object : Option Value) (old : Contents) → IfSome (option_and_then (λ v. Some (property_told key old v)) object) (Comes old)
object_comes key None old = tt
object_comes key (Some v) old = told_comes key v old

property_comes : (row : ℕ) (key : List ℕ) (old : Contents) → IfSome (property_read row key old) (Comes old)
unfolding property_read
property_comes row key old = object_comes key (row_value old row) old

put_comes : (key : List ℕ) (v : Value) (object : Option Value) (old : Contents) → IfSome (option_and_then (property_put key old v) object) (Comes old)
put_comes key v None old = tt
put_comes key v (Some object) old =
    comes_on old (write_outcome object key v old.store) (λ _ s. Some (lives (with_store old s) outcome.Done 0))
    (λ _ s. same_on old (with_store old s) outcome.Done 0 refl refl refl done_other)

written_comes : (row : ℕ) (key : List ℕ) (passed : Option Value) (old : Contents) → IfSome (property_written row key passed old) (Comes old)
unfolding property_written
written_comes row key None old = tt
written_comes row key (Some v) old = put_comes key v (row_value old row) old

act_comes : (row : ℕ) (act : Act) (old : Contents) (done : Done) → ActsOn row act old done → Comes old done
act_comes row (Get key want) old done acts = some_comes old done acts (property_comes row key old)
act_comes row (Set key value) old done acts = some_comes old done acts (written_comes row key (passed_value value) old)
act_comes row (Apply receiver args want) old done acts = absurd acts
act_comes row CopyOut old done acts = absurd acts

pub comes : (budget : ℕ) (task : TaskKind) (old : Contents) (done : Done) → Acts budget task old done → Comes old done
comes budget kind.Context old done acts = some_comes old done acts (context_comes old)
comes budget (kind.Compile text) old done acts = absurd acts
comes budget (kind.Run compiled context want) old done acts = absurd acts
comes budget (kind.Eval context text want) old done acts = some_comes old done acts.runs (text_comes budget context acts.reading old)
comes budget (kind.Act row act) old done acts = act_comes row act old done acts
comes budget (kind.Resume promise answer) old done acts = absurd acts

-- ---- what that says

-- it has ended exactly where it tells a disposal
pub quiet : (old : Contents) (done : Done) → Comes old done → is_disposal done.out ≡ is_ended done.state
quiet old done (lives_on new out ticks all silent there) = silent
quiet old done (passes s told ticks) = refl

-- the host has no part in it
pub never_host : (old : Contents) (done : Done) → Comes old done → done.state ≡ ended Host → ⊥
never_host old done (lives_on new out ticks all silent there) is = cc
never_host old done (passes s told ticks) is = cc

-- it tells no end that came before
pub never_disposed : (old : Contents) (done : Done) (by : By) → Comes old done → done.out ≡ outcome.Disposed by → ⊥
never_disposed old done by (lives_on new out ticks all silent there) is = let loud : false ≡ true = sym silent ∙ ap is_disposal is in cc
never_disposed old done by (passes s told ticks) is = cc

pub ends_by_limit : (task : Task) (old : Contents) (done : Done) → Comes old done → EndsByLimit done.state (entry_of task done.out done.ticks done.cells)
ends_by_limit task old done (lives_on new out ticks all silent there) = silent
ends_by_limit task old done (passes s told ticks) = (refl, tt)

-- what was there is there, unless it has ended
pub stays_there : (old : Contents) (done : Done) (n row : ℕ) → Comes old done → AreThere (live old) n row → AreThere done.state n row
stays_there old done n row (lives_on new out ticks all silent there) was = (omega (arith, was.0, all.contexts), omega (arith, was.1, all.rows))
stays_there old done n row (passes s told ticks) was = tt

-- and so is what is told
pub told_there : (old : Contents) (done : Done) (n row : ℕ) → Comes old done → done.out ≡ outcome.Context n row → AreThere done.state n row
told_there old done n row (lives_on new out ticks all silent there) is = there n row is
told_there old done n row (passes s told ticks) is = tt

-- ---- the making of a context

-- nothing is thrown, and memory is there
abbrev IsRefusedAtMost : {A : Type 0} → Ends A → Type 0
IsRefusedAtMost (Ok a, s) = Unit {0}
IsRefusedAtMost (Err (Over told), s) = Unit {0}
IsRefusedAtMost (Err (Throw v), s) = ⊥
IsRefusedAtMost (Err NoMemory, s) = ⊥

refused_if : {A : Type 0} (fits : Bool) (a : A) (now s : Store) (told : Overrun) → IsRefusedAtMost {A = A} (if fits then (Ok a, now) else (Err (Over told), s))
refused_if true a now s told = tt
refused_if false a now s told = tt

refused_made : (one : Item) (s : Store) → IsRefusedAtMost (item_made one s)
refused_made one s = refused_if (nat_le (charge_of s.items + price_of one) s.limit) _ _ _ _

refused_then : {A B : Type 0} (ends : Ends A) (next : A → Store → Ends B) → IsRefusedAtMost ends → ((a : A) (s : Store) → IsRefusedAtMost (next a s)) → IsRefusedAtMost (and_then ends next)
refused_then (Ok a, s) next is each = each a s
refused_then (Err (Over told), s) next is each = tt
refused_then (Err (Throw v), s) next is each = absurd is
refused_then (Err NoMemory, s) next is each = absurd is

refused_items : (s : Store) → IsRefusedAtMost (context_items s)
refused_items s =
    refused_then (item_made (item.Plain []) s) _ (refused_made (item.Plain []) s) (λ global s.
    refused_then (item_made (item.Scope None [] []) s) _ (refused_made (item.Scope None [] []) s) (λ names s.
    refused_then (item_made (item.Row (value.Item global)) s) _ (refused_made (item.Row (value.Item global)) s) (λ row s. tt)))

-- the reply tells a context, or the limit
abbrev pub Replies : Contents → Done → Type 0
Replies old done = IsContextReply (live old) done.out

reply_on : {A : Type 0} (old : Contents) (ends : Ends A) (go : A → Store → Option Done) → IsRefusedAtMost ends → ((a : A) (s : Store) → IfSome (go a s) (Replies old)) → IfSome (going_on old ends go) (Replies old)
reply_on old (Ok a, s) go is each = each a s
reply_on old (Err (Over told), s) go is each = inr tt
reply_on old (Err (Throw v), s) go is each = absurd is
reply_on old (Err NoMemory, s) go is each = absurd is

-- a context that is made is told with the numbers of those before it, or the limit was passed
pub made_reply : (old : Contents) → IfSome (context_made old) (Replies old)
unfolding context_made
made_reply old =
    reply_on old (context_items old.store) (λ made s. Some (lives (with_context old made s) (outcome.Context (length old.contexts) (length old.rows)) 0)) (refused_items old.store) (λ made s. inl refl)
