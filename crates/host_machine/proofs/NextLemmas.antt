-- What the next command comes to.
use Rattle.std.proofs.Common.{◌≡◌, ℕ, ◌<◌, List, length, Bool, true, false, Option, Some, None, refl, sym, subst, ap, ◌∙◌, arith, slice_get, if◌then◌else◌, nat_le}
use Rattle.std.proofs.lemmas.Option.{same_Some}
use Rattle.std.specs.Option.{option_and_then, option_map}
use Rattle.task_history.specs.declared.task.Act.TheVariants as act
use Rattle.task_history.specs.declared.task.Task.{Task}
use Rattle.task_history.specs.declared.task.TaskKind.{TaskKind}
use Rattle.task_history.specs.declared.record.Event.{Event}
use Rattle.task_history.specs.Lists.{is_gone}
use Rattle.host_syntax.specs.declared.script.HostScript.{HostScript}
use Rattle.host_syntax.specs.declared.script.Command.{Command}
use Rattle.host_syntax.specs.declared.script.What.{What}
use Rattle.host_syntax.specs.declared.script.What.TheVariants.{Declare, Context, Eval, Get, Set, Dispose, Wait}
use Rattle.host_syntax.specs.Whole.{IsWhole, NamesEarlier, MakesContext, context_of}
use Rattle.host_meaning.specs.declared.moves.Held.{Held}
use Rattle.host_meaning.specs.declared.moves.Move.{Move}
use Rattle.host_meaning.specs.declared.moves.Move.TheVariants as move
use Rattle.host_meaning.specs.Stand.{Stand, drawn, held_at}
use Rattle.host_meaning.specs.Machine.{Request, act_on, argument_of, asking, calling, default_budget, doing, eval_in, is_blocked, isolate_of, most_calls, passing, posting, refusing, request, task_of, tasking}
use Rattle.host_meaning.specs.Machine.Request.{asks_nothing, asks_task, asks_stop}
use Rattle.host_machine.specs.Asked.{AsksWithin, is_stop, isolate_asked, task_asked}
use Rattle.host_machine.specs.Next.{by_what}

if_true : {A : Type 0} (b : Bool) (x y : A) → b ≡ true → (if b then x else y) ≡ x
if_true b x y e = ap (λ c. if c then x else y) e

if_false : {A : Type 0} (b : Bool) (x y : A) → b ≡ false → (if b then x else y) ≡ y
if_false b x y e = ap (λ c. if c then x else y) e

-- ---- the outcome

calling_gone : (stand : Stand) (r : Request) (i : ℕ) → Some i ≡ isolate_asked r → is_gone i stand.history ≡ true → calling stand r ≡ (move.Own, refusing stand)
calling_gone stand asks_nothing i at gone = cc
calling_gone stand (asks_task None budget kind) i at gone = cc
calling_gone stand (asks_task (Some j) budget kind) i at gone = if_true (is_gone j stand.history) _ _ (ap (λ k. is_gone k stand.history) (same_Some j i (sym at)) ∙ gone)
calling_gone stand (asks_stop j) i at gone = if_true (is_gone j stand.history) _ _ (ap (λ k. is_gone k stand.history) (same_Some j i (sym at)) ∙ gone)

calling_here : (stand : Stand) (r : Request) (i : ℕ) → Some i ≡ isolate_asked r → is_gone i stand.history ≡ false → is_stop r ≡ false
    → (budget : ℕ) × (kind : Option TaskKind) × (r ≡ asks_task (Some i) budget kind) × (calling stand r ≡ tasking stand i budget kind)
calling_here stand asks_nothing i at here stays = cc
calling_here stand (asks_task None budget kind) i at here stays = cc
calling_here stand (asks_task (Some j) budget kind) i at here stays =
    let same : j ≡ i = same_Some j i (sym at) in (
      budget,
      kind,
      ap (λ k. asks_task (Some k) budget kind) same,
      if_false (is_gone j stand.history) _ _ (ap (λ k. is_gone k stand.history) same ∙ here) ∙ ap (λ k. tasking stand k budget kind) same,
    )
calling_here stand (asks_stop j) i at here stays = cc

tasking_some : (stand : Stand) (i budget : ℕ) (kind : Option TaskKind) (task : Task) → Some task ≡ option_map (task_of stand budget) kind
    → tasking stand i budget kind ≡ (move.Post i task, posting stand i task)
tasking_some stand i budget None task is = cc
tasking_some stand i budget (Some kind) task is = ap (λ t. (move.Post i t, posting stand i t)) (same_Some (task_of stand budget kind) task (sym is))

calling_task : (stand : Stand) (r : Request) (i : ℕ) (task : Task) → Some i ≡ isolate_asked r → is_gone i stand.history ≡ false → is_stop r ≡ false → Some task ≡ task_asked stand r
    → calling stand r ≡ (move.Post i task, posting stand i task)
calling_task stand asks_nothing i task at here stays is = cc
calling_task stand (asks_task None budget kind) i task at here stays is = cc
calling_task stand (asks_task (Some j) budget kind) i task at here stays is =
    let same : j ≡ i = same_Some j i (sym at) in
    if_false (is_gone j stand.history) _ _ (ap (λ k. is_gone k stand.history) same ∙ here) ∙ ap (λ k. tasking stand k budget kind) same ∙ tasking_some stand i budget kind task is
calling_task stand (asks_stop j) i task at here stays is = cc

-- the command doesn't wait, and numbers are left
reaches : (stand : Stand) (what : What) (len : ℕ) → false ≡ is_blocked stand what → len ≡ drawn stand → len < 100000 → by_what stand what ≡ calling stand (request stand what)
reaches stand what len free is few =
    if_false (is_blocked stand what) _ _ (sym free) ∙ if_false (nat_le most_calls (drawn stand)) _ _ (let less : drawn stand < 100000 = omega arith in grind arith)

pub next_refused : (stand : Stand) (what : What) (i len : ℕ) (calls : List (Option Held)) (history : List Event) → false ≡ is_blocked stand what → Some i ≡ isolate_asked (request stand what)
    → calls ≡ stand.calls → len ≡ length calls → len < 100000 → history ≡ stand.history → true ≡ is_gone i history
    → (move.Own, refusing stand) ≡ by_what stand what
next_refused stand what i len calls history free at same is few so gone =
    sym (reaches stand what len free (is ∙ ap length same) few ∙ calling_gone stand (request stand what) i at (ap (is_gone i) (sym so) ∙ sym gone))

pub next_posted : (stand : Stand) (what : What) (i len : ℕ) (task : Task) (asked : Option Task) (calls : List (Option Held)) (history : List Event) → false ≡ is_blocked stand what
    → Some i ≡ isolate_asked (request stand what) → calls ≡ stand.calls → len ≡ length calls → len < 100000 → history ≡ stand.history → false ≡ is_gone i history
    → false ≡ is_stop (request stand what) → asked ≡ task_asked stand (request stand what) → Some task ≡ asked
    → (move.Post i task, posting stand i task) ≡ by_what stand what
next_posted stand what i len task asked calls history free at same is few so gone stays was some =
    sym (reaches stand what len free (is ∙ ap length same) few ∙ calling_task stand (request stand what) i task at (ap (is_gone i) (sym so) ∙ sym gone) (sym stays) (some ∙ was))

-- ---- the isolate

named_within : (script : HostScript) (k : ℕ) (what : What) (i : ℕ) → context_of what ≡ Some i → NamesEarlier script k what → i < length script.isolates
named_within script k Declare i is names = cc
named_within script k (Context j) i is names = subst (λ n. n < length script.isolates) (same_Some j i is) names
named_within script k (Eval context budget want text) i is names = cc
named_within script k (Get target key want) i is names = cc
named_within script k (Set target key value) i is names = cc
named_within script k (Dispose j) i is names = cc
named_within script k (Wait target) i is names = cc

context_within : (script : HostScript) → IsWhole script → (k n : ℕ) → MakesContext script.commands k n → (budget : ℕ) (kind : Option TaskKind)
    → AsksWithin (length script.isolates) (asks_task (isolate_of script n) budget kind)
context_within script whole k n makes budget kind =
    let named : makes.1 < length script.isolates = named_within script n makes.0.what makes.1 makes.4 (whole.in_place n makes.0 makes.3).names in
    let same : isolate_of script n ≡ Some makes.1 = ap (option_and_then (λ (command : Command). context_of command.what)) makes.3 ∙ makes.4 in
    subst (λ isolate. AsksWithin (length script.isolates) (asks_task isolate budget kind)) (sym same) named

asked_within : (stand : Stand) → IsWhole stand.script → (k : ℕ) (what : What) → NamesEarlier stand.script k what → AsksWithin (length stand.script.isolates) (request stand what)
asked_within stand whole k Declare names = tt
asked_within stand whole k (Context isolate) names = names
asked_within stand whole k (Eval context budget want text) names = context_within stand.script whole k context names.0 budget (eval_in (held_at stand context) text want)
asked_within stand whole k (Get target key want) names = context_within stand.script whole k target names.0 default_budget (act_on (held_at stand target) (act.Get key want))
asked_within stand whole k (Set target key value) names = context_within stand.script whole k target names.0 default_budget (act_on (held_at stand target) (act.Set key (argument_of value)))
asked_within stand whole k (Dispose isolate) names = names
asked_within stand whole k (Wait target) names = tt

pub next_within : (stand : Stand) (script : HostScript) (k : ℕ) (command : Command) → script ≡ stand.script → IsWhole script → Some command ≡ slice_get script.commands k
    → AsksWithin (length stand.script.isolates) (request stand command.what)
next_within stand script k command same whole at =
    let whole_there : IsWhole stand.script = subst IsWhole same whole in
    let there : slice_get stand.script.commands k ≡ Some command = ap (λ (s : HostScript). slice_get s.commands k) (sym same) ∙ sym at in
    asked_within stand whole_there k command.what (whole_there.in_place k command there).names
