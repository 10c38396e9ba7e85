-- The isolate of a post or an ask is one of the script.
use Rattle.std.proofs.Common.{◌≡◌, ℕ, ◌<◌, length, Option, None, Some, refl, subst, sym, ap, ◌∙◌, slice_get}
use Rattle.std.specs.Option.{option_and_then}
use Rattle.task_history.specs.declared.task.Act.TheVariants as act
use Rattle.task_history.specs.declared.task.Task.{Task}
use Rattle.task_history.specs.declared.task.TaskKind.{TaskKind}
use Rattle.host_syntax.specs.declared.script.HostScript.{HostScript}
use Rattle.host_syntax.specs.declared.script.Command.{Command}
use Rattle.host_syntax.specs.declared.script.What.{What}
use Rattle.host_syntax.specs.declared.script.What.TheVariants as what
use Rattle.host_syntax.specs.Whole.{IsWhole, NamesEarlier, MakesContext, context_of}
use Rattle.host_meaning.specs.declared.moves.Move.{Move}
use Rattle.host_meaning.specs.declared.moves.Move.TheVariants.{Post, Ask, Own, Blocked, NoTarget}
use Rattle.host_meaning.specs.Stand.{Stand, place, held_at}
use Rattle.host_meaning.specs.Machine.{Request, asks_nothing, asks_task, asks_stop, act_on, argument_of, default_budget, eval_in, request, isolate_of, turn, passing, refusing, task_of, posting, asking}
use Rattle.host_laws.proofs.Turns.{IsAsked, turn_cases}

-- ---- what a move shows

pub turn_post : (stand : Stand) (i : ℕ) (task : Task) → (turn stand).0 ≡ Post i task → (turn stand).1 ≡ posting stand i task
turn_post stand i task = turn_cases stand (λ m. m.0 ≡ Post i task → m.1 ≡ posting stand i task)
    (λ e. cc) (λ e. cc) (λ e. cc) (λ e. cc)
    (λ j budget kind _ e.
    let same : j ≡ i = cc in
    let same_task : task_of stand budget kind ≡ task = cc in
    ap (λ x. posting stand x (task_of stand budget kind)) same ∙ ap (λ x. posting stand i x) same_task)
    (λ j _ e. cc)

pub turn_ask : (stand : Stand) (i : ℕ) → (turn stand).0 ≡ Ask i → (turn stand).1 ≡ asking stand i
turn_ask stand i = turn_cases stand (λ m. m.0 ≡ Ask i → m.1 ≡ asking stand i)
    (λ e. cc) (λ e. cc) (λ e. cc) (λ e. cc) (λ j budget kind _ e. cc)
    (λ j _ e. let same : j ≡ i = cc in ap (λ x. asking stand x) same)

-- the host's own move passes, or refuses a call
pub own_cases : (stand : Stand) (P : Stand → Type 0) → (turn stand).0 ≡ Own → P (passing stand) → P (refusing stand) → P (turn stand).1
own_cases stand P = turn_cases stand (λ m. m.0 ≡ Own → P (passing stand) → P (refusing stand) → P m.1)
    (λ e passed refused. let no : ⊥ = cc in absurd no)
    (λ e passed refused. let no : ⊥ = cc in absurd no)
    (λ e passed refused. passed)
    (λ e passed refused. refused)
    (λ j budget kind _ e passed refused. let no : ⊥ = cc in absurd no)
    (λ j _ e passed refused. let no : ⊥ = cc in absurd no)

pub turn_blocked : (stand : Stand) → (turn stand).0 ≡ Blocked → (turn stand).1 ≡ stand
turn_blocked stand = turn_cases stand (λ m. m.0 ≡ Blocked → m.1 ≡ stand)
    (λ e. refl) (λ e. refl) (λ e. cc) (λ e. cc) (λ j budget kind _ e. cc) (λ j _ e. cc)

-- ---- whom a request is to

abbrev pub IsTo : ℕ → Request → Type 0
IsTo n asks_nothing = Unit {0}
IsTo n (asks_task None budget kind) = ⊥
IsTo n (asks_task (Some i) budget kind) = i < n
IsTo n (asks_stop i) = i < n

context_within : (script : HostScript) (k isolate : ℕ) (wanted : What) → context_of wanted ≡ Some isolate → NamesEarlier script k wanted → isolate < length script.isolates
context_within script k isolate what.Declare is names = let no : ⊥ = cc in absurd no
context_within script k isolate (what.Context i) is names = let same : i ≡ isolate = cc in subst (λ x. x < length script.isolates) same names
context_within script k isolate (what.Eval context budget want text) is names = let no : ⊥ = cc in absurd no
context_within script k isolate (what.Get target key want) is names = let no : ⊥ = cc in absurd no
context_within script k isolate (what.Set target key value) is names = let no : ⊥ = cc in absurd no
context_within script k isolate (what.Dispose i) is names = let no : ⊥ = cc in absurd no
context_within script k isolate (what.Wait target) is names = let no : ⊥ = cc in absurd no

-- an earlier command that makes a context does so in this isolate
pub made_in : (script : HostScript) (k n : ℕ) (makes : MakesContext script.commands k n) → isolate_of script n ≡ Some makes.1
made_in script k n makes = ap (option_and_then (λ (command : Command). context_of command.what)) makes.3 ∙ makes.4

-- a task for such an isolate is for one of the script
made_within : (script : HostScript) (k n budget : ℕ) (kind : Option TaskKind) → IsWhole script → MakesContext script.commands k n
    → IsTo (length script.isolates) (asks_task (isolate_of script n) budget kind)
made_within script k n budget kind whole makes =
    subst (λ isolate. IsTo (length script.isolates) (asks_task isolate budget kind)) (sym (made_in script k n makes))
    (context_within script n makes.1 makes.0.what makes.4 (whole.in_place n makes.0 makes.3).names)

pub request_within : (stand : Stand) (k : ℕ) (wanted : What) → IsWhole stand.script → NamesEarlier stand.script k wanted → IsTo (length stand.script.isolates) (request stand wanted)
request_within stand k what.Declare whole names = tt
request_within stand k (what.Context i) whole names = names
request_within stand k (what.Eval context budget want text) whole names = made_within stand.script k context budget (eval_in (held_at stand context) text want) whole names.0
request_within stand k (what.Get target key want) whole names = made_within stand.script k target default_budget (act_on (held_at stand target) (act.Get key want)) whole names.0
request_within stand k (what.Set target key value) whole names = made_within stand.script k target default_budget (act_on (held_at stand target) (act.Set key (argument_of value))) whole names.0
request_within stand k (what.Dispose i) whole names = names
request_within stand k (what.Wait target) whole names = tt

asked_within : (stand : Stand) (wanted : Request) → IsWhole stand.script → IsAsked stand wanted → IsTo (length stand.script.isolates) wanted
asked_within stand wanted whole asked =
    subst (λ x. IsTo (length stand.script.isolates) x) asked.is (request_within stand (place stand) asked.command.what whole (whole.in_place (place stand) asked.command asked.at).names)

-- ---- whom a move is to

abbrev pub MovesTo : ℕ → Move → Type 0
MovesTo n (Post i task) = i < n
MovesTo n (Ask i) = i < n
MovesTo n Own = Unit {0}
MovesTo n Blocked = Unit {0}
MovesTo n NoTarget = Unit {0}

pub turn_within : (stand : Stand) → IsWhole stand.script → MovesTo (length stand.script.isolates) (turn stand).0
turn_within stand whole = turn_cases stand (λ m. MovesTo (length stand.script.isolates) m.0) tt tt tt tt
    (λ i budget kind may. asked_within stand (asks_task (Some i) budget (Some kind)) whole may.asked)
    (λ i may. asked_within stand (asks_stop i) whole may.asked)

pub post_within : (script : HostScript) (stand : Stand) (i : ℕ) (task : Task) → IsWhole script → stand.script ≡ script → (turn stand).0 ≡ Post i task → i < length script.isolates
post_within script stand i task whole is posts =
    subst (λ s. i < length s.isolates) is (subst (λ m. MovesTo (length stand.script.isolates) m) posts (turn_within stand (subst IsWhole (sym is) whole)))

pub ask_within : (script : HostScript) (stand : Stand) (i : ℕ) → IsWhole script → stand.script ≡ script → (turn stand).0 ≡ Ask i → i < length script.isolates
ask_within script stand i whole is asks =
    subst (λ s. i < length s.isolates) is (subst (λ m. MovesTo (length stand.script.isolates) m) asks (turn_within stand (subst IsWhole (sym is) whole)))
