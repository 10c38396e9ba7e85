-- The host machine: one command of the script after another, and between them any out of any isolate.
-- This project's own; docs/HOST.md, "What the host does".
use Rattle.std.specs.Prelude.{◌≡◌, ℕ, suc, zero, ◌<◌, List, [], ◌∷◌, ◌++◌, length, Bool, true, false, not, ◌&&◌, ◌==◌, ◌||◌, nat_le, if◌then◌else◌, Option, None, Some, slice_get, slice_set}
use Rattle.std.specs.Option.{option_and_then, option_map, option_map_or}
use Rattle.ivm_text.specs.declared.copies.Passed.{Passed}
use Rattle.ivm_text.specs.declared.copies.Passed.TheVariants.{Copy as PassedCopy}
use Rattle.ivm_text.specs.declared.copies.Want.{Want}
use Rattle.task_history.specs.Lists.{is_gone, posts, receives, replies, is_asked, has_ended}
use Rattle.task_history.specs.declared.task.Act.{Act}
use Rattle.task_history.specs.declared.task.Act.TheVariants as act
use Rattle.task_history.specs.declared.task.Own.TheVariants.{Disposed}
use Rattle.task_history.specs.declared.task.Task.{Task}
use Rattle.task_history.specs.declared.task.TaskKind.{TaskKind}
use Rattle.task_history.specs.declared.task.TaskKind.TheVariants as kind
use Rattle.task_history.specs.declared.outcome.Outcome.{Outcome}
use Rattle.task_history.specs.declared.outcome.Outcome.TheVariants as outcome
use Rattle.task_history.specs.declared.outcome.Out.{Out}
use Rattle.task_history.specs.declared.outcome.Out.TheVariants.{Call, Log, AskTable, Reply}
use Rattle.task_history.specs.declared.record.Settlement.TheVariants.{Entry, Own}
use Rattle.task_history.specs.declared.record.Event.{Event}
use Rattle.task_history.specs.declared.record.Event.TheVariants.{Post, Recv, Ask, Settle}
use Rattle.host_syntax.specs.declared.script.HostScript.{HostScript}
use Rattle.host_syntax.specs.declared.script.Command.{Command}
use Rattle.host_syntax.specs.declared.script.HostArgument.{HostArgument}
use Rattle.host_syntax.specs.declared.script.HostArgument.TheVariants.{Literal}
use Rattle.host_syntax.specs.declared.script.What.{What}
use Rattle.host_syntax.specs.declared.script.What.TheVariants as what
use Rattle.host_syntax.specs.Whole.{context_of}
use Rattle.host_meaning.specs.declared.moves.Held.{Held}
use Rattle.host_meaning.specs.declared.moves.Held.TheVariants as held
use Rattle.host_meaning.specs.declared.moves.Move.{Move}
use Rattle.host_meaning.specs.declared.moves.Move.TheVariants as move
use Rattle.host_meaning.specs.Stand.{Stand, beginning, drawn, place, is_there, all_settled, is_label_settled, held_at}

-- ---- what a command waits for

-- the label that a command names isn't settled, or a `wait` has a call that isn't
abbrev pub is_blocked : Stand → What → Bool
is_blocked stand what.Declare = false
is_blocked stand (what.Context isolate) = false
is_blocked stand (what.Eval context budget want text) = not (is_label_settled stand context)
is_blocked stand (what.Get target key want) = not (is_label_settled stand target)
is_blocked stand (what.Set target key value) = not (is_label_settled stand target)
is_blocked stand (what.Dispose isolate) = false
is_blocked stand (what.Wait None) = not (all_settled stand)
is_blocked stand (what.Wait (Some target)) = not (is_label_settled stand target)

-- ---- the target of a call

-- the isolate in which command k makes a context; none where there is no such command, or it makes none
abbrev pub isolate_of : HostScript → ℕ → Option ℕ
isolate_of script k = option_and_then (λ (command : Command). context_of command.what) (slice_get script.commands k)

-- the context that a settlement holds, if it holds one
abbrev pub context_in : Option Held → Option ℕ
context_in None = None
context_in (Some held.Nothing) = None
context_in (Some (held.Context context row)) = Some context

-- the row of the global object of the context that a settlement holds, if it holds one
abbrev pub row_in : Option Held → Option ℕ
row_in None = None
row_in (Some held.Nothing) = None
row_in (Some (held.Context context row)) = Some row

abbrev pub argument_of : HostArgument → Passed
argument_of (Literal copy) = PassedCopy copy

-- what a call command asks of which isolate
pub data Request : Type 0 where
  -- it is no call
  asks_nothing : Request
  -- to carry out a task of this kind, within so many ticks; no isolate or no kind where what it names isn't there
  asks_task : Option ℕ → ℕ → Option TaskKind → Request
  -- to stop
  asks_stop : ℕ → Request

-- the ticks that a task may take where the script says nothing
abbrev pub default_budget : ℕ
default_budget = 1000000

-- the text is to be run in the context that a settlement holds
abbrev pub eval_in : Option Held → List ℕ → Want → Option TaskKind
eval_in settled text want = option_map (λ context. kind.Eval context text want) (context_in settled)

-- this is to be done with the row that a settlement holds
abbrev pub act_on : Option Held → Act → Option TaskKind
act_on settled wanted = option_map (λ row. kind.Act row wanted) (row_in settled)

abbrev pub request : Stand → What → Request
request stand what.Declare = asks_nothing
request stand (what.Context isolate) = asks_task (Some isolate) default_budget (Some kind.Context)
request stand (what.Eval context budget want text) =
    asks_task (isolate_of stand.script context) budget (eval_in (held_at stand context) text want)
request stand (what.Get target key want) =
    asks_task (isolate_of stand.script target) default_budget (act_on (held_at stand target) (act.Get key want))
request stand (what.Set target key value) =
    asks_task (isolate_of stand.script target) default_budget (act_on (held_at stand target) (act.Set key (argument_of value)))
request stand (what.Dispose isolate) = asks_stop isolate
request stand (what.Wait target) = asks_nothing

-- ---- one command done

-- no number is drawn, and nothing is told
abbrev pub passing : Stand → Stand
passing stand = record stand { numbers = stand.numbers ++ None ∷ [] }

-- the next number is drawn, with what its settlement holds if the host settles it at once, and one event
abbrev pub drawing : Stand → Option Held → List ℕ → Event → Stand
drawing stand settled stops event = record stand {
  numbers = stand.numbers ++ Some (drawn stand) ∷ [];
  calls = stand.calls ++ settled ∷ [];
  stops = stand.stops ++ stops;
  history = stand.history ++ event ∷ [];
}

-- the host refuses the call
abbrev pub refusing : Stand → Stand
refusing stand = drawing stand (Some held.Nothing) [] (Settle (drawn stand) (Own Disposed))

-- the task of a call that draws the next number
abbrev pub task_of : Stand → ℕ → TaskKind → Task
task_of stand budget kind = record { call = Some (drawn stand); budget = budget; kind = kind }

-- the task is posted
abbrev pub posting : Stand → ℕ → Task → Stand
posting stand isolate task = drawing stand None [] (Post isolate task)

-- the isolate is asked to stop, which settles the call
abbrev pub asking : Stand → ℕ → Stand
asking stand isolate = drawing stand (Some held.Nothing) (drawn stand ∷ []) (Ask isolate)

-- the numbers that a run may draw
abbrev pub most_calls : ℕ
most_calls = 100000

-- the task of a call is posted; where the context or the row that it names isn't there, nothing is done
abbrev pub tasking : Stand → ℕ → ℕ → Option TaskKind → Move × Stand
tasking stand isolate budget None = (move.NoTarget, stand)
tasking stand isolate budget (Some kind) =
    (move.Post isolate (task_of stand budget kind), posting stand isolate (task_of stand budget kind))

-- a call: refused where its isolate was asked to stop or has told its end; where its isolate isn't there, nothing is done
abbrev pub calling : Stand → Request → Move × Stand
calling stand asks_nothing = (move.Own, passing stand)
calling stand (asks_task None budget kind) = (move.NoTarget, stand)
calling stand (asks_task (Some isolate) budget kind) =
    if is_gone isolate stand.history then (move.Own, refusing stand) else tasking stand isolate budget kind
calling stand (asks_stop isolate) =
    if is_gone isolate stand.history then (move.Own, refusing stand) else (move.Ask isolate, asking stand isolate)

-- after 100,000 numbers a call draws none
abbrev pub doing : Stand → Request → Move × Stand
doing stand request = if nat_le most_calls (drawn stand) then (move.Own, passing stand) else calling stand request

abbrev pub by_command : Stand → Option Command → Move × Stand
by_command stand None = (move.Blocked, stand)
by_command stand (Some command) =
    if is_blocked stand command.what then (move.Blocked, stand) else doing stand (request stand command.what)

-- the next command
abbrev pub turn : Stand → Move × Stand
turn stand = by_command stand (slice_get stand.script.commands (place stand))

-- ---- one out received

-- what a settlement by this outcome holds
abbrev pub held_by : Outcome → Held
held_by (outcome.Context context row) = held.Context context row
held_by (outcome.Script script) = held.Nothing
held_by (outcome.Passed value) = held.Nothing
held_by outcome.Done = held.Nothing
held_by (outcome.Throw copy) = held.Nothing
held_by (outcome.Syntax refusal) = held.Nothing
held_by (outcome.Timeout ticks) = held.Nothing
held_by (outcome.MemoryLimit told) = held.Nothing
held_by (outcome.Disposed by) = held.Nothing
held_by outcome.WrongIsolate = held.Nothing
held_by outcome.NotTransferable = held.Nothing
held_by (outcome.NotCopyable kind) = held.Nothing

-- number n was drawn and isn't settled
abbrev pub is_open : Stand → ℕ → Bool
is_open stand n = option_map_or (λ settled. not (is_there settled)) (slice_get stand.calls n) false

-- the replies that were received from isolate i
abbrev pub replies_of : ℕ → List Event → ℕ
replies_of i history = length (replies (receives i history))

-- the receipt alone
abbrev pub hearing : Stand → ℕ → Out → Stand
hearing stand i out = record stand { history = stand.history ++ Recv i out ∷ [] }

-- the receipt, and the settlement of call n by the entry whose reply it is
abbrev pub settling : Stand → ℕ → Out → ℕ → Outcome → Stand
settling stand i out n outcome = record stand {
  calls = slice_set stand.calls n (Some (held_by outcome));
  history = stand.history ++ Recv i out ∷ Settle n (Entry i (replies_of i stand.history)) ∷ [];
}

-- a reply settles its call where that was drawn and isn't settled; the other outs aren't built yet
abbrev pub received : Stand → ℕ → Out → Stand
received stand i (Call promise to budget act) = hearing stand i (Call promise to budget act)
received stand i (Log callback args) = hearing stand i (Log callback args)
received stand i (AskTable callback promise key) = hearing stand i (AskTable callback promise key)
received stand i (Reply None outcome) = hearing stand i (Reply None outcome)
received stand i (Reply (Some n) outcome) =
    if is_open stand n then settling stand i (Reply (Some n) outcome) n outcome else hearing stand i (Reply (Some n) outcome)

abbrev pub received_all : Stand → ℕ → List Out → Stand
received_all stand i [] = stand
received_all stand i (out ∷ outs) = received_all (received stand i out) i outs

-- ---- runs

-- a reply; no isolate sends another out yet
abbrev pub IsReply : Out → Type 0
IsReply (Call promise to budget act) = ⊥
IsReply (Log callback args) = ⊥
IsReply (AskTable callback promise key) = ⊥
IsReply (Reply call outcome) = Unit {0}

-- the out may be received: it comes from an isolate of the script
abbrev pub MayReceive : HostScript → ℕ → Out → Type 0
MayReceive script i out = (i < length script.isolates) × IsReply out

-- a lawful move: it does a command
abbrev pub DoesCommand : Move → Type 0
DoesCommand (move.Post isolate task) = Unit {0}
DoesCommand (move.Ask isolate) = Unit {0}
DoesCommand move.Own = Unit {0}
DoesCommand move.Blocked = ⊥
DoesCommand move.NoTarget = ⊥

-- one step: the next command, or any out of any isolate
pub data HostStep (stand next : Stand) : Type 0 where
  turns : DoesCommand (turn stand).0 → next ≡ (turn stand).1 → HostStep stand next
  receives_one : (i : ℕ) (out : Out) → MayReceive stand.script i out → next ≡ received stand i out → HostStep stand next

-- what steps lead to
pub data HostRun (script : HostScript) : Stand → Type 0 where
  begins : HostRun script (beginning script)
  goes : {stand next : Stand} → HostRun script stand → HostStep stand next → HostRun script next

-- no command is left
abbrev pub NoneLeft : Stand → Type 0
NoneLeft stand = length stand.script.commands ≡ place stand

-- ---- finished

-- as many replies came from isolate i as tasks were posted to it, and one tells its end where it was asked to stop
abbrev pub has_answered : List Event → ℕ → Bool
has_answered history i = nat_le (length (posts i history)) (replies_of i history) && (not (is_asked i history) || has_ended i history)

-- these isolates, and all before them, have answered
abbrev pub have_answered : List Event → ℕ → Bool
have_answered history zero = true
have_answered history (suc i) = have_answered history i && has_answered history i

-- nothing is left to be done or to be told: no command, no open call, no task without its reply, no stop without its end
abbrev pub is_finished : Stand → Bool
is_finished stand = place stand == length stand.script.commands && all_settled stand && have_answered stand.history (length stand.script.isolates)
