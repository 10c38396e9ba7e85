-- Each call has its target: its isolate, and the context or the row that it names.
-- This project's own; docs/HOST.md, "What the host does".
use Rattle.std.specs.Prelude.{◌≡◌, ◌≢◌, ℕ, ◌<◌, List, length, false, nat_le, Option, None, Some, slice_get}
use Rattle.task_history.specs.Lists.{is_gone}
use Rattle.task_history.specs.declared.record.Event.{Event}
use Rattle.task_history.specs.declared.task.TaskKind.{TaskKind}
use Rattle.host_syntax.specs.declared.script.HostScript.{HostScript}
use Rattle.host_syntax.specs.declared.script.Command.{Command}
use Rattle.host_meaning.specs.declared.moves.Move.TheVariants.{NoTarget}
use Rattle.host_meaning.specs.Stand.{Stand, drawn, place}
use Rattle.host_meaning.specs.Machine.{HostRun, Request, asks_nothing, asks_task, asks_stop, is_blocked, most_calls, request, turn}
use Rattle.host_meaning.specs.Course.{Scene, Course}
use Rattle.host_laws.specs.Known.{AreServed}

-- ---- isolates

-- the isolate of a call is there, and is one of so many
abbrev pub HasIsolate : ℕ → Request → Type 0
HasIsolate isolates asks_nothing = Unit {0}
HasIsolate isolates (asks_task None budget kind) = ⊥
HasIsolate isolates (asks_task (Some i) budget kind) = i < isolates
HasIsolate isolates (asks_stop i) = i < isolates

-- so it is with each command of a script, wherever the host stands in it
abbrev pub CallsHaveIsolates : HostScript → Type 0
CallsHaveIsolates script =
    (stand : Stand) (k : ℕ) (command : Command) → stand.script ≡ script → slice_get script.commands k ≡ Some command
    → HasIsolate (length script.isolates) (request stand command.what)

-- ---- contexts and rows

-- the context or the row that the task names is there
abbrev pub IsThere : Option TaskKind → Type 0
IsThere None = ⊥
IsThere (Some kind) = Unit {0}

-- what the task of a call names is there, unless its isolate was asked to stop or has told its end
abbrev pub HasTarget : List Event → Request → Type 0
HasTarget history asks_nothing = Unit {0}
HasTarget history (asks_task None budget kind) = ⊥
HasTarget history (asks_task (Some i) budget kind) = is_gone i history ≡ false → IsThere kind
HasTarget history (asks_stop i) = Unit {0}

-- beside isolates that do what was posted to them, so it is with the next command, where it doesn't wait and a number is left
abbrev pub CallsHaveTargets : HostScript → Type 0
CallsHaveTargets script =
    (stand : Stand) (command : Command) → HostRun script stand → AreServed script stand.history
    → slice_get script.commands (place stand) ≡ Some command → is_blocked stand command.what ≡ false
    → nat_le most_calls (drawn stand) ≡ false → HasTarget stand.history (request stand command.what)

-- ---- moves

-- beside such isolates the host's move has its target
abbrev pub MovesHaveTargets : HostScript → Type 0
MovesHaveTargets script =
    (stand : Stand) → HostRun script stand → AreServed script stand.history → (turn stand).0 ≢ NoTarget

-- in a course the host's next move has its target
abbrev pub CoursesHaveTargets : HostScript → Type 0
CoursesHaveTargets script = (scene : Scene) → Course script scene → (turn scene.stand).0 ≢ NoTarget
