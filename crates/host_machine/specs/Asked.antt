-- What a call asks of which isolate, in parts. No caller needs this.
-- This project's own; docs/HOST.md, "What the host does".
use Rattle.std.specs.Prelude.{ℕ, ◌<◌, Bool, true, false, Option, None, Some}
use Rattle.std.specs.Option.{option_map}
use Rattle.task_history.specs.declared.task.Task.{Task}
use Rattle.host_meaning.specs.Stand.{Stand}
use Rattle.host_meaning.specs.Machine.{Request, task_of}
use Rattle.host_meaning.specs.Machine.Request.{asks_nothing, asks_task, asks_stop}

-- the isolate of which something is asked
abbrev pub isolate_asked : Request → Option ℕ
isolate_asked asks_nothing = None
isolate_asked (asks_task isolate budget kind) = isolate
isolate_asked (asks_stop isolate) = Some isolate

-- the isolate of a call is there, and is one of so many
abbrev pub AsksWithin : ℕ → Request → Type 0
AsksWithin isolates asks_nothing = Unit {0}
AsksWithin isolates (asks_task None budget kind) = ⊥
AsksWithin isolates (asks_task (Some i) budget kind) = i < isolates
AsksWithin isolates (asks_stop i) = i < isolates

-- the task that is asked for; none where its context or row isn't there
abbrev pub task_asked : Stand → Request → Option Task
task_asked stand asks_nothing = None
task_asked stand (asks_task isolate budget kind) = option_map (task_of stand budget) kind
task_asked stand (asks_stop isolate) = None

-- an isolate is asked to stop
abbrev pub is_stop : Request → Bool
is_stop asks_nothing = false
is_stop (asks_task isolate budget kind) = false
is_stop (asks_stop isolate) = true
