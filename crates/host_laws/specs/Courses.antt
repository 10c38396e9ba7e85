-- What holds of the host beside its isolates, whatever the order of posting, carrying out and receiving.
-- This project's own; docs/MAP.md, "The host and its isolates".
use Rattle.std.specs.Prelude.{◌≡◌, ℕ, List, [], ◌∷◌, ◌++◌, true, Some, slice_get}
use Rattle.std.specs.List.{Contains}
use Rattle.task_history.specs.Lists.{tasks, outs, posts, receives, is_asked}
use Rattle.task_history.specs.declared.task.Task.{Task}
use Rattle.task_history.specs.declared.outcome.By.TheVariants.{Host}
use Rattle.task_history.specs.declared.record.Event.{Event}
use Rattle.isolate_meaning.specs.State.{ended, fresh}
use Rattle.isolate_meaning.specs.Fits.{Fits}
use Rattle.isolate_meaning.specs.Known.{IsKnown}
use Rattle.isolate_meaning.specs.Replay.{Replay}
use Rattle.host_syntax.specs.declared.script.HostScript.{HostScript}
use Rattle.host_meaning.specs.Course.{Worker, Scene}
use Rattle.host_meaning.specs.Lawful.{LimitIs, AreCaused}

-- ---- one isolate

-- isolate i, with this limit, beside the host's history
pub record IsBeside (i limit : ℕ) (history : List Event) (worker : Worker) : Type 0 where
  -- its journal, carried out again, gives it
  pub replays : Replay (fresh i limit) worker.journal worker.isolate
  -- what was posted to it was carried out or waits, in order
  pub posted : posts i history ≡ tasks worker.journal ++ worker.waiting
  -- what it sent was received or is on its way, in order
  pub told : outs worker.journal ≡ receives i history ++ worker.sent
  -- it ends by the host only where it was asked to stop
  pub stop : worker.isolate.state ≡ ended Host → is_asked i history ≡ true
  -- nothing was received before its cause
  pub caused : AreCaused i worker.journal [] history
  -- the tasks that wait name nothing but what was received from it
  pub known : (task : Task) → Contains worker.waiting task → IsKnown (receives i history) task

-- ---- all of them

-- so it is with each isolate of the script
abbrev pub AreBeside : HostScript → Scene → Type 0
AreBeside script scene = (i limit : ℕ) (worker : Worker) → slice_get scene.workers i ≡ Some worker → LimitIs script i limit → IsBeside i limit scene.stand.history worker

-- the task that an isolate is to carry out next fits it
abbrev pub NextTasksFit : Scene → Type 0
NextTasksFit scene = (i : ℕ) (worker : Worker) (task : Task) (later : List Task) → slice_get scene.workers i ≡ Some worker → worker.waiting ≡ task ∷ later → Fits worker.isolate.state task
