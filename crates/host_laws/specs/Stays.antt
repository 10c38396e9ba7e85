-- What each step of a host, and each step of an isolate, leaves beside the other.
-- This project's own; docs/HOST.md, "A host of your own".
use Rattle.std.specs.Prelude.{◌≡◌, ◌≢◌, ℕ, List, [], ◌∷◌, ◌++◌, true}
use Rattle.task_history.specs.Lists.{receives, is_asked}
use Rattle.task_history.specs.declared.task.Task.{Task}
use Rattle.task_history.specs.declared.outcome.Out.{Out}
use Rattle.task_history.specs.declared.record.Entry.{Entry}
use Rattle.task_history.specs.declared.record.Event.{Event}
use Rattle.isolate_meaning.specs.State.{Isolate}
use Rattle.isolate_meaning.specs.Does.{Does, HostStop}
use Rattle.isolate_meaning.specs.Known.{IsKnown}
use Rattle.host_meaning.specs.declared.moves.Move.{Move}
use Rattle.host_meaning.specs.declared.moves.Move.TheVariants.{Post, Ask, Own, Blocked, NoTarget}
use Rattle.host_meaning.specs.Stand.{Stand}
use Rattle.host_meaning.specs.Machine.{turn, received}
use Rattle.host_meaning.specs.Course.{Worker, idle}
use Rattle.host_laws.specs.Courses.{IsBeside}
use Rattle.host_laws.specs.Finished.{HasDone}

-- an isolate that has one more entry, whose outs are on their way
abbrev pub with_entry : Worker → Isolate → Entry → List Task → Worker
with_entry worker isolate entry later = record {
  isolate = isolate;
  journal = worker.journal ++ entry ∷ [];
  waiting = later;
  sent = worker.sent ++ entry.outs;
}

-- the move posts nothing to isolate i
abbrev pub PostsNothing : ℕ → Move → Type 0
PostsNothing i (Post j task) = i ≢ j
PostsNothing i (Ask j) = Unit {0}
PostsNothing i Own = Unit {0}
PostsNothing i Blocked = Unit {0}
PostsNothing i NoTarget = Unit {0}

-- isolate i, with this limit, stands beside the host before its first command
abbrev pub BeginsBeside : Type 0
BeginsBeside = (i limit : ℕ) → IsBeside i limit [] (idle i limit)

module _ (i limit : ℕ) (worker : Worker) where
  -- it does so after a command that posts nothing to it
  abbrev pub StaysAtTurns : Type 0
  StaysAtTurns = (stand : Stand) → PostsNothing i (turn stand).0
      → IsBeside i limit stand.history worker → IsBeside i limit (turn stand).1.history worker

  -- after a command that posts a task to it, which waits and names nothing but what was received from it
  abbrev pub StaysAtPosts : Type 0
  StaysAtPosts = (stand : Stand) (task : Task) → (turn stand).0 ≡ Post i task
      → IsKnown (receives i stand.history) task → IsBeside i limit stand.history worker
      → IsBeside i limit (turn stand).1.history (record worker { waiting = worker.waiting ++ task ∷ [] })

  -- after it has carried out the first task that waits
  abbrev pub StaysAtTasks : Type 0
  StaysAtTasks = (history : List Event) (task : Task) (later : List Task) (isolate : Isolate) (entry : Entry)
      → worker.waiting ≡ task ∷ later → Does task worker.isolate isolate entry
      → IsBeside i limit history worker → IsBeside i limit history (with_entry worker isolate entry later)

  -- after it has stopped, for which it was asked
  abbrev pub StaysAtStops : Type 0
  StaysAtStops = (history : List Event) (isolate : Isolate) (entry : Entry)
      → is_asked i history ≡ true → HostStop worker.isolate isolate entry
      → IsBeside i limit history worker → IsBeside i limit history (with_entry worker isolate entry worker.waiting)

  -- after the host has received the first out that is on its way from it
  abbrev pub StaysAtReceipts : Type 0
  StaysAtReceipts = (stand : Stand) (out : Out) (later : List Out) → worker.sent ≡ out ∷ later
      → IsBeside i limit stand.history worker
      → IsBeside i limit (received stand i out).history (record worker { sent = later })

  -- after the host has received an out of another
  abbrev pub StaysAtOthers : Type 0
  StaysAtOthers = (stand : Stand) (j : ℕ) (out : Out) → i ≢ j
      → IsBeside i limit stand.history worker → IsBeside i limit (received stand j out).history worker

  -- where nothing waits for it and nothing is on its way from it, it has done all that was posted
  abbrev pub HasDoneAtRest : Type 0
  HasDoneAtRest = (history : List Event) → worker.waiting ≡ [] → worker.sent ≡ []
      → IsBeside i limit history worker → HasDone i limit history worker.journal
