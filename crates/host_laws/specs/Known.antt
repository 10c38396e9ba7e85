-- Posted tasks name nothing but what their isolates have told.
-- This project's own; docs/MAP.md, "The host and its isolates".
use Rattle.std.specs.Prelude.{◌≡◌, ℕ, ◌<◌, List, ◌++◌, length}
use Rattle.task_history.specs.Lists.{tasks, outs, posts, receives}
use Rattle.task_history.specs.declared.task.Task.{Task}
use Rattle.task_history.specs.declared.outcome.Out.{Out}
use Rattle.task_history.specs.declared.record.Entry.{Entry}
use Rattle.task_history.specs.declared.record.Event.{Event}
use Rattle.isolate_meaning.specs.Replay.{Replays}
use Rattle.isolate_meaning.specs.Known.{IsKnown}
use Rattle.host_syntax.specs.declared.script.HostScript.{HostScript}
use Rattle.host_meaning.specs.declared.moves.Move.TheVariants.{Post}
use Rattle.host_meaning.specs.Stand.{Stand}
use Rattle.host_meaning.specs.Machine.{turn}

-- isolate i has carried out the first of the tasks that were posted to it, and the first of the outs that it sent were received
pub record IsServed (i : ℕ) (history : List Event) : Type 0 where
  pub limit : ℕ
  pub journal : List Entry
  pub replays : Replays i limit journal
  pub waiting : List Task
  pub posted : posts i history ≡ tasks journal ++ waiting
  pub sent : List Out
  pub heard : outs journal ≡ receives i history ++ sent

-- so it is with every isolate of the script
abbrev pub AreServed : HostScript → List Event → Type 0
AreServed script history = (i : ℕ) → i < length script.isolates → IsServed i history

-- a task that the next command posts is sound, and names nothing but what was received from its isolate
abbrev pub PostsKnown : Stand → Type 0
PostsKnown stand = (i : ℕ) (task : Task) → (turn stand).0 ≡ Post i task → IsKnown (receives i stand.history) task
