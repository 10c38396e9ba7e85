-- The run on one thread: each task is carried out as soon as it is posted, and all that it sends is received before the next command.
-- This project's own; docs/MAP.md, "The host and its isolates".
use Rattle.std.specs.Prelude.{◌≡◌, ℕ, [], ◌∷◌, ◌++◌, true, Some, slice_get, slice_set}
use Rattle.task_history.specs.declared.task.Task.{Task}
use Rattle.task_history.specs.declared.record.Entry.{Entry}
use Rattle.isolate_meaning.specs.State.{Isolate, is_ended}
use Rattle.isolate_meaning.specs.Does.{Does, HostStop}
use Rattle.host_syntax.specs.declared.script.HostScript.{HostScript}
use Rattle.host_meaning.specs.declared.moves.Move.TheVariants.{Post, Ask, Own}
use Rattle.host_meaning.specs.Machine.{turn, received_all}
use Rattle.host_meaning.specs.Course.{Scene, Worker, opening}

-- an isolate that has one more entry, with nothing left to wait or to be received
abbrev pub after_entry : Worker → Isolate → Entry → Worker
after_entry worker isolate entry = record { isolate = isolate; journal = worker.journal ++ entry ∷ []; waiting = []; sent = [] }

-- the next command posts a task, which is carried out and answered at once
pub record PostsAtOnce (old new : Scene) : Type 0 where
  pub i : ℕ
  pub task : Task
  pub posts : (turn old.stand).0 ≡ Post i task
  pub worker : Worker
  pub at : slice_get old.workers i ≡ Some worker
  pub isolate : Isolate
  pub entry : Entry
  pub does : Does task worker.isolate isolate entry
  pub now : new ≡ record { stand = received_all (turn old.stand).1 i entry.outs; workers = slice_set old.workers i (after_entry worker isolate entry) }

-- the next command asks a live isolate to stop, which ends at once
pub record StopsAtOnce (old new : Scene) : Type 0 where
  pub i : ℕ
  pub asks : (turn old.stand).0 ≡ Ask i
  pub worker : Worker
  pub at : slice_get old.workers i ≡ Some worker
  pub isolate : Isolate
  pub entry : Entry
  pub stop : HostStop worker.isolate isolate entry
  pub now : new ≡ record { stand = received_all (turn old.stand).1 i entry.outs; workers = slice_set old.workers i (after_entry worker isolate entry) }

-- the next command asks an isolate to stop that has ended
pub record AsksTheEnded (old new : Scene) : Type 0 where
  pub i : ℕ
  pub asks : (turn old.stand).0 ≡ Ask i
  pub worker : Worker
  pub at : slice_get old.workers i ≡ Some worker
  pub is : is_ended worker.isolate.state ≡ true
  pub now : new ≡ record old { stand = (turn old.stand).1 }

-- one command
pub data OneCommand (old new : Scene) : Type 0 where
  own : (turn old.stand).0 ≡ Own → new ≡ record old { stand = (turn old.stand).1 } → OneCommand old new
  posts : PostsAtOnce old new → OneCommand old new
  stops : StopsAtOnce old new → OneCommand old new
  asks_ended : AsksTheEnded old new → OneCommand old new

-- what commands lead to, one after another
pub data OneThread (script : HostScript) : Scene → Type 0 where
  opens : OneThread script (opening script)
  goes : {scene next : Scene} → OneThread script scene → OneCommand scene next → OneThread script next
