-- The host beside its isolates: tasks that were posted and wait, outs that were sent and wait, in any order of carrying out and receiving.
-- This project's own; docs/MAP.md, "The host and its isolates".
use Rattle.std.specs.Prelude.{◌≡◌, ℕ, ◌+◌, List, [], ◌∷◌, ◌++◌, map, true, Some, slice_get, slice_set}
use Rattle.task_history.specs.Lists.{is_asked}
use Rattle.task_history.specs.declared.task.Task.{Task}
use Rattle.task_history.specs.declared.outcome.Out.{Out}
use Rattle.task_history.specs.declared.record.Entry.{Entry}
use Rattle.task_history.specs.declared.record.Record.{Record}
use Rattle.isolate_meaning.specs.State.{Isolate, fresh, is_ended}
use Rattle.isolate_meaning.specs.Does.{Does, HostStop}
use Rattle.host_syntax.specs.declared.script.HostScript.{HostScript}
use Rattle.host_syntax.specs.declared.script.IsolateDecl.{IsolateDecl}
use Rattle.host_meaning.specs.declared.moves.Move.TheVariants.{Post, Ask, Own, Blocked}
use Rattle.host_meaning.specs.Stand.{Stand, beginning}
use Rattle.host_meaning.specs.Machine.{turn, received}

-- an isolate at work: as it is, its journal, the tasks that wait for it, and its outs that wait for the host
pub record Worker : Type 0 where
  pub isolate : Isolate
  pub journal : List Entry
  pub waiting : List Task
  pub sent : List Out

-- the host, and the isolates of its script in the order of their numbers
pub record Scene : Type 0 where
  pub stand : Stand
  pub workers : List Worker

-- ---- the beginning

abbrev pub idle : ℕ → ℕ → Worker
idle number limit = record { isolate = fresh number limit; journal = []; waiting = []; sent = [] }

-- fresh isolates with the limits of these declarations, the first with number n
abbrev pub all_idle : ℕ → List IsolateDecl → List Worker
all_idle n [] = []
all_idle n (decl ∷ decls) = idle n decl.limit ∷ all_idle (n + 1) decls

abbrev pub opening : HostScript → Scene
opening script = record { stand = beginning script; workers = all_idle 0 script.isolates }

-- ---- the moves

-- the host does its next command, which posts nothing and asks for nothing
pub record HostTurns (old new : Scene) : Type 0 where
  pub own : (turn old.stand).0 ≡ Own
  pub now : new ≡ record old { stand = (turn old.stand).1 }

-- the host posts a task, which waits for its isolate
pub record HostPosts (old new : Scene) : Type 0 where
  pub i : ℕ
  pub task : Task
  pub posts : (turn old.stand).0 ≡ Post i task
  pub worker : Worker
  pub at : slice_get old.workers i ≡ Some worker
  pub now : new ≡ record { stand = (turn old.stand).1; workers = slice_set old.workers i (record worker { waiting = worker.waiting ++ task ∷ [] }) }

-- the host asks an isolate to stop
pub record HostAsks (old new : Scene) : Type 0 where
  pub i : ℕ
  pub asks : (turn old.stand).0 ≡ Ask i
  pub now : new ≡ record old { stand = (turn old.stand).1 }

-- an isolate carries out the first task that waits for it, and sends what its entry has
pub record Performs (old new : Scene) : Type 0 where
  pub i : ℕ
  pub worker : Worker
  pub at : slice_get old.workers i ≡ Some worker
  pub task : Task
  pub later : List Task
  pub first : worker.waiting ≡ task ∷ later
  pub isolate : Isolate
  pub entry : Entry
  pub does : Does task worker.isolate isolate entry
  pub now : new ≡ record old { workers = slice_set old.workers i (record { isolate = isolate; journal = worker.journal ++ entry ∷ []; waiting = later; sent = worker.sent ++ entry.outs }) }

-- an isolate that was asked to stop ends, and sends what its entry has
pub record Stops (old new : Scene) : Type 0 where
  pub i : ℕ
  pub asked : is_asked i old.stand.history ≡ true
  pub worker : Worker
  pub at : slice_get old.workers i ≡ Some worker
  pub isolate : Isolate
  pub entry : Entry
  pub stop : HostStop worker.isolate isolate entry
  pub now : new ≡ record old { workers = slice_set old.workers i (record { isolate = isolate; journal = worker.journal ++ entry ∷ []; waiting = worker.waiting; sent = worker.sent ++ entry.outs }) }

-- the host receives the first out that an isolate has sent
pub record Receives (old new : Scene) : Type 0 where
  pub i : ℕ
  pub worker : Worker
  pub at : slice_get old.workers i ≡ Some worker
  pub out : Out
  pub later : List Out
  pub first : worker.sent ≡ out ∷ later
  pub now : new ≡ record { stand = received old.stand i out; workers = slice_set old.workers i (record worker { sent = later }) }

-- one move of the host or of an isolate
pub data Moves (old new : Scene) : Type 0 where
  host_turns : HostTurns old new → Moves old new
  host_posts : HostPosts old new → Moves old new
  host_asks : HostAsks old new → Moves old new
  performs : Performs old new → Moves old new
  stops : Stops old new → Moves old new
  receives : Receives old new → Moves old new

-- what moves lead to
pub data Course (script : HostScript) : Scene → Type 0 where
  opens : Course script (opening script)
  moves : {scene next : Scene} → Course script scene → Moves scene next → Course script next

-- ---- the end

-- the host can't go on, nothing waits, and whoever was asked to stop has ended
pub record IsAtRest (scene : Scene) : Type 0 where
  pub blocked : (turn scene.stand).0 ≡ Blocked
  pub none_wait : (i : ℕ) (worker : Worker) → slice_get scene.workers i ≡ Some worker → worker.waiting ≡ []
  pub none_sent : (i : ℕ) (worker : Worker) → slice_get scene.workers i ≡ Some worker → worker.sent ≡ []
  pub ended : (i : ℕ) (worker : Worker) → slice_get scene.workers i ≡ Some worker → is_asked i scene.stand.history ≡ true → is_ended worker.isolate.state ≡ true

-- what is kept of a scene
abbrev pub record_of : Scene → Record
record_of scene = record { host = scene.stand.history; isolates = map (λ (worker : Worker). worker.journal) scene.workers }
