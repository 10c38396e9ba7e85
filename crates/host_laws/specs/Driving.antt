-- The host beside a list of cells, on one thread and between two commands.
-- This project's own; docs/MAP.md, "The host and its isolates".
use Rattle.std.specs.Prelude.{◌≡◌, ℕ, ◌+◌, List, [], ◌∷◌, map, Option, None, Some, slice_get}
use Rattle.std.specs.List.{Contains}
use Rattle.task_history.specs.declared.outcome.By.TheVariants.{Host}
use Rattle.task_history.specs.declared.outcome.Out.{Out}
use Rattle.task_history.specs.declared.record.Entry.{Entry}
use Rattle.task_history.specs.declared.record.Record.{Record}
use Rattle.isolate_meaning.specs.State.{State, ended}
use Rattle.isolate_meaning.specs.Replay.{Kept, isolate_in, fresh_cell}
use Rattle.host_syntax.specs.declared.script.HostScript.{HostScript}
use Rattle.host_syntax.specs.declared.script.IsolateDecl.{IsolateDecl}
use Rattle.host_meaning.specs.Stand.{Stand}
use Rattle.host_meaning.specs.Machine.{IsReply}
use Rattle.host_meaning.specs.Course.{Worker, Scene}
use Rattle.host_meaning.specs.OneThread.{OneThread}

-- ---- cells

-- fresh cells with the limits of these declarations, the first with number n
abbrev pub fresh_cells : ℕ → List IsolateDecl → List Kept
fresh_cells n [] = []
fresh_cells n (decl ∷ decls) = fresh_cell n decl.limit ∷ fresh_cells (n + 1) decls

-- the state of a cell; a void one counts as ended
abbrev pub state_or_end : Option State → State
state_or_end None = ended Host
state_or_end (Some state) = state

-- a cell as an isolate at work, for which nothing waits and from which nothing is on its way
abbrev pub worker_of : Kept → Worker
worker_of cell = record { isolate = isolate_in cell (state_or_end cell.state); journal = cell.journal; waiting = []; sent = [] }

abbrev pub scene_of : Stand → List Kept → Scene
scene_of stand cells = record { stand = stand; workers = map worker_of cells }

-- a cell has a state unless it is void
abbrev pub HasState : Option State → Type 0
HasState None = ⊥
HasState (Some state) = Unit {0}

-- the run on one thread has led the host and the cells to where they stand, and no cell is void
pub record CellsAre (script : HostScript) (stand : Stand) (cells : List Kept) : Type 0 where
  pub run : OneThread script (scene_of stand cells)
  pub none_void : (i : ℕ) (cell : Kept) → slice_get cells i ≡ Some cell → HasState cell.state

-- ---- outs

abbrev pub outs_of : Option Entry → List Out
outs_of None = []
outs_of (Some entry) = entry.outs

-- the outs of entry n of a journal, counted from 0; none where there is no such entry
abbrev pub outs_at : List Entry → ℕ → List Out
outs_at journal n = outs_of (slice_get journal n)

-- each of these outs is a reply
abbrev pub AreReplies : List Out → Type 0
AreReplies sent = (out : Out) → Contains sent out → IsReply out

-- ---- the end

-- what is kept of a run that has ended
abbrev pub record_with : Stand → List Kept → Record
record_with stand cells = record { host = stand.history; isolates = map (λ (cell : Kept). cell.journal) cells }
