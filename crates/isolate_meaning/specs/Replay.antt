-- A journal carried out again, and what a cell keeps.
-- This project's own; docs/MAP.md, "One isolate".
use Rattle.std.specs.Prelude.{◌≡◌, ℕ, List, [], ◌∷◌, ◌++◌, Bool, false, Option, None, Some}
use Rattle.task_history.specs.declared.task.Task.{Task}
use Rattle.task_history.specs.declared.outcome.By.TheVariants.{Host}
use Rattle.task_history.specs.declared.record.Entry.{Entry}
use Rattle.isolate_meaning.specs.State.{State, live, ended, Isolate, empty, fresh, cells_of, charge_in, is_ended, IsClosed}
use Rattle.isolate_meaning.specs.Fits.{Fits}
use Rattle.isolate_meaning.specs.Does.{Does, HostStop, stop_entry}

-- the entry is that of its own task, or of a stop by the host
abbrev pub Stands : Option Task → Isolate → Isolate → Entry → Type 0
Stands None old new entry = HostStop old new entry
Stands (Some task) old new entry = Does task old new entry

-- the entries, one after another, lead from the first isolate to the last
abbrev pub Replay : Isolate → List Entry → Isolate → Type 0
Replay first [] last = last ≡ first
Replay first (entry ∷ journal) last = (next : Isolate) × Stands entry.task first next entry × Replay next journal last

-- the journal of isolate i, with this limit, carried out again from the fresh isolate, gives an isolate
abbrev pub Replays : ℕ → ℕ → List Entry → Type 0
Replays i limit journal = (last : Isolate) × Replay (fresh i limit) journal last

-- carried out again, the journal gives this isolate and no other
pub record GivesAgain (first : Isolate) (journal : List Entry) (last : Isolate) : Type 0 where
  pub replays : Replay first journal last
  pub only : (other : Isolate) → Replay first journal other → other ≡ last

-- ---- cells

-- what a cell keeps: its isolate's number and limit, the journal, and the state unless it is void
pub record Kept : Type 0 where
  pub number : ℕ
  pub limit : ℕ
  pub journal : List Entry
  pub state : Option State

abbrev pub fresh_cell : ℕ → ℕ → Kept
fresh_cell number limit = record { number = number; limit = limit; journal = []; state = Some (live (empty limit)) }

-- the journal is lost to no refusal, and the rest is gone
abbrev pub void : Kept → Kept
void kept = record kept { state = None }

abbrev pub isolate_in : Kept → State → Isolate
isolate_in kept state = record { number = kept.number; limit = kept.limit; state = state }

-- the journal gives the state again, and the state is closed; that of a void cell gives some
abbrev pub StandsBy : Kept → Option State → Type 0
StandsBy kept (Some state) = GivesAgain (fresh kept.number kept.limit) kept.journal (isolate_in kept state) × IsClosed state
StandsBy kept None = Replays kept.number kept.limit kept.journal

abbrev pub IsKept : Kept → Type 0
IsKept kept = StandsBy kept kept.state

-- a task may be performed: on a cell that isn't void it fits
abbrev pub FitsUnlessVoid : Option State → Task → Type 0
FitsUnlessVoid None task = Unit {0}
FitsUnlessVoid (Some state) task = Fits state task

abbrev pub MayPerform : Kept → Task → Type 0
MayPerform kept task = FitsUnlessVoid kept.state task

-- exactly one entry, the one that the task leaves, joined the journal
pub record Performs (task : Task) (old new : Kept) : Type 0 where
  pub before : State
  pub after : State
  pub was : old.state ≡ Some before
  pub entry : Entry
  pub does : Does task (isolate_in old before) (isolate_in old after) entry
  pub now : new ≡ record old { journal = old.journal ++ entry ∷ []; state = Some after }

-- a cell after a stop by the host: a live one has ended with one more entry, an ended or void one is as before
abbrev pub stopped_at : Kept → Option State → Kept
stopped_at kept None = kept
stopped_at kept (Some (ended by)) = kept
stopped_at kept (Some (live contents)) = record kept { journal = kept.journal ++ stop_entry (cells_of contents) ∷ []; state = Some (ended Host) }

abbrev pub stopped : Kept → Kept
stopped kept = stopped_at kept kept.state

-- the state of a cell has ended; a void cell has none
abbrev pub has_ended : Option State → Bool
has_ended None = false
has_ended (Some state) = is_ended state

-- the cells that are charged in it; none where it has ended or is void
abbrev pub charged : Option State → ℕ
charged None = 0
charged (Some state) = charge_in state
