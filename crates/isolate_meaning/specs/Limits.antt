-- What entries and states keep of the limit in cells and of the budgets in ticks.
-- This project's own; docs/PRICES.md, "Ticks" and "When the heap is full".
use Rattle.std.specs.Prelude.{◌≡◌, ℕ, ◌+◌, ◌<◌, ◌≤◌, min, List, Option, None, Some}
use Rattle.std.specs.List.{All}
use Rattle.ivm_text.specs.declared.overrun.Overrun.{Overrun}
use Rattle.charged_heap.specs.Price.{charge_of}
use Rattle.charged_heap.specs.Store.{Store}
use Rattle.charged_heap.specs.declared.price.TheConstants.{GREATEST_TOLD}
use Rattle.task_history.specs.declared.task.Task.{Task}
use Rattle.task_history.specs.declared.outcome.Outcome.TheVariants.{Timeout, MemoryLimit}
use Rattle.task_history.specs.declared.record.Entry.{Entry}
use Rattle.isolate_meaning.specs.State.{State, live, ended, Isolate}

-- the most ticks that an entry may have: its task's budget, and none for a stop by the host
abbrev pub budget_of : Option Task → ℕ
budget_of None = 0
budget_of (Some task) = task.budget

-- so many cells were charged, and so many more asked for that together they pass the limit: this is told of it, and the
-- cells asked up to the greatest number that is told
pub record TellsOverrun (most cells : ℕ) (told : Overrun) : Type 0 where
  pub charged : told.charged ≡ cells
  pub limit : told.limit ≡ most
  pub asked : ℕ
  pub asked_told : told.asked ≡ min asked GREATEST_TOLD
  pub passes : most < cells + asked

-- a task ran out of ticks where all that it may take are taken
pub record TellsTimeout (n ticks budget : ℕ) : Type 0 where
  pub told : n ≡ ticks
  pub all : ticks ≡ budget

-- an entry of an isolate with this limit in cells
pub record KeepsLimits (most : ℕ) (entry : Entry) : Type 0 where
  pub cells : entry.cells ≤ most
  pub ticks : entry.ticks ≤ budget_of entry.task
  pub timeout : (n : ℕ) → entry.outcome ≡ Timeout n → TellsTimeout n entry.ticks (budget_of entry.task)
  pub overrun : (told : Overrun) → entry.outcome ≡ MemoryLimit told → TellsOverrun most entry.cells told

-- a store with this limit, and a charge within it
pub record HasLimit (most : ℕ) (s : Store) : Type 0 where
  pub limit : s.limit ≡ most
  pub charge : charge_of s.items ≤ most

-- the store of an isolate that lives; one that has ended has none
abbrev pub StateHasLimit : ℕ → State → Type 0
StateHasLimit most (live contents) = HasLimit most contents.store
StateHasLimit most (ended by) = Unit {0}

-- each entry of the journal of an isolate with this limit keeps it, and so does the isolate that the journal gives
pub record KeepTheirLimits (most : ℕ) (journal : List Entry) (last : Isolate) : Type 0 where
  pub entries : All (KeepsLimits most) journal
  pub isolate : last.limit ≡ most
  pub store : StateHasLimit most last.state
