-- That a task does one thing to a cell.
-- This project's own; docs/MAP.md, "One isolate".
use Rattle.std.specs.Prelude.{◌≡◌}
use Rattle.task_history.specs.declared.task.Task.{Task}
use Rattle.isolate_meaning.specs.Replay.{Kept, Performs}

-- whatever the cell may be after the task is this
abbrev pub IsOnlyPerformance : Task → Kept → Kept → Type 0
IsOnlyPerformance task old new = (other : Kept) → Performs task old other → other ≡ new
