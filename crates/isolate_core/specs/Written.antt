-- The journal of a cell, and what it keeps ready for a stop.
-- This project's own; docs/MAP.md, "One isolate".
use Rattle.std.specs.Prelude.{◌≡◌, ℕ, ◌+◌, ◌^◌, ◌<◌, List, [], ◌∷◌, ◌++◌, Bool, false, if◌then◌else◌, Option, None, Some}
use Rattle.task_history.specs.declared.record.Entry.{Entry}
use Rattle.isolate_meaning.specs.Does.{stop_entry}

-- the entries, and whether the stop can still be written
pub record Written : Type 0 where
  pub entries : List Entry
  pub is_open : Bool

-- there are fewer than 2^32 entries, and as long as the stop can be written, its entry, but for the cells, and a place
-- for it are there
abbrev pub IsReady : ℕ → ℕ → Option Entry → Type 0
IsReady length capacity None = length < 2 ^ 32
IsReady length capacity (Some stop) = (length + 1 < 2 ^ 32) × (length < capacity) × (stop ≡ stop_entry 0)

-- with the stop at its end, if it can still be written
abbrev pub closed : ℕ → Written → Written
closed cells written = if written.is_open then record { entries = written.entries ++ stop_entry cells ∷ []; is_open = false } else written
