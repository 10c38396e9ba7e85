-- The state that a cell holds.
-- This project's own; docs/MAP.md, "One isolate".
use Rattle.std.specs.Prelude.{◌≡◌, Bool, true, Option, None, Some}
use Rattle.task_history.specs.declared.task.Task.{Task}
use Rattle.task_history.specs.declared.record.Entry.{Entry}
use Rattle.isolate_core.specs.declared.life.Life.{Life}
use Rattle.isolate_core.specs.declared.life.Life.TheVariants.{Live, Ended, Void}
use Rattle.isolate_meaning.specs.State.{State, live, ended, HeapIsClosed}
use Rattle.isolate_meaning.specs.Does.{DoesTo}
use Rattle.isolate_core.specs.Contents.{contents_of}

-- a void cell holds none
abbrev pub state_of : Life → Option State
state_of (Live contents) = Some (live (contents_of contents))
state_of (Ended by) = Some (ended by)
state_of Void = None

-- each number in the state, if there is one, names what its place asks for
abbrev pub IsClosedLife : Option State → Type 0
IsClosedLife None = Unit {0}
IsClosedLife (Some state) = HeapIsClosed state

-- the task turns one state into another, which is closed, and leaves this entry
pub record CarriesOut (task : Task) (old new : Life) (entry : Entry) : Type 0 where
  pub before : State
  pub after : State
  pub was : state_of old ≡ Some before
  pub now : state_of new ≡ Some after
  pub does : DoesTo task before after entry
  pub closed : HeapIsClosed after

-- as long as the isolate lives, a stop can be written
abbrev pub IsOpenWhereLive : Life → Bool → Type 0
IsOpenWhereLive (Live contents) is_open = is_open ≡ true
IsOpenWhereLive (Ended by) is_open = Unit {0}
IsOpenWhereLive Void is_open = Unit {0}
