-- What a run keeps of the limit in cells and of the ticks that are left, and what it tells where it stops.
-- This project's own; docs/PRICES.md, "Ticks" and "When the heap is full". No statement about ECMA-262.
use Rattle.std.specs.Prelude.{◌≡◌, ℕ, ◌≤◌, Result, Ok, Err}
use Rattle.ivm_text.specs.declared.overrun.Overrun.{Overrun}
use Rattle.charged_heap.specs.Ends.{Ends}
use Rattle.charged_heap.specs.Price.{charge_of}
use Rattle.charged_heap.specs.Room.{IsOver}
use Rattle.charged_heap.specs.Store.{Store}
use Rattle.charged_heap.specs.declared.fault.Fail.{Fail}
use Rattle.charged_heap.specs.declared.fault.Fail.TheVariants as fail
use Rattle.script_meaning.specs.Outcome.{State, Out}
use Rattle.script_meaning.specs.declared.completion.Abrupt.{Abrupt}
use Rattle.script_meaning.specs.declared.completion.Abrupt.TheVariants as abrupt
use Rattle.script_meaning.specs.declared.completion.Ended.{Ended}
use Rattle.script_meaning.specs.declared.completion.StopCause.{StopCause}
use Rattle.script_meaning.specs.declared.completion.StopCause.TheVariants.{Timeout, Memory}

-- ---- cells

-- the limit is the same, and a charge that was within it still is
pub record StaysWithin (old new : Store) : Type 0 where
  pub limit : new.limit ≡ old.limit
  pub charge : charge_of old.items ≤ old.limit → charge_of new.items ≤ new.limit

-- so many cells were asked for that they don't fit, and this is told of it
abbrev pub TellsOverrun : Store → Overrun → Type 0
TellsOverrun s told = (asked : ℕ) × IsOver s asked told

abbrev pub TellsFail : Store → Fail → Type 0
TellsFail s (fail.Throw v) = Unit {0}
TellsFail s (fail.Over told) = TellsOverrun s told
TellsFail s fail.NoMemory = Unit {0}

abbrev pub TellsResult : {A : Type 0} → Store → Result A Fail → Type 0
TellsResult s (Ok a) = Unit {0}
TellsResult s (Err failed) = TellsFail s failed

-- a call over the heap stays within the limit, and a refusal tells what didn't fit
abbrev pub EndsWithin : {A : Type 0} → Store → Ends A → Type 0
EndsWithin s (result, after) = StaysWithin s after × TellsResult after result

-- ---- cells and ticks

-- the heap stays within its limit, and no tick comes back
pub record Follows (old new : State) : Type 0 where
  pub heap : StaysWithin old.heap new.heap
  pub left : new.left ≤ old.left

-- a stop for ticks leaves none, and a stop for cells tells what didn't fit
abbrev pub TellsStop : State → StopCause → Type 0
TellsStop s Timeout = s.left ≡ 0
TellsStop s (Memory told) = TellsOverrun s.heap told

abbrev pub TellsAbrupt : State → Abrupt → Type 0
TellsAbrupt s (abrupt.Throw v) = Unit {0}
TellsAbrupt s (abrupt.Return v) = Unit {0}
TellsAbrupt s (abrupt.Break v) = Unit {0}
TellsAbrupt s (abrupt.Continue v) = Unit {0}
TellsAbrupt s (abrupt.Stop cause) = TellsStop s cause
TellsAbrupt s abrupt.NoMemory = Unit {0}

abbrev pub TellsEnd : State → Result Ended Abrupt → Type 0
TellsEnd s (Ok end) = Unit {0}
TellsEnd s (Err e) = TellsAbrupt s e

-- an evaluation that began in this state stays within its limits, and a stop tells why
abbrev pub RunsWithin : State → Out → Type 0
RunsWithin old (end, new) = Follows old new × TellsEnd new end
