-- What came of a task, as a cell holds it.
-- This project's own; docs/MAP.md, "One isolate".
use Rattle.std.specs.Prelude.{Option, None, Some}
use Rattle.charged_heap.specs.declared.fault.Fail.{Fail}
use Rattle.charged_heap.specs.declared.fault.Fail.TheVariants as fail
use Rattle.task_history.specs.declared.outcome.By.TheVariants.{Memory}
use Rattle.task_history.specs.declared.outcome.Outcome.TheVariants as outcome
use Rattle.isolate_meaning.specs.State.{Contents, ended}
use Rattle.isolate_meaning.specs.Tasks.{Done, lives, over}
use Rattle.isolate_meaning.specs.Values.{thrown}
use Rattle.isolate_core.specs.declared.done.Done.{Done as Held}
use Rattle.isolate_core.specs.declared.done.Done.TheVariants.{Lives, Over}
use Rattle.isolate_core.specs.Contents.{contents_of}

abbrev pub done_of : Held → Done
done_of (Lives contents out ticks) = lives (contents_of contents) out ticks
done_of (Over told ticks cells) = record {
  state = ended Memory;
  out = outcome.MemoryLimit told;
  ticks = ticks;
  cells = cells;
}

-- what comes of a task whose call over the heap gave nothing; nothing comes of it for want of memory
abbrev pub refused_done : Contents → Fail → Option Done
refused_done contents (fail.Throw v) = Some (lives contents (thrown contents.store v) 0)
refused_done contents (fail.Over told) = Some (over contents.store told 0)
refused_done contents fail.NoMemory = None
