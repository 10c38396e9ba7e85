-- What one task does to an isolate, what a stop by the host does, and the entry that each leaves.
-- This project's own, after isolated-vm's context, reference and `dispose`; docs/MAP.md, "One isolate".
use Rattle.std.specs.Prelude.{◌≡◌, ℕ, List, [], ◌∷◌, None, Some}
use Rattle.task_history.specs.declared.task.Act.{Act}
use Rattle.task_history.specs.declared.task.Act.TheVariants.{Get, Set, Apply, CopyOut}
use Rattle.task_history.specs.declared.task.Task.{Task}
use Rattle.task_history.specs.declared.task.TaskKind.{TaskKind}
use Rattle.task_history.specs.declared.task.TaskKind.TheVariants as kind
use Rattle.task_history.specs.declared.outcome.By.{By}
use Rattle.task_history.specs.declared.outcome.By.TheVariants.{Host}
use Rattle.task_history.specs.declared.outcome.Outcome.{Outcome}
use Rattle.task_history.specs.declared.outcome.Outcome.TheVariants as outcome
use Rattle.task_history.specs.declared.outcome.Out.TheVariants.{Reply}
use Rattle.task_history.specs.declared.record.Entry.{Entry}
use Rattle.js_scripts.specs.Text.{Reading, Reads}
use Rattle.isolate_meaning.specs.State.{Contents, State, live, ended, Isolate, cells_of}
use Rattle.isolate_meaning.specs.Values.{passed_value}
use Rattle.isolate_meaning.specs.Tasks.{Done, context_made, text_run, property_read, property_written}
use Rattle.isolate_meaning.specs.Fits.{Fits}

-- ---- what a task of each kind comes to on a live isolate

-- the text is read, and then run
pub record RunsText (budget context : ℕ) (text : List ℕ) (contents : Contents) (done : Done) : Type 0 where
  pub reading : Reading
  pub reads : Reads text reading
  pub runs : text_run budget context reading contents ≡ Some done

abbrev pub ActsOn : ℕ → Act → Contents → Done → Type 0
ActsOn row (Get key want) contents done = property_read row key contents ≡ Some done
ActsOn row (Set key value) contents done = property_written row key (passed_value value) contents ≡ Some done
ActsOn row (Apply receiver args want) contents done = ⊥
ActsOn row CopyOut contents done = ⊥

-- what a task of this kind comes to, within so many ticks; the others aren't built yet
abbrev pub Acts : ℕ → TaskKind → Contents → Done → Type 0
Acts budget kind.Context contents done = context_made contents ≡ Some done
Acts budget (kind.Compile text) contents done = ⊥
Acts budget (kind.Run script context want) contents done = ⊥
Acts budget (kind.Eval context text want) contents done = RunsText budget context text contents done
Acts budget (kind.Act row act) contents done = ActsOn row act contents done
Acts budget (kind.Resume promise answer) contents done = ⊥

-- ---- entries

-- the entry of a task: its one out is the reply
abbrev pub entry_of : Task → Outcome → ℕ → ℕ → Entry
entry_of task out ticks cells = record { task = Some task; outcome = out; ticks = ticks; cells = cells; outs = Reply task.call out ∷ [] }

-- the entry of a stop by the host, with the cells that were charged
abbrev pub stop_entry : ℕ → Entry
stop_entry cells = record { task = None; outcome = outcome.Disposed Host; ticks = 0; cells = cells; outs = Reply None (outcome.Disposed Host) ∷ [] }

-- ---- what a task does

-- on a live isolate its kind acts; an ended one refuses it, with the cause of its end
pub data DoesTo (task : Task) : State → State → Entry → Type 0 where
  acts : {contents : Contents} {done : Done} → Acts task.budget task.kind contents done
      → DoesTo task (live contents) done.state (entry_of task done.out done.ticks done.cells)
  refuses : {by : By} → DoesTo task (ended by) (ended by) (entry_of task (outcome.Disposed by) 0 0)

-- the task, which fits, turns the old isolate into the new one and leaves this entry
pub record Does (task : Task) (old new : Isolate) (entry : Entry) : Type 0 where
  pub fits : Fits old.state task
  pub number : new.number ≡ old.number
  pub limit : new.limit ≡ old.limit
  pub does : DoesTo task old.state new.state entry

-- the host stops a live isolate
pub record HostStop (old new : Isolate) (entry : Entry) : Type 0 where
  pub contents : Contents
  pub was_live : old.state ≡ live contents
  pub ends : new ≡ record old { state = ended Host }
  pub noted : entry ≡ stop_entry (cells_of contents)
