-- Laws of entries and journals, as they are named by the functions of `laws`.
-- This project's own; docs/MAP.md, "One isolate".
use Rattle.std.specs.Prelude.{◌≡◌, ℕ, ◌<◌, List, ◌++◌, length, map, false, Option, None, Some, ◌⊎◌}
use Rattle.std.specs.List.{Contains}
use Rattle.js_scripts.specs.Text.{Reading, Reads}
use Rattle.task_history.specs.Lists.{outs, replies, is_disposal, has_disposal}
use Rattle.task_history.specs.declared.task.Task.{Task}
use Rattle.task_history.specs.declared.outcome.By.{By}
use Rattle.task_history.specs.declared.outcome.By.TheVariants.{Host, Memory}
use Rattle.task_history.specs.declared.outcome.Outcome.{Outcome}
use Rattle.task_history.specs.declared.outcome.Outcome.TheVariants as outcome
use Rattle.task_history.specs.declared.outcome.Out.{Out}
use Rattle.task_history.specs.declared.record.Entry.{Entry}
use Rattle.isolate_meaning.specs.State.{Isolate, State, live, ended, is_ended}
use Rattle.isolate_meaning.specs.Fits.{Fits}
use Rattle.isolate_meaning.specs.Does.{Does, entry_of, stop_entry}
use Rattle.isolate_meaning.specs.Replay.{Replay}
use Rattle.isolate_meaning.specs.Known.{TellsContext, IsKnown}

-- ---- replies

-- the call of an entry's task; a stop by the host, and a task without a call, have none
abbrev pub call_of : Option Task → Option ℕ
call_of None = None
call_of (Some task) = task.call

-- the calls of the entries' tasks, in order
abbrev pub calls : List Entry → List (Option ℕ)
calls journal = map (λ entry. call_of entry.task) journal

-- each entry sends one reply, in the order of the entries, and it names the call of its task
abbrev pub AnswersEachOnce : List Entry → Type 0
AnswersEachOnce journal = replies (outs journal) ≡ calls journal

-- ---- contexts

-- the limit in cells was passed
abbrev pub IsMemoryLimit : Outcome → Type 0
IsMemoryLimit (outcome.MemoryLimit told) = Unit {0}
IsMemoryLimit _ = ⊥

-- what comes of the making of a context: on a live isolate it is told with the number of those before it and that of its
-- row, unless there are no cells left for it
abbrev pub IsContextReply : State → Outcome → Type 0
IsContextReply (live contents) out = (out ≡ outcome.Context (length contents.contexts) (length contents.rows)) ⊎ IsMemoryLimit out
IsContextReply (ended by) out = out ≡ outcome.Disposed by

-- a context and the row of its global object are there, if their isolate lives
abbrev pub AreThere : State → ℕ → ℕ → Type 0
AreThere (live contents) context row = (context < length contents.contexts) × (row < length contents.rows)
AreThere (ended by) context row = Unit {0}

-- a context that these outs tell is there, and so is its row
abbrev pub TellsWhatIsThere : List Out → State → Type 0
TellsWhatIsThere outs state = (context row : ℕ) → TellsContext outs context row → AreThere state context row

-- whoever heard some of the first outs of a journal may name what they tell
abbrev pub KnownFits : List Entry → State → Type 0
KnownFits journal state = (heard later : List Out) (task : Task) → outs journal ≡ heard ++ later → IsKnown heard task → Fits state task

-- ---- the end

-- a task ends a live isolate exactly where it passes the limit in cells; one that has ended stays as it is, and refuses
-- each task with the cause of its end
abbrev pub EndsByLimit : State → Entry → Type 0
EndsByLimit (live contents) entry = is_disposal entry.outcome ≡ false
EndsByLimit (ended by) entry = (by ≡ Memory) × IsMemoryLimit entry.outcome

abbrev pub IsRefusedWhereEnded : Task → State → State → Entry → Type 0
IsRefusedWhereEnded task (live contents) new entry = EndsByLimit new entry
IsRefusedWhereEnded task (ended by) new entry = (new ≡ ended by) × (entry ≡ entry_of task (outcome.Disposed by) 0 0)

-- an isolate has ended exactly where its journal holds a disposal
abbrev pub EndsByDisposal : List Entry → State → Type 0
EndsByDisposal journal state = has_disposal journal ≡ is_ended state

-- why an isolate has ended stands in its journal: a stop by the host, or a task that passed its limit in cells
abbrev pub IsCauseOf : By → Entry → Type 0
IsCauseOf Host entry = (cells : ℕ) × (entry ≡ stop_entry cells)
IsCauseOf Memory entry = IsMemoryLimit entry.outcome

abbrev pub HasCause : List Entry → State → Type 0
HasCause journal (live contents) = Unit {0}
HasCause journal (ended by) = (entry : Entry) × Contains journal entry × IsCauseOf by entry

-- ---- one thing

-- a text is read in one way
abbrev pub AreReadOnce : Type 0
AreReadOnce = (bytes : List ℕ) (one other : Reading) → Reads bytes one → Reads bytes other → one ≡ other

-- whatever the task may turn the old isolate into is this, and whatever entry it may leave is this
abbrev pub IsOneDeed : Task → Isolate → Isolate → Entry → Type 0
IsOneDeed task old new entry = (other : Isolate) (another : Entry) → Does task old other another → (other ≡ new) × (another ≡ entry)

-- whatever the journal may lead to is this
abbrev pub IsOneEnd : Isolate → List Entry → Isolate → Type 0
IsOneEnd first journal last = (other : Isolate) → Replay first journal other → other ≡ last
