-- When a record is that of one whole run of a script.
-- This project's own; docs/CLAIMS.md, "The lawful record".
use Rattle.std.specs.Prelude.{◌≡◌, ℕ, ◌<◌, ◌≤◌, List, [], ◌∷◌, ◌++◌, length, true, Some, slice_get}
use Rattle.task_history.specs.Lists.{tasks, outs, posts, receives, is_asked, has_disposal, journal_at}
use Rattle.task_history.specs.declared.outcome.By.TheVariants.{Host}
use Rattle.task_history.specs.declared.outcome.Outcome.TheVariants.{Disposed}
use Rattle.task_history.specs.declared.record.Entry.{Entry}
use Rattle.task_history.specs.declared.record.Event.{Event}
use Rattle.task_history.specs.declared.record.Event.TheVariants.{Post, Recv, Ask, Release, Settle}
use Rattle.task_history.specs.declared.record.Record.{Record}
use Rattle.isolate_meaning.specs.Replay.{Replays}
use Rattle.host_syntax.specs.declared.script.HostScript.{HostScript}
use Rattle.host_syntax.specs.declared.script.IsolateDecl.{IsolateDecl}
use Rattle.host_meaning.specs.Stand.{Stand, drawn}
use Rattle.host_meaning.specs.Machine.{HostRun, NoneLeft}
use Rattle.host_meaning.specs.Settlement.{times_settled, IsOfItsRun}

-- ---- caused

-- out n of a journal, counted from 0, stands in this entry, the last of these
pub record StandsIn (journal : List Entry) (n : ℕ) (front : List Entry) (entry : Entry) : Type 0 where
  pub rest : List Entry
  pub whole : journal ≡ front ++ entry ∷ rest
  pub after : length (outs front) ≤ n
  pub before : n < length (outs (front ++ entry ∷ []))

-- where the next out of isolate i is received after this history: its entry's task, and those of the entries before, were posted,
-- and where its entry was disposed of by the host, the isolate was asked to stop
abbrev pub IsCaused : ℕ → List Entry → List Event → Type 0
IsCaused i journal history = (front : List Entry) (entry : Entry) → StandsIn journal (length (receives i history)) front entry
    → (length (tasks (front ++ entry ∷ [])) ≤ length (posts i history)) × (entry.outcome ≡ Disposed Host → is_asked i history ≡ true)

abbrev pub IsCausedBy : ℕ → List Entry → List Event → Event → Type 0
IsCausedBy i journal history (Post j task) = Unit {0}
IsCausedBy i journal history (Recv j out) = j ≡ i → IsCaused i journal history
IsCausedBy i journal history (Ask j) = Unit {0}
IsCausedBy i journal history (Release call) = Unit {0}
IsCausedBy i journal history (Settle call how) = Unit {0}

-- so it is at each receipt among the events that follow a history
abbrev pub AreCaused : ℕ → List Entry → List Event → List Event → Type 0
AreCaused i journal history [] = Unit {0}
AreCaused i journal history (event ∷ events) = IsCausedBy i journal history event × AreCaused i journal (history ++ event ∷ []) events

-- ---- lawful

-- the limit of isolate i
abbrev pub LimitIs : HostScript → ℕ → ℕ → Type 0
LimitIs script i limit = (decl : IsolateDecl) × (slice_get script.isolates i ≡ Some decl) × (decl.limit ≡ limit)

pub record IsLawful (script : HostScript) (kept : Record) : Type 0 where
  -- the host's history is a whole run of the machine on the script, with no command left
  pub stand : Stand
  pub run : HostRun script stand
  pub history : stand.history ≡ kept.host
  pub whole : NoneLeft stand
  -- one journal an isolate
  pub journals : length kept.isolates ≡ length script.isolates
  -- each isolate's journal has exactly the tasks that were posted to it, in order
  pub posted : (i : ℕ) → tasks (journal_at kept.isolates i) ≡ posts i kept.host
  -- each out was received once, and in order
  pub received : (i : ℕ) → receives i kept.host ≡ outs (journal_at kept.isolates i)
  -- each journal replays
  pub replays : (i limit : ℕ) → LimitIs script i limit → Replays i limit (journal_at kept.isolates i)
  -- nothing was received before its cause
  pub caused : (i : ℕ) → AreCaused i (journal_at kept.isolates i) [] kept.host
  -- each number that was drawn has exactly one settlement, and one by an entry is that of its run
  pub settled : (n : ℕ) → n < drawn stand → times_settled n kept.host stand.stops ≡ 1
  pub of_its_run : IsOfItsRun kept.isolates kept.host
  -- an isolate that was asked to stop has ended
  pub ended : (i : ℕ) → is_asked i kept.host ≡ true → has_disposal (journal_at kept.isolates i) ≡ true
