-- How often a call was settled, and by what.
-- This project's own; docs/HOST.md, "What becomes of a call".
use Rattle.std.specs.Prelude.{◌≡◌, ℕ, ◌+◌, List, [], ◌∷◌, Bool, false, ◌==◌, count_by, Option, None, Some, if◌then◌else◌, slice_get}
use Rattle.std.specs.List.{Contains}
use Rattle.std.specs.Option.{option_or}
use Rattle.task_history.specs.Lists.{journal_at}
use Rattle.task_history.specs.declared.record.Entry.{Entry}
use Rattle.task_history.specs.declared.record.Settlement.{Settlement}
use Rattle.task_history.specs.declared.record.Settlement.TheVariants as how
use Rattle.task_history.specs.declared.record.Event.{Event}
use Rattle.task_history.specs.declared.record.Event.TheVariants.{Post, Recv, Ask, Release, Settle}
use Rattle.task_history.specs.declared.task.Task.{Task}

-- the event settles call n: it says how, or it is the call's release
abbrev pub settles : ℕ → Event → Bool
settles n (Post i task) = false
settles n (Recv i out) = false
settles n (Ask i) = false
settles n (Release call) = n == call
settles n (Settle call how) = n == call

-- how often call n was settled: by an event, or by the ask of a disposal that was done
abbrev pub times_settled : ℕ → List Event → List ℕ → ℕ
times_settled n history stops = count_by (settles n) history + count_by (λ stop. n == stop) stops

-- the settlement that an event says of call n
abbrev pub settlement_in : ℕ → Event → Option Settlement
settlement_in n (Post i task) = None
settlement_in n (Recv i out) = None
settlement_in n (Ask i) = None
settlement_in n (Release call) = None
settlement_in n (Settle call how) = if n == call then Some how else None

-- the settlement of call n that an event says, if one does
abbrev pub settlement_of : ℕ → List Event → Option Settlement
settlement_of n [] = None
settlement_of n (event ∷ history) = option_or (settlement_in n event) (settlement_of n history)

-- the entry is that of a task of call n
pub record IsRunOf (n : ℕ) (entry : Entry) : Type 0 where
  pub task : Task
  pub has : entry.task ≡ Some task
  pub named : task.call ≡ Some n

-- where call n was settled by entry p of isolate i, this is the entry of its one run
abbrev pub IsOfItsRun : List (List Entry) → List Event → Type 0
IsOfItsRun journals history = (n i p : ℕ) → Contains history (Settle n (how.Entry i p)) → (entry : Entry) × (slice_get (journal_at journals i) p ≡ Some entry) × IsRunOf n entry
