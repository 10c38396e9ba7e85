-- How often the calls of a run are settled, and what becomes of each.
-- This project's own; docs/HOST.md, "What becomes of a call".
use Rattle.std.specs.Prelude.{◌≡◌, ℕ, ◌<◌, List, ◌⊎◌, if◌then◌else◌, true, Some, slice_get}
use Rattle.std.specs.List.{Contains}
use Rattle.task_history.specs.Lists.{posts, receives, replies}
use Rattle.task_history.specs.declared.task.Task.{Task}
use Rattle.task_history.specs.declared.record.Event.{Event}
use Rattle.task_history.specs.declared.record.Event.TheVariants.{Settle}
use Rattle.task_history.specs.declared.record.Settlement.TheVariants.{Entry}
use Rattle.host_meaning.specs.declared.moves.Move.TheVariants.{Blocked}
use Rattle.host_meaning.specs.Machine.{turn, NoneLeft}
use Rattle.host_meaning.specs.Stand.{Stand, drawn, is_settled}
use Rattle.host_meaning.specs.Settlement.{times_settled}

-- a number that was drawn and is settled was settled once, and any other number never
abbrev pub SettlesOnce : Stand → Type 0
SettlesOnce stand = (n : ℕ) → times_settled n stand.history stand.stops ≡ (if is_settled stand n then 1 else 0)

-- a task with call n stands at a place among the tasks that were posted to an isolate
pub record IsPosted (history : List Event) (n : ℕ) : Type 0 where
  pub isolate : ℕ
  pub place : ℕ
  pub task : Task
  pub at : slice_get (posts isolate history) place ≡ Some task
  pub named : task.call ≡ Some n

-- each number that was drawn is settled, or its task was posted
abbrev pub AccountsForEach : Stand → Type 0
AccountsForEach stand = (n : ℕ) → n < drawn stand → (is_settled stand n ≡ true) ⊎ IsPosted stand.history n

-- a number that was posted was drawn
abbrev pub PostsDrawn : Stand → Type 0
PostsDrawn stand = (n : ℕ) → IsPosted stand.history n → n < drawn stand

-- a number is posted once, and so to one isolate
abbrev pub PostsOnce : Stand → Type 0
PostsOnce stand = (n : ℕ) (one other : IsPosted stand.history n) → (one.isolate ≡ other.isolate) × (one.place ≡ other.place)

-- where a call was settled by entry p of isolate i, reply p of those that were received from it answers the call
abbrev pub SettlesByReplies : List Event → Type 0
SettlesByReplies history = (n i p : ℕ) → Contains history (Settle n (Entry i p)) → slice_get (replies (receives i history)) p ≡ Some (Some n)

-- every number that was drawn is settled
abbrev pub AllAreSettled : Stand → Type 0
AllAreSettled stand = (n : ℕ) → n < drawn stand → is_settled stand n ≡ true

-- where the host can't go on, no command is left
abbrev pub WaitsForNothing : Stand → Type 0
WaitsForNothing stand = (turn stand).0 ≡ Blocked → NoneLeft stand
