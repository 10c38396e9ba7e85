-- What a host that has finished shows of each isolate, in whatever order it drove them.
-- This project's own; docs/CLAIMS.md, "The lawful record".
use Rattle.std.specs.Prelude.{◌≡◌, ℕ, ◌<◌, List, [], length, true}
use Rattle.std.specs.List.{Contains}
use Rattle.task_history.specs.Lists.{tasks, outs, posts, receives, journal_at}
use Rattle.task_history.specs.declared.task.Task.{Task}
use Rattle.task_history.specs.declared.outcome.Out.{Out}
use Rattle.task_history.specs.declared.record.Entry.{Entry}
use Rattle.task_history.specs.declared.record.Event.{Event}
use Rattle.isolate_meaning.specs.Replay.{Replays}
use Rattle.host_syntax.specs.declared.script.HostScript.{HostScript}
use Rattle.host_meaning.specs.declared.moves.Move.TheVariants.{Ask, Post}
use Rattle.host_meaning.specs.Stand.{Stand}
use Rattle.host_meaning.specs.Machine.{HostRun, MayReceive, is_finished, turn}
use Rattle.host_meaning.specs.Lawful.{AreCaused, IsLawful, LimitIs}

-- isolate i, with this limit, has done all that the history posted to it: its journal replays, has the tasks that
-- were posted and the outs that were received, each in order, and nothing was received before its cause
pub record HasDone (i limit : ℕ) (history : List Event) (journal : List Entry) : Type 0 where
  pub replays : Replays i limit journal
  pub posted : tasks journal ≡ posts i history
  pub told : outs journal ≡ receives i history
  pub caused : AreCaused i journal [] history

-- so has each isolate of the script
abbrev pub AllHaveDone : HostScript → List Event → List (List Entry) → Type 0
AllHaveDone script history journals =
    (i limit : ℕ) → LimitIs script i limit → HasDone i limit history (journal_at journals i)

-- where the host is finished, with one journal an isolate, and each isolate has done all that was posted to it,
-- what is kept is the record of one whole run
abbrev pub FinishesLawful : HostScript → Type 0
FinishesLawful script =
    (stand : Stand) (journals : List (List Entry)) → HostRun script stand → is_finished stand ≡ true
    → length journals ≡ length script.isolates → AllHaveDone script stand.history journals
    → IsLawful script (record { host = stand.history; isolates = journals })

-- ---- on the way

-- the isolate of a task that is posted is one of the script's
abbrev pub PostsToItsOwn : HostScript → Type 0
PostsToItsOwn script =
    (stand : Stand) (i : ℕ) (task : Task) → HostRun script stand → (turn stand).0 ≡ Post i task
    → i < length script.isolates

-- and so is that of a stop that is asked for
abbrev pub AsksItsOwn : HostScript → Type 0
AsksItsOwn script =
    (stand : Stand) (i : ℕ) → HostRun script stand → (turn stand).0 ≡ Ask i → i < length script.isolates

-- each out of a journal that replays may be received
abbrev pub MayReceiveEach : HostScript → Type 0
MayReceiveEach script =
    (i limit : ℕ) (journal : List Entry) (out : Out) → i < length script.isolates
    → Replays i limit journal → Contains (outs journal) out → MayReceive script i out
