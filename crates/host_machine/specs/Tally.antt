-- What the events show of one isolate, and what one more event adds to it. No caller needs this.
-- This project's own; docs/HOST.md, "What the host does".
use Rattle.std.specs.Prelude.{◌≡◌, ℕ, ◌+◌, ◌<◌, List, length, Bool, true, false, ◌||◌, Option, None, Some}
use Rattle.task_history.specs.Lists.{posts, is_asked, has_ended, is_disposal, tells_disposal}
use Rattle.task_history.specs.declared.task.Task.{Task}
use Rattle.task_history.specs.declared.outcome.Out.{Out}
use Rattle.task_history.specs.declared.outcome.Out.TheVariants.{Call, Log, AskTable, Reply}
use Rattle.task_history.specs.declared.record.Event.{Event}
use Rattle.task_history.specs.declared.record.Event.TheVariants.{Post, Recv, Ask, Release, Settle}
use Rattle.host_meaning.specs.Machine.{replies_of}
use Rattle.host_machine.specs.declared.tally.Tally.{Tally}

-- what a history shows of isolate i
abbrev pub tally_of : ℕ → List Event → Tally
tally_of i history = record { posts = length (posts i history); replies = replies_of i history; asked = is_asked i history; ended = has_ended i history }

-- the tally without any event
abbrev pub no_tally : Tally
no_tally = record { posts = 0; replies = 0; asked = false; ended = false }

-- the isolate that an event is of
abbrev pub isolate_in : Event → Option ℕ
isolate_in (Post j task) = Some j
isolate_in (Recv j out) = Some j
isolate_in (Ask j) = Some j
isolate_in (Release call) = None
isolate_in (Settle call how) = None

-- one more out of the isolate
abbrev pub heard : Out → Tally → Tally
heard (Call promise to budget act) tally = tally
heard (Log callback args) tally = tally
heard (AskTable callback promise key) tally = tally
heard (Reply call outcome) tally = record tally { replies = tally.replies + 1; ended = tally.ended || is_disposal outcome }

-- one more event of the isolate
abbrev pub noted : Event → Tally → Tally
noted (Post j task) tally = record tally { posts = tally.posts + 1 }
noted (Recv j out) tally = heard out tally
noted (Ask j) tally = record tally { asked = true }
noted (Release call) tally = tally
noted (Settle call how) tally = tally
