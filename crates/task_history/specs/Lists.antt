-- The lists that a journal and a host history are.
-- This project's own; docs/FORMATS.md, "Journals".
use Rattle.std.specs.Prelude.{ℕ, ◌+◌, List, [], ◌∷◌, Bool, true, false, ◌==◌, ◌||◌, length, if◌then◌else◌, Option, None, Some, slice_index_or}
use Rattle.std.specs.List.{flat_map, list_any}
use Rattle.task_history.specs.declared.task.Task.{Task}
use Rattle.task_history.specs.declared.outcome.Outcome.{Outcome}
use Rattle.task_history.specs.declared.outcome.Outcome.TheVariants as outcome
use Rattle.task_history.specs.declared.outcome.Out.{Out}
use Rattle.task_history.specs.declared.outcome.Out.TheVariants.{Call, Log, AskTable, Reply}
use Rattle.task_history.specs.declared.record.Entry.{Entry}
use Rattle.task_history.specs.declared.record.Event.{Event}
use Rattle.task_history.specs.declared.record.Event.TheVariants.{Post, Recv, Ask, Release, Settle}
use Rattle.task_history.specs.declared.record.Record.{Record}

-- a value, if there is one, as a list
abbrev pub listed : {A : Type 0} → Option A → List A
listed None = []
listed (Some x) = x ∷ []

-- ---- journals

-- the tasks of the entries that have one, in order
abbrev pub tasks : List Entry → List Task
tasks journal = flat_map (λ entry. listed entry.task) journal

-- the outs of all entries, in order
abbrev pub outs : List Entry → List Out
outs journal = flat_map (λ entry. entry.outs) journal

-- the journal of isolate i; empty where there is none
abbrev pub journal_at : List (List Entry) → ℕ → List Entry
journal_at journals i = slice_index_or journals i []

-- the outcome ends its isolate, or tells that it has ended
abbrev pub is_disposal : Outcome → Bool
is_disposal (outcome.Context context row) = false
is_disposal (outcome.Script script) = false
is_disposal (outcome.Passed value) = false
is_disposal outcome.Done = false
is_disposal (outcome.Throw copy) = false
is_disposal (outcome.Syntax refusal) = false
is_disposal (outcome.Timeout ticks) = false
is_disposal (outcome.MemoryLimit told) = true
is_disposal (outcome.Disposed by) = true
is_disposal outcome.WrongIsolate = false
is_disposal outcome.NotTransferable = false
is_disposal (outcome.NotCopyable kind) = false

-- some entry holds a disposal
abbrev pub has_disposal : List Entry → Bool
has_disposal journal = list_any (λ entry. is_disposal entry.outcome) journal

-- ---- outs

-- the calls that replies answer, in the order of the replies; a reply to a task without a call has none
abbrev pub reply_of : Out → List (Option ℕ)
reply_of (Call promise to budget act) = []
reply_of (Log callback args) = []
reply_of (AskTable callback promise key) = []
reply_of (Reply call outcome) = call ∷ []

abbrev pub replies : List Out → List (Option ℕ)
replies outs = flat_map reply_of outs

-- a reply that tells a disposal
abbrev pub tells_disposal : Out → Bool
tells_disposal (Call promise to budget act) = false
tells_disposal (Log callback args) = false
tells_disposal (AskTable callback promise key) = false
tells_disposal (Reply call outcome) = is_disposal outcome

-- ---- host histories

abbrev pub post_of : ℕ → Event → List Task
post_of i (Post j task) = if i == j then task ∷ [] else []
post_of i (Recv j out) = []
post_of i (Ask j) = []
post_of i (Release call) = []
post_of i (Settle call how) = []

abbrev pub receive_of : ℕ → Event → List Out
receive_of i (Post j task) = []
receive_of i (Recv j out) = if i == j then out ∷ [] else []
receive_of i (Ask j) = []
receive_of i (Release call) = []
receive_of i (Settle call how) = []

abbrev pub ask_of : ℕ → Event → List ℕ
ask_of i (Post j task) = []
ask_of i (Recv j out) = []
ask_of i (Ask j) = if i == j then j ∷ [] else []
ask_of i (Release call) = []
ask_of i (Settle call how) = []

-- the tasks that were posted to isolate i, in order
abbrev pub posts : ℕ → List Event → List Task
posts i history = flat_map (post_of i) history

-- the outs that were received from isolate i, in order
abbrev pub receives : ℕ → List Event → List Out
receives i history = flat_map (receive_of i) history

-- the times that isolate i was asked to stop
abbrev pub asks : ℕ → List Event → List ℕ
asks i history = flat_map (ask_of i) history

-- the event shows that isolate i was asked to stop
abbrev pub asks_it : ℕ → Event → Bool
asks_it i (Post j task) = false
asks_it i (Recv j out) = false
asks_it i (Ask j) = i == j
asks_it i (Release call) = false
asks_it i (Settle call how) = false

-- the event shows that isolate i has ended
abbrev pub tells_end : ℕ → Event → Bool
tells_end i (Post j task) = false
tells_end i (Recv j out) = if i == j then tells_disposal out else false
tells_end i (Ask j) = false
tells_end i (Release call) = false
tells_end i (Settle call how) = false

abbrev pub is_asked : ℕ → List Event → Bool
is_asked i history = list_any (asks_it i) history

abbrev pub has_ended : ℕ → List Event → Bool
has_ended i history = list_any (tells_end i) history

-- isolate i was asked to stop or has told its end
abbrev pub is_gone : ℕ → List Event → Bool
is_gone i history = is_asked i history || has_ended i history

-- ---- records

abbrev pub empty_record : Record
empty_record = record { host = []; isolates = [] }
