-- The events of a host beside the tallies of its isolates. No caller needs this.
-- This project's own; docs/HOST.md, "What the host does".
use Rattle.std.specs.Prelude.{◌≡◌, ℕ, ◌<◌, List, [], ◌∷◌, ◌++◌, length, Option, None, Some, slice_index_or}
use Rattle.task_history.specs.declared.record.Event.{Event}
use Rattle.task_history.specs.declared.record.Event.TheVariants.{Recv, Settle}
use Rattle.task_history.specs.declared.record.Settlement.TheVariants.{Entry}
use Rattle.task_history.specs.declared.outcome.Out.{Out}
use Rattle.host_meaning.specs.Machine.{replies_of}
use Rattle.host_machine.specs.declared.tally.Tally.{Tally}
use Rattle.host_machine.specs.Tally.{tally_of, no_tally, isolate_in}

-- for how many isolates tallies are kept, and the events
pub record Ledger : Type 0 where
  pub isolates : ℕ
  pub events : List Event

-- one more event
abbrev pub with_event : Ledger → Event → Ledger
with_event ledger event = record ledger { events = ledger.events ++ event ∷ [] }

-- the receipt of a reply, and the settlement of a call by the entry whose reply it is
abbrev pub with_reply : Ledger → ℕ → Out → ℕ → Ledger
with_reply ledger i out call = with_event (with_event ledger (Recv i out)) (Settle call (Entry i (replies_of i ledger.events)))

-- an isolate has its tally, if the event is of one
abbrev pub IsWithin : ℕ → Option ℕ → Type 0
IsWithin isolates None = Unit {0}
IsWithin isolates (Some i) = i < isolates

-- the tally at place i is what the history shows of isolate i
abbrev pub AreTallies : List Tally → List Event → Type 0
AreTallies tallies history = (i : ℕ) → i < length tallies → slice_index_or tallies i no_tally ≡ tally_of i history
