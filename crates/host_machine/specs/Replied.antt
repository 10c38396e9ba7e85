-- The reply to a call. No caller needs this.
-- This project's own; docs/HOST.md, "What becomes of a call".
use Rattle.std.specs.Prelude.{ℕ, [], ◌∷◌, ◌++◌, Option, None, Some, slice_set, if◌then◌else◌}
use Rattle.task_history.specs.declared.outcome.Out.{Out}
use Rattle.task_history.specs.declared.outcome.Out.TheVariants.{Call, Log, AskTable, Reply}
use Rattle.task_history.specs.declared.record.Event.TheVariants.{Recv, Settle}
use Rattle.task_history.specs.declared.record.Settlement.TheVariants.{Entry}
use Rattle.host_meaning.specs.declared.moves.Held.{Held}
use Rattle.host_meaning.specs.Stand.{Stand}
use Rattle.host_meaning.specs.Machine.{held_by, hearing, is_open, replies_of}

-- the call that an out answers, with what the settlement by its outcome holds
abbrev pub answer_in : Out → Option (ℕ × Held)
answer_in (Call promise to budget act) = None
answer_in (Log callback args) = None
answer_in (AskTable callback promise key) = None
answer_in (Reply None outcome) = None
answer_in (Reply (Some n) outcome) = Some (n, held_by outcome)

-- the receipt, and the settlement of call n, which holds this, by the entry whose reply it is
abbrev pub settling_with : Stand → ℕ → Out → ℕ → Held → Stand
settling_with stand i out n held = record stand {
  calls = slice_set stand.calls n (Some held);
  history = stand.history ++ Recv i out ∷ Settle n (Entry i (replies_of i stand.history)) ∷ [];
}

-- a reply settles its call where that is open
abbrev pub replied : Stand → ℕ → Out → ℕ → Held → Stand
replied stand i out n held = if is_open stand n then settling_with stand i out n held else hearing stand i out
