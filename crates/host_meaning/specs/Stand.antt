-- Where the host stands in its script, and what it has noted.
-- This project's own; docs/HOST.md, "What the host does".
use Rattle.std.specs.Prelude.{ℕ, List, [], length, Option, None, Some, Bool, true, false, slice_index_or}
use Rattle.std.specs.List.{list_all}
use Rattle.std.specs.Option.{option_map_or}
use Rattle.task_history.specs.declared.record.Event.{Event}
use Rattle.host_syntax.specs.declared.script.HostScript.{HostScript}
use Rattle.host_meaning.specs.declared.moves.Held.{Held}

-- the script; for each command that is done the number that it drew, if it drew one;
-- for each number what its settlement holds, once it is settled; the numbers of the disposals that were done; the events
pub record Stand : Type 0 where
  pub script : HostScript
  pub numbers : List (Option ℕ)
  pub calls : List (Option Held)
  pub stops : List ℕ
  pub history : List Event

-- before the first command
abbrev pub beginning : HostScript → Stand
beginning script = record { script = script; numbers = []; calls = []; stops = []; history = [] }

-- the commands that are done, and the numbers that were drawn
abbrev pub place : Stand → ℕ
place stand = length stand.numbers

abbrev pub drawn : Stand → ℕ
drawn stand = length stand.calls

-- ---- settled

abbrev pub is_there : Option Held → Bool
is_there None = false
is_there (Some held) = true

-- number n was drawn and is settled
abbrev pub is_settled : Stand → ℕ → Bool
is_settled stand n = is_there (slice_index_or stand.calls n None)

-- every number that was drawn is settled
abbrev pub all_settled : Stand → Bool
all_settled stand = list_all is_there stand.calls

-- the number of the call of command k; a call that drew none was refused for that
abbrev pub number_of : Stand → ℕ → Option ℕ
number_of stand k = slice_index_or stand.numbers k None

-- the call of command k is settled
abbrev pub is_label_settled : Stand → ℕ → Bool
is_label_settled stand k = option_map_or (is_settled stand) (number_of stand k) true

-- ---- held

abbrev pub held_of : Stand → Option ℕ → Option Held
held_of stand None = None
held_of stand (Some n) = slice_index_or stand.calls n None

-- what the settlement of command k's call holds
abbrev pub held_at : Stand → ℕ → Option Held
held_at stand k = held_of stand (number_of stand k)
