-- The report of a record.
-- This project's own; docs/FORMATS.md, "The report".
use Rattle.std.specs.Prelude.{ℕ, ◌+◌, List, [], ◌∷◌, ◌++◌, Bool, false, ◌==◌, nat_le, position, slice_get, codes, if◌then◌else◌, Option, None, Some}
use Rattle.std.specs.Option.{option_map_or}
use Rattle.ivm_text.specs.Text.{utf8_of}
use Rattle.ivm_text.specs.declared.copies.Want.{Want}
use Rattle.ivm_text.specs.declared.copies.Want.TheVariants.{Value}
use Rattle.task_history.specs.Lists.{is_disposal, journal_at}
use Rattle.task_history.specs.declared.record.Entry.{Entry}
use Rattle.task_history.specs.declared.record.Event.{Event}
use Rattle.task_history.specs.declared.record.Record.{Record}
use Rattle.task_history.specs.declared.record.Settlement.{Settlement}
use Rattle.task_history.specs.declared.record.Settlement.TheVariants as how
use Rattle.host_syntax.specs.declared.script.HostScript.{HostScript}
use Rattle.host_syntax.specs.declared.script.Command.{Command}
use Rattle.host_syntax.specs.declared.script.What.{What}
use Rattle.host_syntax.specs.declared.script.What.TheVariants as what
use Rattle.host_meaning.specs.Machine.{most_calls}
use Rattle.host_meaning.specs.Settlement.{settlement_of}
use Rattle.ivm_report.specs.Outcomes.{outcome_text, own_text}

-- the place of a journal's first disposal, if it has one
abbrev pub first_disposal : List Entry → Option ℕ
first_disposal journal = position (λ (entry : Entry). is_disposal entry.outcome) journal

abbrev pub is_at : ℕ → Option ℕ → Bool
is_at place found = option_map_or (λ n. n == place) found false

-- what entry p of a journal says of its call; no run settles a call by an entry that isn't there
abbrev pub entry_text : Want → List Entry → ℕ → List ℕ
entry_text want journal p =
    option_map_or (λ (entry : Entry). outcome_text want (is_at p (first_disposal journal)) entry.ticks entry.outcome)
    (slice_get journal p) (codes "no entry")

-- a call that no settlement was noted for: a disposal was done, since the ask itself settles it, and
-- any other call, of which a run that is done leaves none, is told as it stands
abbrev pub unsettled_text : What → List ℕ
unsettled_text what.Declare = codes "not settled"
unsettled_text (what.Context isolate) = codes "not settled"
unsettled_text (what.Eval context budget want text) = codes "not settled"
unsettled_text (what.Get target key want) = codes "not settled"
unsettled_text (what.Set target key value) = codes "not settled"
unsettled_text (what.Dispose isolate) = codes "done"
unsettled_text (what.Wait target) = codes "not settled"

-- how the result of a command is wanted
abbrev pub want_of : What → Want
want_of what.Declare = Value
want_of (what.Context isolate) = Value
want_of (what.Eval context budget want text) = want
want_of (what.Get target key want) = want
want_of (what.Set target key value) = Value
want_of (what.Dispose isolate) = Value
want_of (what.Wait target) = Value

-- what is said of a call: by the entry of its run, by the host itself, or where nothing was noted
abbrev pub settlement_text : What → List (List Entry) → Option Settlement → List ℕ
settlement_text what journals None = unsettled_text what
settlement_text what journals (Some (how.Own own)) = own_text own
settlement_text what journals (Some (how.Entry i p)) = entry_text (want_of what) (journal_at journals i) p

-- what is said of the call after n others: it has number n, where that can be drawn
abbrev pub call_text : Record → What → ℕ → List ℕ
call_text kept what n =
    if nat_le most_calls n then codes "too many calls"
    else settlement_text what kept.isolates (settlement_of n kept.host)

-- one line a call
abbrev pub line_of : List ℕ → List ℕ → List ℕ
line_of label text = utf8_of label ++ codes ": " ++ text ++ 10 ∷ []

-- the line of a command that comes after n calls; one without a label is no call and has none
abbrev pub command_text : Record → ℕ → What → Option (List ℕ) → List ℕ
command_text kept n what None = []
command_text kept n what (Some label) = line_of label (call_text kept what n)

abbrev pub calls_in : Option (List ℕ) → ℕ
calls_in None = 0
calls_in (Some label) = 1

-- the lines of these commands, after n calls
abbrev pub lines_of : Record → ℕ → List Command → List ℕ
lines_of kept n [] = []
lines_of kept n (command ∷ commands) = command_text kept n command.what command.label ++ lines_of kept (n + calls_in command.label) commands

-- the lines of the script's calls, in its order
abbrev pub report_of : HostScript → Record → List ℕ
report_of script kept = lines_of kept 0 script.commands
