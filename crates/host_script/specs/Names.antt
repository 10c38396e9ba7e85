-- The names that the lines of a host script give, and those that they use.
-- This project's own; docs/HOST.md, "Names".
use Rattle.std.specs.Prelude.{ℕ, List, is_some, not, if◌then◌else◌, Option, None, Some, Result, Ok}
use Rattle.std.specs.Map.{lookup}
use Rattle.std.specs.Str.{bytes_eq}
use Rattle.host_script.specs.declared.fault.HostFault.{HostFault}
use Rattle.host_script.specs.declared.fault.HostKind.TheVariants.{BadName, NameTaken, UnknownName, WrongKind}
use Rattle.host_script.specs.declared.names.Named.{Named}
use Rattle.host_script.specs.declared.names.Named.TheVariants.{Isolate, Context, Call}
use Rattle.host_script.specs.Faults.{fail}
use Rattle.host_script.specs.Words.{is_name}

-- what a name stands for, by the names that the lines so far gave
unfoldable pub named : List ℕ → List (List ℕ × Named) → Option Named
named name names = lookup (bytes_eq name) names

-- a new name on line n: it has the form of a name, and no earlier line gave it
unfoldable pub new_name : ℕ → List (List ℕ × Named) → List ℕ → Result (List ℕ) HostFault
new_name n names name =
    if not (is_name name) then fail n BadName
    else if is_some (named name names) then fail n NameTaken
    else Ok name

-- the number of an isolate, where line n wants a name of one
abbrev pub isolate_among : ℕ → Option Named → Result ℕ HostFault
isolate_among n None = fail n UnknownName
isolate_among n (Some (Isolate isolate)) = Ok isolate
isolate_among n (Some (Context call)) = fail n WrongKind
isolate_among n (Some (Call call)) = fail n WrongKind

-- the number of a command that makes a context, where line n wants its label
abbrev pub context_among : ℕ → Option Named → Result ℕ HostFault
context_among n None = fail n UnknownName
context_among n (Some (Isolate isolate)) = fail n WrongKind
context_among n (Some (Context call)) = Ok call
context_among n (Some (Call call)) = fail n WrongKind

-- the number of a command that is a call, where line n wants its label
abbrev pub call_among : ℕ → Option Named → Result ℕ HostFault
call_among n None = fail n UnknownName
call_among n (Some (Isolate isolate)) = fail n WrongKind
call_among n (Some (Context call)) = Ok call
call_among n (Some (Call call)) = Ok call

-- the isolate that a word of line n names
unfoldable pub isolate_named : ℕ → List (List ℕ × Named) → List ℕ → Result ℕ HostFault
isolate_named n names name = isolate_among n (named name names)

-- the context whose label a word of line n is
unfoldable pub context_named : ℕ → List (List ℕ × Named) → List ℕ → Result ℕ HostFault
context_named n names name = context_among n (named name names)

-- the call whose label a word of line n is
unfoldable pub call_named : ℕ → List (List ℕ × Named) → List ℕ → Result ℕ HostFault
call_named n names name = call_among n (named name names)
