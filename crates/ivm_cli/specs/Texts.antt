-- The texts that the program writes beside reports.
-- This project's own; docs/HOST.md, "Exit statuses" and "Faults".
use Rattle.std.specs.Prelude.{ℕ, List, [], ◌∷◌, ◌++◌, codes}
use Rattle.std.specs.Fmt.{decimal}
use Rattle.host_script.specs.declared.fault.HostKind.{HostKind}
use Rattle.host_script.specs.declared.fault.HostKind.TheVariants as kind

abbrev pub usage_line : List ℕ
usage_line = codes "usage: ivm run" ++ 10 ∷ []

abbrev pub kind_name : HostKind → List ℕ
kind_name kind.TooLong = codes "TooLong"
kind_name kind.BadUtf8 = codes "BadUtf8"
kind_name kind.UnknownCommand = codes "UnknownCommand"
kind_name kind.OpenText = codes "OpenText"
kind_name kind.BadWords = codes "BadWords"
kind_name kind.BadName = codes "BadName"
kind_name kind.NameTaken = codes "NameTaken"
kind_name kind.UnknownName = codes "UnknownName"
kind_name kind.WrongKind = codes "WrongKind"
kind_name kind.BadNumber = codes "BadNumber"
kind_name kind.BadLiteral = codes "BadLiteral"
kind_name kind.TooManyIsolates = codes "TooManyIsolates"
kind_name kind.TotalCells = codes "TotalCells"

-- the one line that tells a faulty host script
abbrev pub bad_host_line : ℕ → HostKind → List ℕ
bad_host_line line kind = codes "bad host script: line " ++ decimal line ++ codes ": " ++ kind_name kind ++ 10 ∷ []
