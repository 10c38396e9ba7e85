-- The names that a host script gives.
-- This project's own; docs/HOST.md, "Names".
use Rattle.std.specs.Prelude.{ℕ, List, ◌++◌, map, IsTrue}
use Rattle.std.specs.List.{filter_map, AllByRecursion, IsDistinct}
use Rattle.std.specs.Str.{bytes_eq}
use Rattle.host_syntax.specs.declared.script.HostScript.{HostScript}
use Rattle.host_syntax.specs.declared.script.IsolateDecl.{IsolateDecl}
use Rattle.host_syntax.specs.declared.script.Command.{Command}
use Rattle.host_script.specs.Words.{is_name}

-- the names that a script gives: those of its isolates, and the labels of its commands
abbrev pub names_of : HostScript → List (List ℕ)
names_of script = map (λ (decl : IsolateDecl). decl.name) script.isolates ++ filter_map (λ (command : Command). command.label) script.commands

-- all of them have the form of a name, and all are different
pub record HasNames (script : HostScript) : Type 0 where
  pub names : AllByRecursion (λ name. IsTrue (is_name name)) (names_of script)
  pub distinct : IsDistinct bytes_eq (names_of script)
