-- The exit status of the program for each status of the call.
-- This project's own; docs/HOST.md, "Exit statuses".
use Rattle.std.specs.Prelude.{ℕ}
use Rattle.ivm_cli.specs.declared.status.Status.{Status}
use Rattle.ivm_cli.specs.declared.status.Status.TheVariants.{Done, Usage, BadHost, ReadFault, WriteFault, NoMemory}

abbrev pub exit_code : Status → ℕ
exit_code Done = 0
exit_code Usage = 2
exit_code BadHost = 3
exit_code ReadFault = 4
exit_code WriteFault = 5
exit_code NoMemory = 6
