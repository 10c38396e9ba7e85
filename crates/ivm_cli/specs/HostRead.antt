-- What reading a host script gives. No caller needs this.
-- This project's own; docs/CLAIMS.md, "The top call".
use Rattle.std.specs.Prelude.{◌≡◌, ℕ, List, Ok, Err}
use Rattle.host_script.specs.HostText.{host_of}
use Rattle.host_syntax.specs.Whole.{IsWhole}
use Rattle.host_script.specs.declared.fault.HostFault.TheVariants.{At}
use Rattle.ivm_cli.specs.declared.call.HostRead.{HostRead}
use Rattle.ivm_cli.specs.declared.call.HostRead.TheVariants.{Script, Fault}

-- the script of these bytes, or their fault
abbrev pub IsHostRead : List ℕ → HostRead → Type 0
IsHostRead bytes (Script script) = (host_of bytes ≡ Ok script) × IsWhole script
IsHostRead bytes (Fault line kind) = host_of bytes ≡ Err (At line kind)
