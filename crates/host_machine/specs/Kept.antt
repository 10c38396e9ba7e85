-- What a host keeps. No caller needs this.
-- This project's own; docs/HOST.md, "What the host does".
use Rattle.std.specs.Prelude.{◌≡◌, ℕ, length}
use Rattle.host_syntax.specs.declared.script.HostScript.{HostScript}
use Rattle.host_syntax.specs.Whole.{IsWhole}

-- the script is whole, and each of its isolates has its tally
pub record IsKept (script : HostScript) (tallies : ℕ) : Type 0 where
  pub whole : IsWhole script
  pub each : tallies ≡ length script.isolates
