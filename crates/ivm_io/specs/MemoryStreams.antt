-- A source and a sink in memory: what they hold, and which of their calls fail.
-- This project's own; docs/HOST.md, "Bytes in and out".
use Rattle.std.specs.Prelude.{◌&&◌, ℕ, ◌+◌, ◌-◌, ◌^◌, Bool, List, nat_lt, nat_eq}
use Rattle.std.specs.List.{list_any}
use Rattle.ivm_io.specs.Causes.{counted}

-- bytes: those still to be read, or those written so far
-- failing: the numbers of the calls that are to fail, the first call being 1
-- calls, faults: how many calls there were and how many of them failed; both stop at 2^64 - 1
pub record MemoryStream : Type 0 where
  pub bytes : List ℕ
  pub failing : List ℕ
  pub calls : ℕ
  pub faults : ℕ

-- before the first call
abbrev pub fresh : List ℕ → List ℕ → MemoryStream
fresh bytes failing = record { bytes = bytes; failing = failing; calls = 0; faults = 0 }

-- the next call is one of those that are to fail; one that finds the count of calls at its end isn't
abbrev pub fails_next : MemoryStream → Bool
fails_next s = nat_lt s.calls (2 ^ 64 - 1) && list_any (λ n. nat_eq n (s.calls + 1)) s.failing

-- after a call that failed: the bytes are as before
abbrev pub after_failure : MemoryStream → MemoryStream
after_failure s = record s { calls = counted s.calls; faults = counted s.faults }

-- after a call that didn't fail and left these bytes
abbrev pub after_call : MemoryStream → List ℕ → MemoryStream
after_call s bytes = record s { bytes = bytes; calls = counted s.calls }
