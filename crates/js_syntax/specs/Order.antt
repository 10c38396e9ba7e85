-- Which of several early faults is told.
-- This project's own: a text has one refusal, the first in it; docs/SCRIPTS.md, "Early faults".
use Rattle.std.specs.Prelude.{◌≡◌, ℕ, ◌<◌, ◌⊎◌, List, slice_get, Some}
use Rattle.js_syntax.specs.declared.fault.Fault.{Fault}
use Rattle.js_syntax.specs.declared.fault.FaultKind.{FaultKind}
use Rattle.js_syntax.specs.declared.fault.FaultKind.TheVariants.{TwiceDeclared, BadTarget, StrayBreak, StrayReturn}

-- a fault of a kind at a place
abbrev pub fault : FaultKind → ℕ → Fault
fault kind place = record { kind = kind; place = place }

-- the number of the refusal
abbrev pub number_of : FaultKind → ℕ
number_of TwiceDeclared = 10
number_of BadTarget = 11
number_of StrayBreak = 12
number_of StrayReturn = 13

-- a fault is told before another where its place is lower, or its place is the same and its number
-- is lower
abbrev pub IsBefore : Fault → Fault → Type 0
IsBefore a b = (a.place < b.place) ⊎ ((a.place ≡ b.place) × (number_of (a.kind) < number_of (b.kind)))

-- the fault is one of these
abbrev pub IsOneOf : List Fault → Fault → Type 0
IsOneOf faults fault = (k : ℕ) × (slice_get faults k ≡ Some fault)

-- the fault that is told of these: it is one of them, and none of them is before it
pub record IsLeast (faults : List Fault) (fault : Fault) : Type 0 where
  pub among : IsOneOf faults fault
  pub first : (other : Fault) → IsOneOf faults other → ¬ IsBefore other fault
