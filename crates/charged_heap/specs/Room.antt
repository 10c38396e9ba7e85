-- When a call finds no room for what it adds.
-- This project's own; docs/PRICES.md, "When the heap is full". No statement about ECMA-262.
use Rattle.std.specs.Prelude.{◌≡◌, ℕ, ◌+◌, ◌<◌, ◌≤◌, min, Result, Ok, Err}
use Rattle.ivm_text.specs.declared.overrun.Overrun.{Overrun}
use Rattle.charged_heap.specs.declared.fault.HeapFault.{HeapFault}
use Rattle.charged_heap.specs.declared.fault.HeapFault.TheVariants.{Over, NoMemory}
use Rattle.charged_heap.specs.declared.fault.Fail.{Fail}
use Rattle.charged_heap.specs.declared.fault.Fail.TheVariants as fail
use Rattle.charged_heap.specs.declared.price.TheConstants.{GREATEST_TOLD}
use Rattle.charged_heap.specs.Store.{Store}
use Rattle.charged_heap.specs.Price.{charge_of}

-- so many more cells stay within the limit
abbrev pub Fits : Store → ℕ → Type 0
Fits s asked = charge_of s.items + asked ≤ s.limit

-- what is told where they don't: the charge, the cells asked and the limit
abbrev pub overrun_of : Store → ℕ → Overrun
overrun_of s asked = record { charged = charge_of s.items; asked = min asked GREATEST_TOLD; limit = s.limit }

-- they don't, and a refusal tells these numbers
pub record IsOver (s : Store) (asked : ℕ) (told : Overrun) : Type 0 where
  pub over : s.limit < charge_of s.items + asked
  pub numbers : told ≡ overrun_of s asked

-- a call that asks for so many cells answers `Over` exactly where they don't fit
abbrev pub AsksFor : {T : Type 0} → Store → ℕ → Result T HeapFault → Type 0
AsksFor s asked (Ok value) = Fits s asked
AsksFor s asked (Err NoMemory) = Fits s asked
AsksFor s asked (Err (Over told)) = IsOver s asked told

-- the same of a call that takes no memory
abbrev pub AsksOnly : {T : Type 0} → Store → ℕ → Result T HeapFault → Type 0
AsksOnly s asked (Ok value) = Fits s asked
AsksOnly s asked (Err NoMemory) = ⊥
AsksOnly s asked (Err (Over told)) = IsOver s asked told

-- the heap's fault as one of an operation
abbrev pub fail_of : HeapFault → Fail
fail_of (Over told) = fail.Over told
fail_of NoMemory = fail.NoMemory
