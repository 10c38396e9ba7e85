-- An answer, or the fault that stands in its place.
-- This project's own; docs/HOST.md, "Faults".
use Rattle.std.specs.Prelude.{◌≡◌, ℕ, Result, Ok, Err}
use Rattle.host_script.specs.declared.fault.HostFault.{HostFault}
use Rattle.host_script.specs.declared.fault.HostFault.TheVariants.{At, NoMemory}
use Rattle.host_script.specs.declared.fault.HostKind.{HostKind}

-- what follows from an answer, or the same fault
infixl 10 ◌>>=◌
abbrev pub ◌>>=◌ : {A B : Type 0} → Result A HostFault → (A → Result B HostFault) → Result B HostFault
(Ok answer) >>= next = next answer
(Err fault) >>= next = Err fault

-- line n has a fault of this kind
abbrev pub fail : {A : Type 0} → ℕ → HostKind → Result A HostFault
fail n kind = Err (At n kind)

-- a fault is the one that is meant, unless no memory was found
abbrev pub Fails : {B : Type 0} → HostFault → Result B HostFault → Type 0
Fails NoMemory meant = Unit {0}
Fails (At n kind) meant = meant ≡ Err (At n kind)

-- an answer, seen by view, is the one that is meant, and so is a fault; only the want of memory is free
abbrev pub Gives : {A B : Type 0} → (A → B) → Result A HostFault → Result B HostFault → Type 0
Gives view (Ok answer) meant = meant ≡ Ok (view answer)
Gives view (Err fault) meant = Fails fault meant
