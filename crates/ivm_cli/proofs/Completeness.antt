-- Where the words and the bytes are right and neither end failed, the run is done or found no memory.
use Rattle.std.proofs.Common.{◌≡◌, ◌⊎◌, inl, inr, ℕ, List, ◌++◌, length, true, Ok, Err, IsOk, IsSomeAnd, Option, Some, None, refl, sym, ap, ◌∙◌, append-nil, length-append, is_ok, arith, subst}
use Rattle.std.proofs.lemmas.Bool.{cases_lt}
use Rattle.std.specs.Io.KnownBytes.{IsAtEnd}
use Rattle.ivm_io.specs.Transfers.{Reads}
use Rattle.task_history.specs.declared.record.Record.{Record}
use Rattle.host_script.specs.HostText.{host_of}
use Rattle.host_syntax.specs.declared.script.HostScript.{HostScript}
use Rattle.host_script.specs.declared.fault.HostFault.TheVariants.{At}
use Rattle.host_script.specs.declared.fault.HostKind.{HostKind}
use Rattle.ivm_cli.proofs.HostLaws.{host_of_long}
use Rattle.ivm_cli.specs.Run.{Asks, Ends, Whole, most}
use Rattle.ivm_cli.specs.declared.status.Status.{Status}
use Rattle.ivm_cli.specs.declared.status.Status.TheVariants.{Done, Usage, BadHost, ReadFault, WriteFault, NoMemory}

-- the bytes that were read mean what all that was left means
pub meaning_of_read : (all : List ℕ) (rest : Option (List ℕ)) (bytes : List ℕ) → Reads most (Some all) rest bytes → host_of all ≡ host_of bytes
meaning_of_read all None bytes read = absurd read.consumed
meaning_of_read all (Some more) bytes read =
    elim (cases_lt most (length bytes)) [
      | inr few ↦ ap host_of (read.consumed ∙ (ap (λ l. bytes ++ l) (read.ended few) ∙ append-nil bytes))
      | inl many ↦ host_of_long all (omega (arith, ap length read.consumed, length-append bytes more)) ∙ sym (host_of_long bytes many)
    ]

-- so they have no fault where what was left is a script
pub no_fault : (left rest : Option (List ℕ)) (bytes : List ℕ) (line : ℕ) (kind : HostKind) → Reads most left rest bytes → IsSomeAnd left (λ all. IsOk (host_of all)) → host_of bytes ≡ Err (At line kind) → ⊥
no_fault None rest bytes line kind read script refused = script
no_fault (Some all) rest bytes line kind read script refused =
    let ok = subst (λ r. is_ok r ≡ true) (meaning_of_read all rest bytes read ∙ refused) script in cc

-- what is asked for is Done
pub asked_done : (left rest : Option (List ℕ)) (kept : Record) (status : Status) (text : List ℕ) → Asks true left rest kept status text → IsSomeAnd left (λ all. IsOk (host_of all)) → status ≡ Done
asked_done left rest kept Done text asks script = refl
asked_done left rest kept BadHost text asks script = absurd (no_fault left rest asks.bytes asks.line asks.kind asks.read script asks.refused)
asked_done left rest kept Usage text asks script = absurd asks
asked_done left rest kept ReadFault text asks script = absurd asks
asked_done left rest kept WriteFault text asks script = absurd asks
asked_done left rest kept NoMemory text asks script = absurd asks

-- where neither end failed, it is done or found no memory
pub complete : (left rest : Option (List ℕ)) (kept : Record) (old new : Option (List ℕ)) (status : Status) → Ends (Asks true left rest kept) old new status → IsSomeAnd left (λ all. IsOk (host_of all))
    → (status ≡ ReadFault → ⊥) → (status ≡ WriteFault → ⊥) → (status ≡ Done) ⊎ (status ≡ NoMemory)
complete left rest kept old new Done ends script reads writes = inl refl
complete left rest kept old new NoMemory ends script reads writes = inr refl
complete left rest kept old new ReadFault ends script reads writes = absurd (reads refl)
complete left rest kept old new WriteFault ends script reads writes = absurd (writes refl)
complete left rest kept old new Usage ends script reads writes = inl (asked_done left rest kept Usage ends.text ends.asked script)
complete left rest kept old new BadHost ends script reads writes = inl (asked_done left rest kept BadHost ends.text ends.asked script)

-- where the bytes that were read are a script, nothing is left
pub at_end : (left rest : Option (List ℕ)) (bytes : List ℕ) (script : HostScript) → Reads most left rest bytes → host_of bytes ≡ Ok script → IsAtEnd rest
at_end left rest bytes script read is_script =
    elim (cases_lt most (length bytes)) [
      | inr few ↦ read.ended few
      | inl many ↦ absurd (let long = host_of_long bytes many in cc)
    ]

pub done_at_end : (left rest : Option (List ℕ)) (kept : Record) (old new : Option (List ℕ)) (status : Status) → Ends (Asks true left rest kept) old new status → status ≡ Done → IsAtEnd rest
done_at_end left rest kept old new status ends e =
    let whole : Whole (Asks true left rest kept) old new Done = subst (λ s. Ends (Asks true left rest kept) old new s) e ends in
    at_end left rest whole.asked.bytes whole.asked.script whole.asked.read whole.asked.is_script
