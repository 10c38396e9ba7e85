-- A step that ends as a call over the heap did.
use Rattle.std.proofs.Common.{◌≡◌, Result, Ok, Err, refl}
use Rattle.charged_heap.specs.Store.{Store}
use Rattle.charged_heap.specs.declared.fault.Fail.{Fail}
use Rattle.charged_heap.specs.declared.fault.Fail.TheVariants as fail
use Rattle.charged_heap.specs.declared.values.Value.{Value}
use Rattle.charged_heap.specs.Ends.{Ends, Meets}
use Rattle.script_meaning.specs.Outcome.{of_heap}
use Rattle.script_meaning.specs.Places.{ScriptList}
use Rattle.script_steps.specs.After.{Steps}
use Rattle.script_steps.specs.Ends.{end_of}
use Rattle.script_steps.specs.declared.frame.Step.{Step}
use Rattle.script_steps.specs.declared.frame.Step.TheVariants as step

-- the meaning of the step is what the call means
pub ends_so : (scripts : ScriptList) (one : Step) (given : Result Value Fail) (old new : Store) (meaning : Store → Ends Value)
    → one ≡ step.Ended (end_of given) → Meets given new (meaning old) → Steps scripts one old new (λ at s. of_heap s (meaning s.heap))
ends_so scripts one (Ok v) old new meaning is gives = λ found at left.
    let e : meaning old ≡ (Ok v, new) = gives (λ h. cc) in
    rw (is, e) refl
ends_so scripts one (Err (fail.Throw v)) old new meaning is gives = λ found at left.
    let e : meaning old ≡ (Err (fail.Throw v), new) = gives (λ h. cc) in
    rw (is, e) refl
ends_so scripts one (Err (fail.Over told)) old new meaning is gives = λ found at left.
    let e : meaning old ≡ (Err (fail.Over told), new) = gives (λ h. cc) in
    rw (is, e) refl
ends_so scripts one (Err fail.NoMemory) old new meaning is gives = λ found at left. absurd (found is)
