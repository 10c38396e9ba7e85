-- A form that is taken off lowers the rank.
use Rattle.std.proofs.Common.{◌≡◌, ℕ, ◌+◌, ◌*◌, ◌≤◌, ◌<◌, ◌⊎◌, inr, List, [], ◌∷◌, ◌++◌, length, Result, Ok, Err, refl, arith, subst, length-append}
use Rattle.std.specs.Prelude.{IfOk}
use Rattle.ivm_text.specs.declared.fault.NoMemory.{NoMemory}
use Rattle.script_meaning.specs.declared.completion.Abrupt.{Abrupt}
use Rattle.script_meaning.specs.declared.completion.Abrupt.TheVariants as abrupt
use Rattle.script_meaning.specs.declared.completion.Ended.{Ended}
use Rattle.script_steps.specs.declared.frame.Frame.{Frame}
use Rattle.script_steps.specs.declared.frame.Step.{Step}
use Rattle.script_steps.specs.declared.frame.Step.TheVariants as step
use Rattle.script_eval.specs.declared.machine.Control.{Control}
use Rattle.script_eval.specs.declared.machine.Control.TheVariants as control
use Rattle.script_eval.specs.Weight.{end_rank, rank, step_rank, weight, IsLast, IsRunning}

pub end_rank-most : (r : Result Ended Abrupt) (n : ℕ) → end_rank r n ≤ 2 * n + 2
end_rank-most (Ok end) n = omega arith
end_rank-most (Err (abrupt.Throw v)) n = omega arith
end_rank-most (Err (abrupt.Return v)) n = omega arith
end_rank-most (Err (abrupt.Break v)) n = omega arith
end_rank-most (Err (abrupt.Continue v)) n = omega arith
end_rank-most (Err (abrupt.Stop cause)) n = omega arith
end_rank-most (Err abrupt.NoMemory) n = omega arith

pub step_rank-most : (s : Step) (fs : List Frame) → step_rank s fs ≤ 2 * length fs + 3
step_rank-most (step.Ended r) fs = omega (arith, end_rank-most r (length fs))
step_rank-most (step.Into waiting inner) fs = omega arith
step_rank-most (step.Builtin which receiver arguments) fs = omega arith

pub rank-ended : (r : Result Ended Abrupt) (fs : List Frame) → IsRunning (control.Ended r) → rank (control.Ended r) fs ≡ 2 * length fs + 2
rank-ended (Ok end) fs running = refl
rank-ended (Err (abrupt.Throw v)) fs running = refl
rank-ended (Err (abrupt.Return v)) fs running = refl
rank-ended (Err (abrupt.Break v)) fs running = refl
rank-ended (Err (abrupt.Continue v)) fs running = refl
rank-ended (Err (abrupt.Stop cause)) fs running = absurd running
rank-ended (Err abrupt.NoMemory) fs running = refl

-- a form that goes on is nearer to the end
pub goes_on : (given : Result Control NoMemory) (after : List Frame) (later left : ℕ) (st : Step) (next : Control) (r : Result Ended Abrupt) (all fs : List Frame) (f : Frame)
    → next ≡ control.Ended r → IsRunning next → all ≡ fs ++ f ∷ []
    → IfOk given (λ end. weight end after later ≤ 1024 * left + step_rank st fs)
    → IfOk given (λ end. IsLast next all ⊎ (weight end after later < weight next all left))
goes_on (Ok end) after later left st next r all fs f is running put most =
    let running' : IsRunning (control.Ended r) = subst IsRunning is running in
    let n : length all ≡ length fs + 1 = rw put (length-append fs (f ∷ [])) in
    let w : rank next all ≡ 2 * length all + 2 = rw is (rank-ended r all running') in
    inr (omega (arith, most, n, w, step_rank-most st fs))
goes_on (Err none) after later left st next r all fs f is running put most = tt

pub ruleset ranks = (end_rank-most, step_rank-most, rank-ended)
