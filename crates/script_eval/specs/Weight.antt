-- How far a machine is from its end. No caller needs this.
-- This project's own; docs/SCRIPTS.md, "Evaluation".
use Rattle.std.specs.Prelude.{◌≡◌, ℕ, ◌+◌, ◌*◌, List, length, Result, Ok, Err}
use Rattle.script_meaning.specs.declared.completion.Abrupt.{Abrupt}
use Rattle.script_meaning.specs.declared.completion.Abrupt.TheVariants as abrupt
use Rattle.script_meaning.specs.declared.completion.Ended.{Ended}
use Rattle.script_steps.specs.declared.frame.Frame.{Frame}
use Rattle.script_steps.specs.declared.frame.Step.{Step}
use Rattle.script_steps.specs.declared.frame.Step.TheVariants as step
use Rattle.script_eval.specs.declared.machine.Control.{Control}
use Rattle.script_eval.specs.declared.machine.Control.TheVariants as control

-- a stop ends at once, and each waiting form takes at most two steps
abbrev pub end_rank : Result Ended Abrupt → ℕ → ℕ
end_rank (Ok end) n = 2 * n + 2
end_rank (Err (abrupt.Throw v)) n = 2 * n + 2
end_rank (Err (abrupt.Return v)) n = 2 * n + 2
end_rank (Err (abrupt.Break v)) n = 2 * n + 2
end_rank (Err (abrupt.Continue v)) n = 2 * n + 2
end_rank (Err (abrupt.Stop cause)) n = 0
end_rank (Err abrupt.NoMemory) n = 2 * n + 2

abbrev pub rank : Control → List Frame → ℕ
rank (control.Node inner) frames = 2 * length frames + 1
rank (control.Ended end) frames = end_rank end (length frames)

-- the rank at most, where a step has been placed
abbrev pub step_rank : Step → List Frame → ℕ
step_rank (step.Ended end) frames = end_rank end (length frames)
step_rank (step.Into waiting inner) frames = 2 * length frames + 3
step_rank (step.Builtin which receiver arguments) frames = 2 * length frames + 2

-- a tick outweighs all that at most 256 waiting forms do without one
abbrev pub weight : Control → List Frame → ℕ → ℕ
weight next frames left = 1024 * left + rank next frames

-- ---- kinds of steps and of ends

-- a step that lets no form wait
abbrev pub IsEnded : Step → Type 0
IsEnded (step.Ended end) = Unit {0}
IsEnded (step.Into waiting inner) = ⊥
IsEnded (step.Builtin which receiver arguments) = Unit {0}

-- a step that ends the whole run
abbrev pub IsStop : Step → Type 0
IsStop (step.Ended (Err (abrupt.Stop cause))) = Unit {0}
IsStop _ = ⊥

-- the run was not stopped
abbrev pub IsRunning : Control → Type 0
IsRunning (control.Ended (Err (abrupt.Stop cause))) = ⊥
IsRunning _ = Unit {0}

-- nothing is left to do
abbrev pub IsLast : Control → List Frame → Type 0
IsLast (control.Node inner) frames = ⊥
IsLast (control.Ended end) frames = length frames ≡ 0
