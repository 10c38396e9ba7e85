-- Groups of forms by what comes first in them, and groups of frames by the end that they wait for. No caller needs this.
-- This project's own: the ways by which the steps choose; docs/SCRIPTS.md, "Evaluation".
use Rattle.js_syntax.specs.declared.kind.Kind.{Kind}
use Rattle.js_syntax.specs.declared.kind.Kind.TheVariants as kinds
use Rattle.script_steps.specs.declared.frame.Frame.{Frame}
use Rattle.script_steps.specs.declared.frame.Frame.TheVariants as frame

-- ---- forms

-- an expression that makes and reads nothing before a node inside it was evaluated, or a form that is no expression
abbrev pub BeginsInside : Kind → Type 0
BeginsInside kinds.Num = ⊥
BeginsInside kinds.Text = ⊥
BeginsInside kinds.Undefined = ⊥
BeginsInside kinds.Null = ⊥
BeginsInside kinds.True = ⊥
BeginsInside kinds.False = ⊥
BeginsInside kinds.This = ⊥
BeginsInside kinds.Name = ⊥
BeginsInside kinds.Arrow = ⊥
BeginsInside kinds.FunctionExpr = ⊥
BeginsInside kinds.Array = ⊥
BeginsInside kinds.Object = ⊥
BeginsInside _ = Unit {0}

-- ---- frames

-- the form makes an end of its own of every end inside it, of abrupt ones too
abbrev pub TakesAnyEnd : Frame → Type 0
TakesAnyEnd frame.Body = Unit {0}
TakesAnyEnd (frame.List _ _ _ _) = Unit {0}
TakesAnyEnd frame.Filled = Unit {0}
TakesAnyEnd (frame.LoopBody _ _ _) = Unit {0}
TakesAnyEnd (frame.ForHead _ _) = Unit {0}
TakesAnyEnd (frame.Try _ _) = Unit {0}
TakesAnyEnd (frame.Catch _ _) = Unit {0}
TakesAnyEnd (frame.Finally _) = Unit {0}
TakesAnyEnd _ = ⊥

-- the form waits for a place
abbrev pub TakesPlace : Frame → Type 0
TakesPlace (frame.TypeOfPlace _) = Unit {0}
TakesPlace (frame.AssignTarget _ _) = Unit {0}
TakesPlace (frame.UpdateTarget _ _ _) = Unit {0}
TakesPlace (frame.StepTarget _ _ _) = Unit {0}
TakesPlace _ = ⊥

-- the form waits for the operand of an operator, or for all that it comes to
abbrev pub TakesOperand : Frame → Type 0
TakesOperand frame.Pass = Unit {0}
TakesOperand (frame.Comma _ _) = Unit {0}
TakesOperand (frame.Left _ _ _) = Unit {0}
TakesOperand (frame.Right _ _) = Unit {0}
TakesOperand (frame.Operand _) = Unit {0}
TakesOperand frame.Void = Unit {0}
TakesOperand (frame.Condition _ _ _) = Unit {0}
TakesOperand (frame.Logical _ _ _) = Unit {0}
TakesOperand _ = ⊥
