-- Which forms wait in a frame: each node that a frame names is a form that waits so, or a part of one.
-- This project's own; docs/SCRIPTS.md, "Evaluation".
use Rattle.std.specs.Prelude.{◌≡◌, ◌⊎◌, ℕ, None, Some, IfSome}
use Rattle.js_syntax.specs.declared.kind.Kind.{Kind}
use Rattle.js_syntax.specs.declared.kind.Kind.TheVariants as kinds
use Rattle.js_ops.specs.Operators.{operator_of}
use Rattle.js_ops.specs.declared.operators.Operator.{Operator}
use Rattle.js_ops.specs.declared.operators.Operator.TheVariants.{Binary, Update}
use Rattle.js_trees.specs.Tree.{kid}
use Rattle.script_meaning.specs.Places.{ScriptList, form_at}
use Rattle.script_steps.specs.declared.frame.Frame.{Frame}
use Rattle.script_steps.specs.declared.frame.Frame.TheVariants as frame
use Rattle.script_steps.specs.declared.frame.LoopParts.{LoopParts}
use Rattle.script_steps.specs.declared.frame.Step.{Step}
use Rattle.script_steps.specs.declared.frame.Step.TheVariants as step

-- ---- kinds

abbrev pub Is : Kind → Kind → Type 0
Is wanted kind = kind ≡ wanted

abbrev pub IsOperator : Operator → Kind → Type 0
IsOperator operator kind = operator_of kind ≡ Some operator

abbrev pub IsLogical : Kind → Type 0
IsLogical kinds.Coalesce = Unit {0}
IsLogical kinds.Or = Unit {0}
IsLogical kinds.And = Unit {0}
IsLogical _ = ⊥

-- a script, the body of a function and a block are lists of statements
abbrev pub IsList : Kind → Type 0
IsList kinds.Script = Unit {0}
IsList kinds.Body = Unit {0}
IsList kinds.Block = Unit {0}
IsList _ = ⊥

abbrev pub IsDeclaration : Kind → Type 0
IsDeclaration kinds.Let = Unit {0}
IsDeclaration kinds.Const = Unit {0}
IsDeclaration _ = ⊥

-- ---- nodes

-- node n of a script is a form of a wanted kind
abbrev pub IsForm : (Kind → Type 0) → ScriptList → ℕ → ℕ → Type 0
IsForm wanted scripts script n = wanted ((form_at scripts script n).head.kind)

-- node n of a script is part i, counted from 0, of a form of a wanted kind
pub record IsPart (wanted : Kind → Type 0) (i : ℕ) (scripts : ScriptList) (script n : ℕ) : Type 0 where
  pub whole : ℕ
  pub is_form : IsForm wanted scripts script whole
  pub is_part : form_at scripts script n ≡ kid i ((form_at scripts script whole).kids)

-- the parts of a `while`
pub record AreWhileParts (scripts : ScriptList) (script : ℕ) (parts : LoopParts) : Type 0 where
  pub test : IfSome parts.test (IsPart (Is kinds.While) 0 scripts script)
  pub body : IsPart (Is kinds.While) 1 scripts script parts.body
  pub update : parts.update ≡ None

-- the parts of a `for`; its test and its update may be left out
pub record AreForParts (scripts : ScriptList) (script : ℕ) (parts : LoopParts) : Type 0 where
  pub test : IfSome parts.test (IsPart (Is kinds.For) 1 scripts script)
  pub update : IfSome parts.update (IsPart (Is kinds.For) 2 scripts script)
  pub body : IsPart (Is kinds.For) 3 scripts script parts.body

abbrev pub AreLoopParts : ScriptList → ℕ → LoopParts → Type 0
AreLoopParts scripts script parts = AreWhileParts scripts script parts ⊎ AreForParts scripts script parts

-- ---- frames

abbrev pub FrameFits : ScriptList → Frame → Type 0
FrameFits scripts frame.Pass = Unit {0}
FrameFits scripts (frame.Comma right site) = IsPart (Is kinds.Comma) 1 scripts site.script right
FrameFits scripts (frame.Left operator right site) = IsPart (IsOperator (Binary operator)) 1 scripts site.script right
FrameFits scripts (frame.Right operator left) = Unit {0}
FrameFits scripts (frame.Operand operator) = Unit {0}
FrameFits scripts (frame.TypeOfPlace site) = Unit {0}
FrameFits scripts frame.Void = Unit {0}
FrameFits scripts (frame.Condition good bad site) =
    IsPart (Is kinds.Cond) 1 scripts site.script good × IsPart (Is kinds.Cond) 2 scripts site.script bad
FrameFits scripts (frame.Logical operator right site) = IsLogical operator × IsPart (Is operator) 1 scripts site.script right
FrameFits scripts (frame.AssignTarget right site) = IsPart (Is kinds.Assign) 1 scripts site.script right
FrameFits scripts (frame.AssignValue target site) = Unit {0}
FrameFits scripts (frame.UpdateTarget operator right site) = IsPart (IsOperator (Update operator)) 1 scripts site.script right
FrameFits scripts (frame.UpdateValue operator target old site) = Unit {0}
FrameFits scripts (frame.StepTarget operator before site) = Unit {0}
FrameFits scripts (frame.Member role node script) = (form_at scripts script node).head.kind ≡ kinds.Member
FrameFits scripts (frame.IndexObject role key site) = IsPart (Is kinds.Index) 1 scripts site.script key
FrameFits scripts (frame.IndexKey role object) = Unit {0}
FrameFits scripts (frame.Callee node site) = IsForm (Is kinds.Call) scripts site.script node
FrameFits scripts (frame.Argument node place function receiver values site) = IsForm (Is kinds.Call) scripts site.script node
FrameFits scripts frame.Body = Unit {0}
FrameFits scripts (frame.Element node place array site) = IsForm (Is kinds.Array) scripts site.script node
FrameFits scripts (frame.Property node place object site) = IsForm (Is kinds.Object) scripts site.script node
FrameFits scripts (frame.List node place last site) = IsForm IsList scripts site.script node
FrameFits scripts (frame.Declarator node place site) = IsForm IsDeclaration scripts site.script node
FrameFits scripts (frame.If good bad site) =
    IsPart (Is kinds.If) 1 scripts site.script good × IsPart (Is kinds.If) 2 scripts site.script bad
FrameFits scripts frame.Filled = Unit {0}
FrameFits scripts frame.Return = Unit {0}
FrameFits scripts (frame.LoopTest parts last site) = AreLoopParts scripts site.script parts
FrameFits scripts (frame.LoopBody parts last site) = AreLoopParts scripts site.script parts
FrameFits scripts (frame.LoopUpdate parts last site) = AreLoopParts scripts site.script parts
FrameFits scripts (frame.ForHead parts site) = AreLoopParts scripts site.script parts
FrameFits scripts frame.Throw = Unit {0}
FrameFits scripts (frame.Try node site) = IsForm (Is kinds.Try) scripts site.script node
FrameFits scripts (frame.Catch node site) = IsForm (Is kinds.Try) scripts site.script node
FrameFits scripts (frame.Finally before) = Unit {0}

-- ---- steps

-- the frame in which a form waits fits it
abbrev pub StepFits : ScriptList → Step → Type 0
StepFits scripts (step.Ended end) = Unit {0}
StepFits scripts (step.Into waiting inner) = FrameFits scripts waiting
StepFits scripts (step.Builtin which receiver arguments) = Unit {0}
