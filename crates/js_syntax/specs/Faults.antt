-- What is an early fault of a tree, and where.
-- ECMA-262, Static Semantics: Early Errors of AssignmentExpression, UpdateExpression,
-- BreakStatement, ContinueStatement and ReturnStatement; docs/SCRIPTS.md, "Early faults".
use Rattle.std.specs.Prelude.{ℕ, Bool, true, false, ◌&&◌, not, List, [], ◌∷◌, ◌++◌, if◌then◌else◌}
use Rattle.js_syntax.specs.declared.kind.Kind.{Kind}
use Rattle.js_syntax.specs.declared.kind.Kind.TheVariants as kinds
use Rattle.js_syntax.specs.declared.around.Around.{Around}
use Rattle.js_syntax.specs.declared.fault.Fault.{Fault}
use Rattle.js_syntax.specs.declared.fault.FaultKind.TheVariants.{BadTarget, StrayBreak, StrayReturn}
use Rattle.js_syntax.specs.Names.{must_differ, may_share, twice}
use Rattle.js_syntax.specs.Order.{fault}
use Rattle.js_syntax.specs.Tree.{Head, Trees, nothing, tree}

-- ---- targets

-- an assignment, and `++` and `--`: their first part is a target
abbrev pub has_target : Kind → Bool
has_target kinds.Assign = true
has_target kinds.AssignAdd = true
has_target kinds.AssignSub = true
has_target kinds.AssignMul = true
has_target kinds.AssignDiv = true
has_target kinds.AssignRem = true
has_target kinds.PreInc = true
has_target kinds.PreDec = true
has_target kinds.PostInc = true
has_target kinds.PostDec = true
has_target _ = false

-- what can be assigned to: a name, or a member of something
abbrev pub is_target : Kind → Bool
is_target kinds.Name = true
is_target kinds.Member = true
is_target kinds.Index = true
is_target _ = false

-- a target that can't be assigned to is a fault at its place
abbrev pub bad_target : Kind → Trees → List Fault
bad_target kind nothing = []
bad_target kind (tree target parts rest) =
    if has_target kind && not (is_target (target.kind)) then fault BadTarget (target.place) ∷ [] else []

-- ---- loops and functions

-- what stands around the parts of a form: the loop that it is; the function that it is, in which no
-- loop goes on
abbrev pub within : Around → Kind → Around
within around kinds.While = record { in_function = around.in_function; in_loop = true }
within around kinds.For = record { in_function = around.in_function; in_loop = true }
within around kinds.FunctionDecl = record { in_function = true; in_loop = false }
within around kinds.FunctionExpr = record { in_function = true; in_loop = false }
within around kinds.Arrow = record { in_function = true; in_loop = false }
within around _ = around

-- a `break` or `continue` outside a loop of its function, and a `return` outside a function, are
-- faults
abbrev pub stray : Around → Kind → ℕ → List Fault
stray around kinds.Break place = if around.in_loop then [] else fault StrayBreak place ∷ []
stray around kinds.Continue place = if around.in_loop then [] else fault StrayBreak place ∷ []
stray around kinds.Return place = if around.in_function then [] else fault StrayReturn place ∷ []
stray around _ place = []

-- ---- all of them

-- the faults of a form by itself
abbrev pub own_faults : Around → Head → Trees → List Fault
own_faults around head kids =
    stray around (head.kind) (head.place)
    ++ (bad_target (head.kind) kids ++ twice (may_share (head.kind)) [] (must_differ (head.kind) head kids))

-- the faults of trees: those of each form by itself, of its parts, and of what stands behind it
abbrev pub faults_of : Around → Trees → List Fault
faults_of around nothing = []
faults_of around (tree head kids rest) =
    (own_faults around head kids ++ faults_of (within around (head.kind)) kids) ++ faults_of around rest
