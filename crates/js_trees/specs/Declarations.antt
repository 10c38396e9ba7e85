-- What the statements of a list declare, in the order of the text.
-- ECMA-262, LexicallyScopedDeclarations and TopLevelLexicallyDeclaredNames; docs/SCRIPTS.md, "Names
-- that must differ".
use Rattle.std.specs.Prelude.{ℕ, List, [], ◌∷◌, ◌++◌, Option, None, Some, map}
use Rattle.js_syntax.specs.declared.kind.Kind.{Kind}
use Rattle.js_syntax.specs.declared.kind.Kind.TheVariants as kinds
use Rattle.js_syntax.specs.Tree.{Head, Trees, nothing, tree}
use Rattle.js_trees.specs.declared.declaration.Declaration.{Declaration}
use Rattle.js_trees.specs.declared.declaration.Declaration.TheVariants.{Variable, Constant, Function}

-- the function of that name, with its node, where it has one
abbrev pub function_of : Option (List ℕ) → ℕ → List Declaration
function_of None node = []
function_of (Some name) node = Function name node ∷ []

-- what one statement declares in its list
abbrev pub declared_by : Kind → Head → List Declaration
declared_by kinds.Let head = map Variable (head.names)
declared_by kinds.Const head = map Constant (head.names)
declared_by kinds.FunctionDecl head = function_of (head.name) (head.number_of_node)
declared_by kinds.Script head = []
declared_by kinds.Body head = []
declared_by kinds.Block head = []
declared_by kinds.Empty head = []
declared_by kinds.ExprStmt head = []
declared_by kinds.If head = []
declared_by kinds.While head = []
declared_by kinds.For head = []
declared_by kinds.Break head = []
declared_by kinds.Continue head = []
declared_by kinds.Return head = []
declared_by kinds.Throw head = []
declared_by kinds.Try head = []
declared_by kinds.Absent head = []
declared_by kinds.Comma head = []
declared_by kinds.Assign head = []
declared_by kinds.AssignAdd head = []
declared_by kinds.AssignSub head = []
declared_by kinds.AssignMul head = []
declared_by kinds.AssignDiv head = []
declared_by kinds.AssignRem head = []
declared_by kinds.Arrow head = []
declared_by kinds.Cond head = []
declared_by kinds.Coalesce head = []
declared_by kinds.Or head = []
declared_by kinds.And head = []
declared_by kinds.Same head = []
declared_by kinds.NotSame head = []
declared_by kinds.Less head = []
declared_by kinds.More head = []
declared_by kinds.AtMost head = []
declared_by kinds.AtLeast head = []
declared_by kinds.Add head = []
declared_by kinds.Sub head = []
declared_by kinds.Mul head = []
declared_by kinds.Div head = []
declared_by kinds.Rem head = []
declared_by kinds.Not head = []
declared_by kinds.Minus head = []
declared_by kinds.Plus head = []
declared_by kinds.TypeOf head = []
declared_by kinds.Void head = []
declared_by kinds.PreInc head = []
declared_by kinds.PreDec head = []
declared_by kinds.PostInc head = []
declared_by kinds.PostDec head = []
declared_by kinds.Member head = []
declared_by kinds.Index head = []
declared_by kinds.Call head = []
declared_by kinds.New head = []
declared_by kinds.Num head = []
declared_by kinds.Text head = []
declared_by kinds.Undefined head = []
declared_by kinds.Null head = []
declared_by kinds.True head = []
declared_by kinds.False head = []
declared_by kinds.This head = []
declared_by kinds.Name head = []
declared_by kinds.Array head = []
declared_by kinds.Object head = []
declared_by kinds.FunctionExpr head = []

-- what the statements of a list declare
abbrev pub declarations : Trees → List Declaration
declarations nothing = []
declarations (tree head kids rest) = declared_by (head.kind) head ++ declarations rest
