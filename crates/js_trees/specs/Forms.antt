-- What a form of a kind has, and which kinds are functions.
-- ECMA-262, ECMAScript Language: Functions and Classes; what each kind asks for is this project's
-- own: docs/SCRIPTS.md, "Nodes and places".
use Rattle.std.specs.Prelude.{Bool, true, false, length}
use Rattle.js_syntax.specs.declared.kind.Kind.{Kind}
use Rattle.js_syntax.specs.declared.kind.Kind.TheVariants as kinds
use Rattle.js_syntax.specs.Shape.{HasName, Counts, shape_of}
use Rattle.js_trees.specs.Tree.{Tree, kid_count}

-- a form of that kind has the name, the names and the parts that the kind asks for
pub record HasForm (kind : Kind) (t : Tree) : Type 0 where
  pub name : HasName ((shape_of kind).name) ((t.head).name)
  pub names : Counts ((shape_of kind).names) (length ((t.head).names)) (length ((t.head).names))
  pub kids : Counts ((shape_of kind).kids) (length ((t.head).names)) (kid_count (t.kids))

-- a function declaration, a function expression and an arrow are functions
abbrev pub is_function_kind : Kind → Bool
is_function_kind kinds.FunctionDecl = true
is_function_kind kinds.FunctionExpr = true
is_function_kind kinds.Arrow = true
is_function_kind kinds.Script = false
is_function_kind kinds.Body = false
is_function_kind kinds.Block = false
is_function_kind kinds.Empty = false
is_function_kind kinds.Let = false
is_function_kind kinds.Const = false
is_function_kind kinds.ExprStmt = false
is_function_kind kinds.If = false
is_function_kind kinds.While = false
is_function_kind kinds.For = false
is_function_kind kinds.Break = false
is_function_kind kinds.Continue = false
is_function_kind kinds.Return = false
is_function_kind kinds.Throw = false
is_function_kind kinds.Try = false
is_function_kind kinds.Absent = false
is_function_kind kinds.Comma = false
is_function_kind kinds.Assign = false
is_function_kind kinds.AssignAdd = false
is_function_kind kinds.AssignSub = false
is_function_kind kinds.AssignMul = false
is_function_kind kinds.AssignDiv = false
is_function_kind kinds.AssignRem = false
is_function_kind kinds.Cond = false
is_function_kind kinds.Coalesce = false
is_function_kind kinds.Or = false
is_function_kind kinds.And = false
is_function_kind kinds.Same = false
is_function_kind kinds.NotSame = false
is_function_kind kinds.Less = false
is_function_kind kinds.More = false
is_function_kind kinds.AtMost = false
is_function_kind kinds.AtLeast = false
is_function_kind kinds.Add = false
is_function_kind kinds.Sub = false
is_function_kind kinds.Mul = false
is_function_kind kinds.Div = false
is_function_kind kinds.Rem = false
is_function_kind kinds.Not = false
is_function_kind kinds.Minus = false
is_function_kind kinds.Plus = false
is_function_kind kinds.TypeOf = false
is_function_kind kinds.Void = false
is_function_kind kinds.PreInc = false
is_function_kind kinds.PreDec = false
is_function_kind kinds.PostInc = false
is_function_kind kinds.PostDec = false
is_function_kind kinds.Member = false
is_function_kind kinds.Index = false
is_function_kind kinds.Call = false
is_function_kind kinds.New = false
is_function_kind kinds.Num = false
is_function_kind kinds.Text = false
is_function_kind kinds.Undefined = false
is_function_kind kinds.Null = false
is_function_kind kinds.True = false
is_function_kind kinds.False = false
is_function_kind kinds.This = false
is_function_kind kinds.Name = false
is_function_kind kinds.Array = false
is_function_kind kinds.Object = false
