-- What the nodes of each kind have.
-- ECMA-262, Expressions; Statements and Declarations; Functions; docs/SCRIPTS.md.
use Rattle.std.specs.Prelude.{◌≡◌, ℕ, ◌+◌, ◌<◌, ◌≤◌, List, [], ◌∷◌, length, slice_get, Option, None, Some}
use Rattle.js_syntax.specs.declared.kind.Kind.{Kind}
use Rattle.js_syntax.specs.declared.kind.Kind.TheVariants as kinds
use Rattle.js_syntax.specs.declared.node.Node.{Node}

-- ---- names and kids

-- how many of something
pub data Count : Type 0 where
  exactly : ℕ → Count
  at_least : ℕ → Count
  -- as many as the node has names
  one_a_name : Count

abbrev pub Counts : Count → ℕ → ℕ → Type 0
Counts (exactly k) names n = n ≡ k
Counts (at_least k) names n = k ≤ n
Counts one_a_name names n = n ≡ names

-- whether the node has a name of its own
pub data Named : Type 0 where
  never : Named
  maybe : Named
  always : Named

abbrev pub HasName : Named → Option (List ℕ) → Type 0
HasName never name = name ≡ None
HasName maybe name = Unit {0}
HasName always name = (units : List ℕ) × (name ≡ Some units)

-- what a kind asks for: a name, names, kids
pub record Shape : Type 0 where
  pub name : Named
  pub names : Count
  pub kids : Count

abbrev pub shape : Named → Count → Count → Shape
shape name names kids = record { name = name; names = names; kids = kids }

-- no name, no names, and so many kids
abbrev pub leaf : ℕ → Shape
leaf k = shape never (exactly 0) (exactly k)

abbrev pub shape_of : Kind → Shape
shape_of kinds.Script = shape never (exactly 0) (at_least 0)
shape_of kinds.Body = shape never (exactly 0) (at_least 0)
shape_of kinds.Block = shape never (exactly 0) (at_least 0)
shape_of kinds.Empty = leaf 0
shape_of kinds.Let = shape never (at_least 1) one_a_name
shape_of kinds.Const = shape never (at_least 1) one_a_name
shape_of kinds.FunctionDecl = shape always (at_least 0) (exactly 1)
shape_of kinds.ExprStmt = leaf 1
shape_of kinds.If = leaf 3
shape_of kinds.While = leaf 2
shape_of kinds.For = leaf 4
shape_of kinds.Break = leaf 0
shape_of kinds.Continue = leaf 0
shape_of kinds.Return = leaf 1
shape_of kinds.Throw = leaf 1
shape_of kinds.Try = shape maybe (exactly 0) (exactly 3)
shape_of kinds.Absent = leaf 0
shape_of kinds.Comma = leaf 2
shape_of kinds.Assign = leaf 2
shape_of kinds.AssignAdd = leaf 2
shape_of kinds.AssignSub = leaf 2
shape_of kinds.AssignMul = leaf 2
shape_of kinds.AssignDiv = leaf 2
shape_of kinds.AssignRem = leaf 2
shape_of kinds.Arrow = shape never (at_least 0) (exactly 1)
shape_of kinds.Cond = leaf 3
shape_of kinds.Coalesce = leaf 2
shape_of kinds.Or = leaf 2
shape_of kinds.And = leaf 2
shape_of kinds.Same = leaf 2
shape_of kinds.NotSame = leaf 2
shape_of kinds.Less = leaf 2
shape_of kinds.More = leaf 2
shape_of kinds.AtMost = leaf 2
shape_of kinds.AtLeast = leaf 2
shape_of kinds.Add = leaf 2
shape_of kinds.Sub = leaf 2
shape_of kinds.Mul = leaf 2
shape_of kinds.Div = leaf 2
shape_of kinds.Rem = leaf 2
shape_of kinds.Not = leaf 1
shape_of kinds.Minus = leaf 1
shape_of kinds.Plus = leaf 1
shape_of kinds.TypeOf = leaf 1
shape_of kinds.Void = leaf 1
shape_of kinds.PreInc = leaf 1
shape_of kinds.PreDec = leaf 1
shape_of kinds.PostInc = leaf 1
shape_of kinds.PostDec = leaf 1
shape_of kinds.Member = shape always (exactly 0) (exactly 1)
shape_of kinds.Index = leaf 2
shape_of kinds.Call = shape never (exactly 0) (at_least 1)
shape_of kinds.New = shape always (exactly 0) (at_least 0)
shape_of kinds.Num = leaf 0
shape_of kinds.Text = shape always (exactly 0) (exactly 0)
shape_of kinds.Undefined = leaf 0
shape_of kinds.Null = leaf 0
shape_of kinds.True = leaf 0
shape_of kinds.False = leaf 0
shape_of kinds.This = leaf 0
shape_of kinds.Name = shape always (exactly 0) (exactly 0)
shape_of kinds.Array = shape never (exactly 0) (at_least 0)
shape_of kinds.Object = shape never (at_least 0) one_a_name
shape_of kinds.FunctionExpr = shape maybe (at_least 0) (exactly 1)

-- the node has what its kind asks for, and as many places as names
pub record IsFormed (node : Node) : Type 0 where
  pub name : HasName ((shape_of node.kind).name) (node.name)
  pub names : Counts ((shape_of node.kind).names) (length (node.names)) (length (node.names))
  pub kids : Counts ((shape_of node.kind).kids) (length (node.names)) (length (node.kids))
  pub places : length (node.places) ≡ length (node.names)

-- ---- numbers

-- each of these numbers is below n
abbrev pub AreBelow : List ℕ → ℕ → Type 0
AreBelow numbers n = (k m : ℕ) → slice_get numbers k ≡ Some m → m < n

-- from node k on, each kid stands below its parent, and each node is formed
abbrev pub AreSoundFrom : ℕ → List Node → Type 0
AreSoundFrom k [] = Unit {0}
AreSoundFrom k (node ∷ nodes) = AreBelow (node.kids) k × IsFormed node × AreSoundFrom (k + 1) nodes

abbrev pub AreSound : List Node → Type 0
AreSound nodes = AreSoundFrom 0 nodes
