-- What an operator comes to over the values of a store, before anything is made.
-- ECMA-262, ApplyStringOrNumericBinaryOperator, IsLessThan, IsStrictlyEqual and Unary Operators, without conversions; docs/SCRIPTS.md, "Operators".
use Rattle.std.specs.Prelude.{ℕ, ℤ, pos, List, ◌++◌, Bool, true, false, not, Option, None, Some, Result, Ok, Err, int_lt, int_le}
use Rattle.std.specs.Ordering.{is_lt, nat_cmp}
use Rattle.std.specs.Cmp.Lexicographic.{slice_cmp}
use Rattle.charged_heap.specs.Store.{Store}
use Rattle.charged_heap.specs.declared.values.Value.{Value}
use Rattle.charged_heap.specs.declared.values.Value.TheVariants.{Num}
use Rattle.js_syntax.specs.declared.kind.Kind.{Kind}
use Rattle.js_syntax.specs.declared.kind.Kind.TheVariants as kind
use Rattle.js_ops.specs.Numbers.{calculated, in_range}
use Rattle.js_ops.specs.Values.{string_at, primitive_text, truthy, same, type_of, type_text}
use Rattle.js_ops.specs.declared.answer.Answer.{Answer}
use Rattle.js_ops.specs.declared.answer.Answer.TheVariants.{Truth, Number, Text, Fault}
use Rattle.js_ops.specs.declared.error.ScriptError.{ScriptError}
use Rattle.js_ops.specs.declared.error.ScriptError.TheVariants.{WrongKind}
use Rattle.js_ops.specs.declared.operators.Arithmetic.{Arithmetic}
use Rattle.js_ops.specs.declared.operators.Arithmetic.TheVariants as arithmetic
use Rattle.js_ops.specs.declared.operators.Comparison.{Comparison}
use Rattle.js_ops.specs.declared.operators.Comparison.TheVariants as comparison
use Rattle.js_ops.specs.declared.operators.Operator.{Operator}
use Rattle.js_ops.specs.declared.operators.Operator.TheVariants as operator
use Rattle.js_ops.specs.declared.operators.BinaryOperator.{BinaryOperator}
use Rattle.js_ops.specs.declared.operators.BinaryOperator.TheVariants as binary
use Rattle.js_ops.specs.declared.operators.UnaryOperator.{UnaryOperator}
use Rattle.js_ops.specs.declared.operators.UnaryOperator.TheVariants as unary

-- ---- which operator a node is

-- the operator that a kind of node is, and how it takes its operands
abbrev pub operator_of : Kind → Option Operator
operator_of kind.Same = Some (operator.Binary binary.Same)
operator_of kind.NotSame = Some (operator.Binary binary.NotSame)
operator_of kind.Less = Some (operator.Binary (binary.Compare comparison.Less))
operator_of kind.More = Some (operator.Binary (binary.Compare comparison.More))
operator_of kind.AtMost = Some (operator.Binary (binary.Compare comparison.AtMost))
operator_of kind.AtLeast = Some (operator.Binary (binary.Compare comparison.AtLeast))
operator_of kind.Add = Some (operator.Binary (binary.Calculate arithmetic.Add))
operator_of kind.Sub = Some (operator.Binary (binary.Calculate arithmetic.Sub))
operator_of kind.Mul = Some (operator.Binary (binary.Calculate arithmetic.Mul))
operator_of kind.Div = Some (operator.Binary (binary.Calculate arithmetic.Div))
operator_of kind.Rem = Some (operator.Binary (binary.Calculate arithmetic.Rem))
operator_of kind.AssignAdd = Some (operator.Update (binary.Calculate arithmetic.Add))
operator_of kind.AssignSub = Some (operator.Update (binary.Calculate arithmetic.Sub))
operator_of kind.AssignMul = Some (operator.Update (binary.Calculate arithmetic.Mul))
operator_of kind.AssignDiv = Some (operator.Update (binary.Calculate arithmetic.Div))
operator_of kind.AssignRem = Some (operator.Update (binary.Calculate arithmetic.Rem))
operator_of kind.Not = Some (operator.Unary unary.Not)
operator_of kind.Minus = Some (operator.Unary unary.Minus)
operator_of kind.Plus = Some (operator.Unary unary.Plus)
operator_of kind.TypeOf = Some (operator.Unary unary.TypeOf)
operator_of kind.PreInc = Some (operator.Step unary.Raise true)
operator_of kind.PreDec = Some (operator.Step unary.Lower true)
operator_of kind.PostInc = Some (operator.Step unary.Raise false)
operator_of kind.PostDec = Some (operator.Step unary.Lower false)
operator_of kind.Script = None
operator_of kind.Body = None
operator_of kind.Block = None
operator_of kind.Empty = None
operator_of kind.Let = None
operator_of kind.Const = None
operator_of kind.FunctionDecl = None
operator_of kind.ExprStmt = None
operator_of kind.If = None
operator_of kind.While = None
operator_of kind.For = None
operator_of kind.Break = None
operator_of kind.Continue = None
operator_of kind.Return = None
operator_of kind.Throw = None
operator_of kind.Try = None
operator_of kind.Absent = None
operator_of kind.Comma = None
operator_of kind.Assign = None
operator_of kind.Arrow = None
operator_of kind.Cond = None
operator_of kind.Coalesce = None
operator_of kind.Or = None
operator_of kind.And = None
operator_of kind.Void = None
operator_of kind.Member = None
operator_of kind.Index = None
operator_of kind.Call = None
operator_of kind.New = None
operator_of kind.Num = None
operator_of kind.Text = None
operator_of kind.Undefined = None
operator_of kind.Null = None
operator_of kind.True = None
operator_of kind.False = None
operator_of kind.This = None
operator_of kind.Name = None
operator_of kind.Array = None
operator_of kind.Object = None
operator_of kind.FunctionExpr = None

-- ---- arithmetic

-- a number, or why there is none
abbrev pub of_number : Result ℤ ScriptError → Answer
of_number (Ok n) = Number n
of_number (Err fault) = Fault fault

-- two texts joined, where both are there
abbrev pub joined : Option (List ℕ) → Option (List ℕ) → Answer
joined (Some a) (Some b) = Text (a ++ b)
joined _ _ = Fault WrongKind

-- of two values, the first's string and the second's: a string joins with a string or with a primitive's text
abbrev pub joined_values : Value → Value → Option (List ℕ) → Option (List ℕ) → Answer
joined_values left right None None = Fault WrongKind
joined_values left right (Some a) None = joined (Some a) (primitive_text right)
joined_values left right None (Some b) = joined (primitive_text left) (Some b)
joined_values left right (Some a) (Some b) = joined (Some a) (Some b)

-- the operator on two numbers; `+` also joins texts
abbrev pub calculation : Store → Arithmetic → Value → Value → Answer
calculation s op (Num a) (Num b) = of_number (calculated op a b)
calculation s arithmetic.Add left right = joined_values left right (string_at s left) (string_at s right)
calculation s op left right = Fault WrongKind

-- ---- comparisons

abbrev pub compares_numbers : Comparison → ℤ → ℤ → Bool
compares_numbers comparison.Less a b = int_lt a b
compares_numbers comparison.More a b = int_lt b a
compares_numbers comparison.AtMost a b = int_le a b
compares_numbers comparison.AtLeast a b = int_le b a

-- a stands before b by code units, a text before all that it begins
abbrev pub is_before : List ℕ → List ℕ → Bool
is_before a b = is_lt (slice_cmp nat_cmp a b)

abbrev pub compares_texts : Comparison → List ℕ → List ℕ → Bool
compares_texts comparison.Less a b = is_before a b
compares_texts comparison.More a b = is_before b a
compares_texts comparison.AtMost a b = not (is_before b a)
compares_texts comparison.AtLeast a b = not (is_before a b)

-- two strings compared, where both are there
abbrev pub compared : Comparison → Option (List ℕ) → Option (List ℕ) → Answer
compared op (Some a) (Some b) = Truth (compares_texts op a b)
compared op _ _ = Fault WrongKind

-- two numbers or two strings compared
abbrev pub comparison_of : Store → Comparison → Value → Value → Answer
comparison_of s op (Num a) (Num b) = Truth (compares_numbers op a b)
comparison_of s op left right = compared op (string_at s left) (string_at s right)

-- ---- all operators

-- what an operator of two operands comes to
abbrev pub binary_answer : Store → BinaryOperator → Value → Value → Answer
binary_answer s (binary.Calculate op) left right = calculation s op left right
binary_answer s (binary.Compare op) left right = comparison_of s op left right
binary_answer s binary.Same left right = Truth (same s left right)
binary_answer s binary.NotSame left right = Truth (not (same s left right))

-- what `-`, `+`, `++` and `--` come to on a number
abbrev pub sign_of : UnaryOperator → ℤ → Answer
sign_of unary.Minus n = of_number (calculated arithmetic.Sub (pos 0) n)
sign_of unary.Plus n = of_number (in_range n)
sign_of unary.Raise n = of_number (calculated arithmetic.Add n (pos 1))
sign_of unary.Lower n = of_number (calculated arithmetic.Sub n (pos 1))
sign_of _ n = Fault WrongKind

-- what they come to on a value
abbrev pub signed : UnaryOperator → Value → Answer
signed op (Num n) = sign_of op n
signed op _ = Fault WrongKind

-- what an operator of one operand comes to
abbrev pub unary_answer : Store → UnaryOperator → Value → Answer
unary_answer s unary.Not operand = Truth (not (truthy s operand))
unary_answer s unary.TypeOf operand = Text (type_text (type_of s operand))
unary_answer s op operand = signed op operand
