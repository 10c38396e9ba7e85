-- What arithmetic on two numbers gives.
-- ECMA-262, Number::add, Number::subtract, Number::multiply, Number::divide and Number::remainder, for whole numbers alone; docs/SCRIPTS.md, "Operators".
use Rattle.std.specs.Prelude.{◌+ℤ◌, ◌-ℤ◌, ◌*ℤ◌, ◌^◌, ℤ, Bool, Result, Ok, Err, nat_eq, nat_lt, int_div, int_rem, unsigned_abs, if◌then◌else◌}
use Rattle.js_ops.specs.declared.operators.Arithmetic.{Arithmetic}
use Rattle.js_ops.specs.declared.operators.Arithmetic.TheVariants.{Add, Sub, Mul, Div, Rem}
use Rattle.js_ops.specs.declared.error.ScriptError.{ScriptError}
use Rattle.js_ops.specs.declared.error.ScriptError.TheVariants.{OutOfRange, NotWhole, DivisionByZero}

-- the number is 0
abbrev pub is_zero : ℤ → Bool
is_zero n = nat_eq (unsigned_abs n) 0

-- the number is one of a script: from -(2^53 - 1) to 2^53 - 1
abbrev pub is_in_range : ℤ → Bool
is_in_range n = nat_lt (unsigned_abs n) (2 ^ 53)

-- the number, where it is one of a script
abbrev pub in_range : ℤ → Result ℤ ScriptError
in_range n = if is_in_range n then Ok n else Err OutOfRange

-- the quotient, which has to be whole
abbrev pub quotient : ℤ → ℤ → Result ℤ ScriptError
quotient a b =
    if is_zero b then Err DivisionByZero else if is_zero (int_rem a b) then in_range (int_div a b) else Err NotWhole

-- the remainder, which has the sign of a
abbrev pub remainder : ℤ → ℤ → Result ℤ ScriptError
remainder a b = if is_zero b then Err DivisionByZero else in_range (int_rem a b)

-- the result of the operator
abbrev pub calculated : Arithmetic → ℤ → ℤ → Result ℤ ScriptError
calculated Add a b = in_range (a +ℤ b)
calculated Sub a b = in_range (a -ℤ b)
calculated Mul a b = in_range (a *ℤ b)
calculated Div a b = quotient a b
calculated Rem a b = remainder a b
