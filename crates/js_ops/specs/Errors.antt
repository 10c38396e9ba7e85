-- The errors that operators, members and names throw: their kinds and their texts.
-- ECMA-262, Throw an Exception; docs/SCRIPTS.md, "Operators", "Members" and "Names and scopes". Texts: this project's own.
use Rattle.std.specs.Prelude.{ℕ, List, ◌++◌, codes}
use Rattle.ivm_text.specs.declared.copies.ErrorKind.{ErrorKind}
use Rattle.ivm_text.specs.declared.copies.ErrorKind.TheVariants.{TypeError, RangeError, ReferenceError, SyntaxError}
use Rattle.js_ops.specs.declared.error.ScriptError.{ScriptError}
use Rattle.js_ops.specs.declared.error.ScriptError.TheVariants.{WrongKind, OutOfRange, NotWhole, DivisionByZero, NoObject, PastEnd, NotWritable, BadArgument, NotDefined, NotInitialised, Constant, AlreadyDeclared}

abbrev pub error_kind : ScriptError → ErrorKind
error_kind WrongKind = TypeError
error_kind OutOfRange = RangeError
error_kind NotWhole = RangeError
error_kind DivisionByZero = RangeError
error_kind NoObject = TypeError
error_kind PastEnd = RangeError
error_kind NotWritable = TypeError
error_kind BadArgument = TypeError
error_kind NotDefined = ReferenceError
error_kind NotInitialised = ReferenceError
error_kind Constant = TypeError
error_kind AlreadyDeclared = SyntaxError

-- the message; of an error of a name, what it says of the name
abbrev pub error_text : ScriptError → List ℕ
error_text WrongKind = codes "wrong kind of operand"
error_text OutOfRange = codes "number out of range"
error_text NotWhole = codes "not a whole quotient"
error_text DivisionByZero = codes "division by zero"
error_text NoObject = codes "property of undefined or null"
error_text PastEnd = codes "index past the end"
error_text NotWritable = codes "cannot write this member"
error_text BadArgument = codes "bad argument"
error_text NotDefined = codes " is not defined"
error_text NotInitialised = codes " is not initialised"
error_text Constant = codes " is constant"
error_text AlreadyDeclared = codes " is already declared"

-- the message of an error of a name: the name, and what is said of it
abbrev pub name_error_text : ScriptError → List ℕ → List ℕ
name_error_text error name = name ++ error_text error
