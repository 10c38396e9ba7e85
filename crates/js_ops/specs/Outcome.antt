-- What an operation over a heap gives, and the store after it.
-- This project's own; docs/PRICES.md, "When the heap is full", and docs/SCRIPTS.md, "Operators". An error's kind: ECMA-262, Throw an Exception.
use Rattle.std.specs.Prelude.{ℕ, List, Ok, Err}
use Rattle.ivm_text.specs.declared.copies.ErrorKind.{ErrorKind}
use Rattle.charged_heap.specs.Ends.{Ends, and_then, item_made}
use Rattle.charged_heap.specs.Store.{Store}
use Rattle.charged_heap.specs.declared.fault.Fail.TheVariants.{Throw}
use Rattle.charged_heap.specs.declared.item.Item.{Item}
use Rattle.charged_heap.specs.declared.item.Item.TheVariants as item
use Rattle.charged_heap.specs.declared.values.Value.{Value}
use Rattle.charged_heap.specs.declared.values.Value.TheVariants as value
use Rattle.js_ops.specs.Errors.{error_kind, error_text, name_error_text}
use Rattle.js_ops.specs.Operators.{binary_answer, unary_answer}
use Rattle.js_ops.specs.declared.answer.Answer.{Answer}
use Rattle.js_ops.specs.declared.answer.Answer.TheVariants.{Truth, Number, Text, Fault}
use Rattle.js_ops.specs.declared.error.ScriptError.{ScriptError}
use Rattle.js_ops.specs.declared.operators.BinaryOperator.{BinaryOperator}
use Rattle.js_ops.specs.declared.operators.UnaryOperator.{UnaryOperator}

-- ---- making

-- one more item, which is given as a value
abbrev pub value_made : Item → Store → Ends Value
value_made one s = and_then (item_made one s) (λ n after. (Ok (value.Item n), after))

-- a new string
abbrev pub text_made : List ℕ → Store → Ends Value
text_made units s = value_made (item.Text units) s

-- a new error thrown: its message is made first, and then the error
abbrev pub thrown : ErrorKind → List ℕ → Store → Ends Value
thrown sort message s =
    and_then (item_made (item.Text message) s) (λ text with_text.
    and_then (item_made (item.Error sort text) with_text) (λ error after. (Err (Throw (value.Item error)), after)))

-- ---- errors of operators, members and names

-- a new error of that kind, with that text, thrown
abbrev pub error_thrown : ScriptError → Store → Ends Value
error_thrown error s = thrown (error_kind error) (error_text error) s

-- so is the error of a name, whose text begins with the name
abbrev pub name_error_thrown : ScriptError → List ℕ → Store → Ends Value
name_error_thrown error name s = thrown (error_kind error) (name_error_text error name) s

-- ---- operators

-- an answer carried out: truths and numbers are free, a string or an error is made
abbrev pub outcome_of : Answer → Store → Ends Value
outcome_of (Truth b) s = (Ok (value.Bool b), s)
outcome_of (Number n) s = (Ok (value.Num n), s)
outcome_of (Text units) s = text_made units s
outcome_of (Fault error) s = error_thrown error s

-- what an operator of two operands gives
unfoldable pub binary_outcome : BinaryOperator → Value → Value → Store → Ends Value
binary_outcome op left right s = outcome_of (binary_answer s op left right) s

-- what an operator of one operand gives
unfoldable pub unary_outcome : UnaryOperator → Value → Store → Ends Value
unary_outcome op operand s = outcome_of (unary_answer s op operand) s
