-- That a text has one value or one refusal.
-- This project's own; docs/SCRIPTS.md, "Literals and arguments".
use Rattle.std.specs.Prelude.{◌≡◌, ℕ, List}
use Rattle.ivm_text.specs.declared.copies.Copy.{Copy}
use Rattle.ivm_text.specs.declared.refusal.Refusal.{Refusal}
use Rattle.js_lexer.specs.declared.token.SyntaxFault.TheVariants.{Refused}
use Rattle.js_parser.specs.Parsed.{IsLiteralFault, IsArgumentsFault}
use Rattle.js_literals.specs.Told.{IsLiteral, AreArguments}
use Rattle.js_literals.specs.declared.argument.Argument.{Argument}

-- two copies of a text are the same, and so are two lists of its arguments
pub record HasOneValue (bytes : List ℕ) : Type 0 where
  pub literal : (a b : Copy) → IsLiteral bytes a → IsLiteral bytes b → a ≡ b
  pub arguments : (xs ys : List Argument) → AreArguments bytes xs → AreArguments bytes ys → xs ≡ ys

-- two refusals of a text are the same, and a text that has a value has none; so of one literal, and
-- of arguments
pub record HasOneRefusal (bytes : List ℕ) : Type 0 where
  pub literal : (r s : Refusal) → IsLiteralFault bytes (Refused r)
      → IsLiteralFault bytes (Refused s) → r ≡ s
  pub no_literal : (copy : Copy) (r : Refusal) → IsLiteral bytes copy
      → ¬ (IsLiteralFault bytes (Refused r))
  pub arguments : (r s : Refusal) → IsArgumentsFault bytes (Refused r)
      → IsArgumentsFault bytes (Refused s) → r ≡ s
  pub no_arguments : (told : List Argument) (r : Refusal) → AreArguments bytes told
      → ¬ (IsArgumentsFault bytes (Refused r))
