-- The numbers of a text.
-- ECMA-262, Numeric Literals, of those that the profile has; docs/SCRIPTS.md, "Numbers".
use Rattle.std.specs.Prelude.{◌≡◌, ◌≢◌, ℕ, ◌+◌, ◌*◌, ◌<◌, ◌≤◌, ◌↔◌, true, false, [], ◌∷◌, ◌++◌, Some}
use Rattle.std.specs.List.{All}
use Rattle.std.specs.Char.{digit_value}
use Rattle.ivm_text.specs.Text.{max_number}
use Rattle.js_lexer.specs.Letters.{Text, is_digit}
use Rattle.js_lexer.specs.Numbers.{number, clings, is_x}

-- a digit to this base
abbrev pub IsDigitTo : ℕ → ℕ → Type 0
IsDigitTo base c = digit_value c < base

-- the value of digits behind others of the value n
abbrev pub value_behind : ℕ → ℕ → Text → ℕ
value_behind base n [] = n
value_behind base n (c ∷ cs) = value_behind base (base * n + digit_value c) cs

-- a numeric literal, and its value
pub data Writes : Text → ℕ → Type 0 where
  -- DecimalIntegerLiteral: `0`, or a digit that isn't 0 and any number of digits
  zero_alone : Writes (48 ∷ []) 0
  decimal_digits : {c : ℕ} {cs : Text} → IsDigitTo 10 c → c ≢ 48 → All (IsDigitTo 10) cs
      → Writes (c ∷ cs) (value_behind 10 (digit_value c) cs)
  -- HexIntegerLiteral: `0x` or `0X`, and at least one digit
  hexadecimal_digits : {x c : ℕ} {cs : Text} → is_x x ≡ true → IsDigitTo 16 c → All (IsDigitTo 16) cs
      → Writes (48 ∷ x ∷ c ∷ cs) (value_behind 16 (digit_value c) cs)

-- the text is a literal of the number n, which scripts have, and the rest, which may stand at once
-- behind it
pub record NumberStands (text : Text) (n : ℕ) (rest : Text) : Type 0 where
  pub literal : Text
  pub whole : text ≡ literal ++ rest
  pub writes : Writes literal n
  pub in_range : n ≤ max_number
  pub apart : clings rest ≡ false

-- a text whose first character is a digit begins with a number exactly where such a literal stands
-- there
abbrev pub IsNumberThere : ℕ → Text → Type 0
IsNumberThere c t = is_digit c ≡ true → (n : ℕ) (rest : Text) → (number c t ≡ Some (n, rest)) ↔ NumberStands (c ∷ t) n rest
