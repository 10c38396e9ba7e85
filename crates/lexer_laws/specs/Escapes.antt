-- What may stand behind a backslash in a string.
-- ECMA-262, String Literals: EscapeSequence, LineContinuation; docs/SCRIPTS.md, "Strings".
use Rattle.std.specs.Prelude.{◌≡◌, ◌≢◌, ℕ, ◌≤◌, ◌↔◌, true, false, [], ◌∷◌, ◌++◌, Option, None, Some}
use Rattle.std.specs.List.{All}
use Rattle.js_lexer.specs.Letters.{Text, is_line, is_digit, begins_digit}
use Rattle.js_lexer.specs.Escapes.{escape}
use Rattle.lexer_laws.specs.Numerals.{IsDigitTo, value_behind}

-- SingleEscapeCharacter that stands for another character: `b f n r t v`
pub data StandsFor : ℕ → ℕ → Type 0 where
  backspace : StandsFor 98 8
  form_feed : StandsFor 102 12
  line_feed : StandsFor 110 10
  carriage_return : StandsFor 114 13
  tabulator : StandsFor 116 9
  vertical_tabulator : StandsFor 118 11

-- a character that stands for itself: neither one of those nor a digit, `x`, `u` or a line
-- terminator
pub record StandsForItself (c : ℕ) : Type 0 where
  pub other : (d : ℕ) → ¬ (StandsFor c d)
  pub no_digit : is_digit c ≡ false
  pub no_line : is_line c ≡ false
  pub no_x : c ≢ 120
  pub no_u : c ≢ 117

-- an escape: the text behind the backslash, the code point that it stands for or nothing, and the
-- rest behind it
pub data Escapes : Text → Option ℕ → Text → Type 0 where
  single : {c d : ℕ} {rest : Text} → StandsFor c d → Escapes (c ∷ rest) (Some d) rest
  itself : {c : ℕ} {rest : Text} → StandsForItself c → Escapes (c ∷ rest) (Some c) rest
  -- `0`, and no digit behind it
  zero : {rest : Text} → begins_digit rest ≡ false → Escapes (48 ∷ rest) (Some 0) rest
  -- HexEscapeSequence: `x` and two hexadecimal digits
  two_digits : {a b : ℕ} {rest : Text} → All (IsDigitTo 16) (a ∷ b ∷ [])
      → Escapes (120 ∷ a ∷ b ∷ rest) (Some (value_behind 16 0 (a ∷ b ∷ []))) rest
  -- UnicodeEscapeSequence: `u` and four, or `u{`, at least one, and `}`
  four_digits : {a b c d : ℕ} {rest : Text} → All (IsDigitTo 16) (a ∷ b ∷ c ∷ d ∷ [])
      → Escapes (117 ∷ a ∷ b ∷ c ∷ d ∷ rest) (Some (value_behind 16 0 (a ∷ b ∷ c ∷ d ∷ []))) rest
  in_braces : (c : ℕ) (cs rest : Text) → All (IsDigitTo 16) (c ∷ cs) → value_behind 16 0 (c ∷ cs) ≤ 0x10FFFF
      → Escapes (117 ∷ 123 ∷ c ∷ (cs ++ (125 ∷ rest))) (Some (value_behind 16 0 (c ∷ cs))) rest
  -- LineContinuation: a line terminator; CR LF is one
  line : {c : ℕ} {rest : Text} → is_line c ≡ true → c ≢ 13 → Escapes (c ∷ rest) None rest
  return_alone : {rest : Text} → ((more : Text) → rest ≢ (10 ∷ more)) → Escapes (13 ∷ rest) None rest
  return_and_feed : {rest : Text} → Escapes (13 ∷ 10 ∷ rest) None rest

-- behind a backslash an escape is read exactly where one stands there
abbrev pub IsEscapeThere : ℕ → Text → Type 0
IsEscapeThere c t = (code : Option ℕ) (rest : Text) → (escape c t ≡ Some (code, rest)) ↔ Escapes (c ∷ t) code rest
