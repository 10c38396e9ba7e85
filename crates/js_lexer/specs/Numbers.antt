-- The numbers at the front of a text.
-- ECMA-262, Numeric Literals, of which whole numbers up to 2^53 - 1 are taken; docs/SCRIPTS.md,
-- "Numbers".
use Rattle.std.specs.Prelude.{ℕ, ◌+◌, ◌*◌, Bool, false, ◌||◌, [], ◌∷◌, nat_eq, nat_lt, nat_le, Option, None, Some, if◌then◌else◌}
use Rattle.std.specs.Char.{digit_value}
use Rattle.ivm_text.specs.Text.{max_number}
use Rattle.js_lexer.specs.Letters.{Text, is_digit, starts_word}
use Rattle.js_lexer.specs.Escapes.{is_hex}

-- what may not stand at once behind a number: a digit, a word's first character, or `.`
abbrev pub clings : Text → Bool
clings [] = false
clings (c ∷ t) = is_digit c || starts_word c || nat_eq c 46

-- the number n, where it is one of a script and nothing clings to it
abbrev pub ended : ℕ → Text → Option (ℕ × Text)
ended n t = if clings t then None else Some (n, t)

-- the number that the digits to this base at the front write after those of n, and the text behind
-- them
abbrev pub digits : ℕ → ℕ → Text → Option (ℕ × Text)
digits base n [] = ended n []
digits base n (c ∷ t) =
    if nat_lt (digit_value c) base
    then (if nat_le (base * n + digit_value c) max_number then digits base (base * n + digit_value c) t else None)
    else ended n (c ∷ t)

-- HexIntegerLiteral, behind its `0x`: at least one digit
abbrev pub hexadecimal : Text → Option (ℕ × Text)
hexadecimal [] = None
hexadecimal (c ∷ t) = if is_hex c then digits 16 (digit_value c) t else None

abbrev pub is_x : ℕ → Bool
is_x c = nat_eq c 120 || nat_eq c 88

-- behind a 0: hexadecimal, or 0 itself
abbrev pub after_zero : Text → Option (ℕ × Text)
after_zero [] = Some (0, [])
after_zero (c ∷ t) = if is_x c then hexadecimal t else ended 0 (c ∷ t)

-- the number whose first digit is c, and the text behind it; none where it is out of profile
abbrev pub number : ℕ → Text → Option (ℕ × Text)
number c t = if nat_eq c 48 then after_zero t else digits 10 (digit_value c) t
