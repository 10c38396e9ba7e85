-- What the characters behind a backslash stand for in a string.
-- ECMA-262, String Literals: EscapeSequence; LineContinuation; docs/SCRIPTS.md, "Strings".
use Rattle.std.specs.Prelude.{ℕ, ◌+◌, ◌*◌, Bool, ◌&&◌, [], ◌∷◌, nat_eq, nat_lt, nat_le, Option, None, Some, if◌then◌else◌}
use Rattle.std.specs.Char.{digit_value}
use Rattle.js_lexer.specs.Letters.{Text, is_line, is_digit, begins_digit}

abbrev pub is_hex : ℕ → Bool
is_hex c = nat_lt (digit_value c) 16

-- the value of the two hexadecimal digits at the front, and the text behind them
abbrev pub two_digits : Text → Option (ℕ × Text)
two_digits [] = None
two_digits (a ∷ []) = None
two_digits (a ∷ b ∷ t) = if is_hex a && is_hex b then Some (16 * digit_value a + digit_value b, t) else None

-- that of four, which are twice two
abbrev pub two_more : Option (ℕ × Text) → Option (ℕ × Text)
two_more None = None
two_more (Some high) = joined high.0 (two_digits high.1)
  where
    joined : ℕ → Option (ℕ × Text) → Option (ℕ × Text)
    joined high None = None
    joined high (Some low) = Some (256 * high + low.0, low.1)

abbrev pub four_digits : Text → Option (ℕ × Text)
four_digits t = two_more (two_digits t)

-- the value of the hexadecimal digits at the front, after those of n, up to a `}`; a code point is
-- at most 10FFFF
abbrev pub to_brace : ℕ → Text → Option (ℕ × Text)
to_brace n [] = None
to_brace n (c ∷ t) =
    if is_hex c then (if nat_le (16 * n + digit_value c) 0x10FFFF then to_brace (16 * n + digit_value c) t else None)
    else (if nat_eq c 125 then Some (n, t) else None)

-- UnicodeEscapeSequence, behind the `u`: `{` with at least one digit and `}`, or four digits
abbrev pub unicode_escape : Text → Option (ℕ × Text)
unicode_escape [] = None
unicode_escape (c ∷ t) = if nat_eq c 123 then some_to_brace t else four_digits (c ∷ t)
  where
    some_to_brace : Text → Option (ℕ × Text)
    some_to_brace [] = None
    some_to_brace (d ∷ t) = if is_hex d then to_brace 0 (d ∷ t) else None

-- the text without an LF at its front
abbrev pub past_feed : Text → Text
past_feed [] = []
past_feed (c ∷ t) = if nat_eq c 10 then t else c ∷ t

-- SingleEscapeCharacter: `b f n r t v`; any other character that may stand here is itself
abbrev pub single : ℕ → ℕ
single c = if nat_eq c 98 then 8 else (if nat_eq c 102 then 12 else (if nat_eq c 110 then 10 else (if nat_eq c 114 then 13
    else (if nat_eq c 116 then 9 else (if nat_eq c 118 then 11 else c)))))

-- a code point for what it stands for
abbrev pub coded : Option (ℕ × Text) → Option (Option ℕ × Text)
coded None = None
coded (Some p) = Some (Some p.0, p.1)

-- what c and the text t behind it stand for after a backslash, a code point or nothing, and the
-- text behind that; none where no escape is
abbrev pub escape : ℕ → Text → Option (Option ℕ × Text)
escape c t =
    if nat_eq c 120 then coded (two_digits t)
    else (if nat_eq c 117 then coded (unicode_escape t)
    else (if nat_eq c 48 then (if begins_digit t then None else Some (Some 0, t))
    else (if is_digit c then None
    else (if nat_eq c 13 then Some (None, past_feed t)
    else (if is_line c then Some (None, t)
    else Some (Some (single c), t))))))
