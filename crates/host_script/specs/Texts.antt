-- The text that a command ends with: on its own line, or on the lines after it.
-- This project's own; docs/HOST.md, "Texts".
use Rattle.std.specs.Prelude.{ℕ, ◌+◌, ◌||◌, ◌&&◌, Bool, false, List, [], ◌∷◌, length, take, drop, codes, nat_eq, nat_lt, if◌then◌else◌, Option, None, Some, Result, Ok}
use Rattle.std.specs.List.{starts_with, join_with_byte}
use Rattle.std.specs.Option.{option_map, option_map_or}
use Rattle.std.specs.Str.{bytes_eq, is_utf8}
use Rattle.host_script.specs.declared.fault.HostFault.{HostFault}
use Rattle.host_script.specs.declared.fault.HostKind.TheVariants.{TooLong}
use Rattle.host_script.specs.declared.text.Text.{Text}
use Rattle.host_script.specs.declared.text.Text.TheVariants.{Missing, Open, Given}
use Rattle.host_script.specs.Faults.{◌>>=◌, fail}
use Rattle.host_script.specs.Words.{is_blank, last_word, before_last_word}

-- the bytes that a text may have
abbrev pub most_text : ℕ
most_text = 65536

-- ---- a text on the line

-- a `:` that one space or the line's end follows
abbrev pub begins_text : List ℕ → Bool
begins_text bytes = bytes_eq bytes (codes ":") || starts_with nat_eq bytes (codes ": ")

-- the place of the first `:` that is a word and begins a text, else the length; a word begins behind a blank
abbrev pub text_place : Bool → List ℕ → ℕ
text_place behind_blank [] = 0
text_place behind_blank (byte ∷ bytes) = if behind_blank && begins_text (byte ∷ bytes) then 0 else 1 + text_place (is_blank byte) bytes

-- of what stands behind a command: the words before its text, and the text, which begins behind one space
abbrev pub text_here : List ℕ → Option (List ℕ × List ℕ)
text_here rest =
    let place = text_place false rest in
    if nat_lt place (length rest) then Some (take place rest, drop 2 (drop place rest)) else None

-- ---- a text on the lines after it

-- of what stands behind a command: the words before its last word `<<W`, and the W, which isn't empty
abbrev pub end_word : List ℕ → Option (List ℕ × List ℕ)
end_word rest =
    if starts_with nat_eq (last_word rest) (codes "<<") && nat_lt 2 (length (last_word rest))
    then Some (before_last_word rest, drop 2 (last_word rest)) else None

-- the lines before the first that is W; none where no line is
abbrev pub lines_until : List ℕ → List (List ℕ) → Option (List (List ℕ))
lines_until w [] = None
lines_until w (line ∷ lines) = if bytes_eq line w then Some [] else option_map (λ more. line ∷ more) (lines_until w lines)

-- the number of the first line that isn't UTF-8, where these are the lines from the nth on
abbrev pub first_bad : ℕ → List (List ℕ) → Option ℕ
first_bad n [] = None
first_bad n (line ∷ lines) = if is_utf8 line then first_bad (n + 1) lines else Some n

-- the text on these lines, after a command at line n, and how many lines it takes with the one that ends it
abbrev pub text_on : ℕ → List (List ℕ) → Result (Text × ℕ) HostFault
text_on n body =
    if nat_lt most_text (length (join_with_byte 10 body)) then fail n TooLong
    else Ok (Given (join_with_byte 10 body) (first_bad (n + 1) body), length body + 1)

-- the text up to the line W, after a command at line n; where no line is W it is open, and takes all lines
abbrev pub long_text : ℕ → List ℕ → List (List ℕ) → Result (Text × ℕ) HostFault
long_text n w lines = option_map_or (text_on n) (lines_until w lines) (Ok (Open, length lines))

-- ---- the text of a command

-- no text, and the words that there are
abbrev pub without_text : List ℕ → Result (List ℕ × Text × ℕ) HostFault
without_text rest = Ok (rest, Missing, 0)

-- a text on the line of command n, with the words before it
abbrev pub text_within : ℕ → List ℕ × List ℕ → Result (List ℕ × Text × ℕ) HostFault
text_within n here = if nat_lt most_text (length here.1) then fail n TooLong else Ok (here.0, Given here.1 None, 0)

-- a text on the lines after command n, with the words before the one that ends it
abbrev pub text_below : ℕ → List (List ℕ) → List ℕ × List ℕ → Result (List ℕ × Text × ℕ) HostFault
text_below n lines front = long_text n front.1 lines >>= λ text. Ok (front.0, text.0, text.1)

-- what stands behind a command at line n as its words, its text, and how many of the lines after it belong to the text;
-- only a command that can have a text has one on the lines after it
abbrev pub text_of : Bool → ℕ → List ℕ → List (List ℕ) → Result (List ℕ × Text × ℕ) HostFault
text_of can_have n rest lines = option_map_or (text_within n) (text_here rest)
    (if can_have then option_map_or (text_below n lines) (end_word rest) (without_text rest) else without_text rest)
