-- How the calls of the code answer, by the meaning of a host script. No caller needs this.
-- This project's own; docs/HOST.md, "Lines" and "Texts".
use Rattle.std.specs.Prelude.{◌≡◌, ℕ, ◌+◌, ◌-◌, ◌<◌, ◌≤◌, Bool, List, ◌∷◌, ◌++◌, length, drop, Option, nat_lt, if◌then◌else◌}
use Rattle.std.specs.List.{join_with_byte}
use Rattle.std.specs.Option.{option_map}
use Rattle.host_script.specs.Words.{lines_of}
use Rattle.host_script.specs.Texts.{lines_until, first_bad, most_text}

-- lines were read: those from line n on began these bytes, and those after line m begin the rest
pub record Goes (n : ℕ) (bytes : List ℕ) (m : ℕ) (rest : List ℕ) : Type 0 where
  pub later : n ≤ m
  pub after : lines_of rest ≡ drop (m - n) (lines_of bytes)
  pub shorter : m + length rest ≤ n + length bytes

-- a text with a line at its end, which is its first or stands behind an LF
abbrev pub appended : Bool → List ℕ → List ℕ → List ℕ
appended is_first text line = text ++ (if is_first then line else 10 ∷ line)

-- the same, where the text is not too long already
abbrev pub kept : Bool → List ℕ → List ℕ → List ℕ
kept is_first text line = if nat_lt most_text (length text) then text else appended is_first text line

-- of the lines of these bytes, after a command at line n, those in front have been read, up to line m;
-- they are kept as a text until that is too long
pub record HasRead (n : ℕ) (w bytes : List ℕ) (m : ℕ) (rest text : List ℕ) (bad : Option ℕ) : Type 0 where
  pub front : List (List ℕ)
  pub whole : lines_until w (lines_of bytes) ≡ option_map (λ more. front ++ more) (lines_until w (lines_of rest))
  pub fits : length text ≤ most_text → text ≡ join_with_byte 10 front
  pub long : most_text < length text → most_text < length (join_with_byte 10 front)
  pub bad_is : bad ≡ first_bad (n + 1) front
  pub number : m ≡ n + length front
  pub within : length front ≤ length (lines_of bytes)
  pub after : lines_of rest ≡ drop (length front) (lines_of bytes)
  pub shorter : m + length rest ≤ n + length bytes
