-- The lines of a host script, the words of a line, and which words are names.
-- This project's own; docs/HOST.md, "Lines".
use Rattle.std.specs.Prelude.{ℕ, ◌-◌, ◌==◌, ◌||◌, ◌&&◌, Bool, suc, zero, List, length, take, drop, not, nat_le, if◌then◌else◌}
use Rattle.std.specs.List.{position_or_len, before_first, before_last, after_last, suffix_len, list_all, slice_index}
use Rattle.std.specs.Str.Lines.{lines}
use Rattle.std.specs.Char.{is_ascii_alphabetic, is_ascii_alphanumeric}

-- the lines of bytes: each ends with an LF or where the bytes end, and one CR before its LF isn't part of it
abbrev pub lines_of : List ℕ → List (List ℕ)
lines_of bytes = lines bytes

-- a space or a tab
abbrev pub is_blank : ℕ → Bool
is_blank byte = byte == 32 || byte == 9

-- a line from its first byte on that is no blank
abbrev pub skip_blanks : List ℕ → List ℕ
skip_blanks line = drop (position_or_len (λ byte. not (is_blank byte)) line) line

-- what stands behind the first word of a line
abbrev pub after_word : List ℕ → List ℕ
after_word line = let rest = skip_blanks line in drop (position_or_len is_blank rest) rest

-- what stands behind the first n words of a line and the blanks after them
abbrev pub behind : ℕ → List ℕ → List ℕ
behind zero line = skip_blanks line
behind (suc n) line = behind n (after_word line)

-- the word behind the first n words; empty where there is none
abbrev pub word : ℕ → List ℕ → List ℕ
word n line = before_first is_blank (behind n line)

-- no word stands behind the first n
abbrev pub ends_after : ℕ → List ℕ → Bool
ends_after n line = length (behind n line) == 0

-- how many words there are, of which no more than four are counted
abbrev pub word_count : List ℕ → ℕ
word_count line =
    if ends_after 0 line then 0 else if ends_after 1 line then 1 else if ends_after 2 line then 2
    else if ends_after 3 line then 3 else 4

-- a line without the blanks at its end
abbrev pub without_end : List ℕ → List ℕ
without_end line = take (length line - suffix_len is_blank line) line

-- the last word of a line; empty where there is none
abbrev pub last_word : List ℕ → List ℕ
last_word line = after_last is_blank (without_end line)

-- what stands before the last word and the blank in front of it
abbrev pub before_last_word : List ℕ → List ℕ
before_last_word line = before_last is_blank (without_end line)

-- an ASCII letter, a digit or an underscore
abbrev pub is_name_byte : ℕ → Bool
is_name_byte byte = is_ascii_alphanumeric byte || byte == 95

-- at most 32 letters, digits and underscores, of which the first is a letter
abbrev pub is_name : List ℕ → Bool
is_name name = nat_le (length name) 32 && is_ascii_alphabetic (slice_index name 0) && list_all is_name_byte name
