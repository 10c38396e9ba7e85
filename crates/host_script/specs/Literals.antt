-- The one primitive literal that a text can be.
-- This project's own; docs/HOST.md, "Literals". Each literal has the value of the expression with this text in ECMA-262.
use Rattle.std.specs.Prelude.{ℕ, ◌+◌, ◌-◌, ◌*◌, ◌==◌, ◌&&◌, ◌||◌, Bool, true, false, List, [], ◌∷◌, length, take, drop, codes, not, nat_le, nat_eq, if◌then◌else◌, Option, None, Some, option_and_then, pos, neg_ℤ}
use Rattle.std.specs.Char.{is_ascii_digit}
use Rattle.std.specs.List.{position_or_len, list_all, slice_index, starts_with}
use Rattle.std.specs.Option.{option_map}
use Rattle.std.specs.Str.{bytes_eq}
use Rattle.ivm_text.specs.declared.copies.Leaf.{Leaf}
use Rattle.ivm_text.specs.declared.copies.Leaf.TheVariants.{Undefined, Null, Bool as Boolean, Num}

-- the greatest whole number up to which every one is a Number of its own: 2^53 - 1
abbrev pub most_number : ℕ
most_number = 9007199254740991

-- the number that digits write behind those of n; none where another byte is among them, or where it is too great
abbrev pub read_on : ℕ → List ℕ → Option ℕ
read_on n [] = Some n
read_on n (digit ∷ digits) =
    if is_ascii_digit digit && nat_le (10 * n + (digit - 48)) most_number then read_on (10 * n + (digit - 48)) digits else None

-- decimal digits without a superfluous zero
unfoldable pub number_of : List ℕ → Option ℕ
number_of digits =
    if length digits == 0 || (slice_index digits 0 == 48 && not (length digits == 1)) then None else read_on 0 digits

-- a space
abbrev pub is_space : ℕ → Bool
is_space byte = byte == 32

-- a text from its first byte on that is no space
abbrev pub skip_spaces : List ℕ → List ℕ
skip_spaces text = drop (position_or_len (λ byte. not (is_space byte)) text) text

-- the bytes up to the first space, where only spaces follow
unfoldable pub lone_word : List ℕ → Option (List ℕ)
lone_word text =
    let end = position_or_len is_space text in
    if list_all is_space (drop end text) then Some (take end text) else None

-- a word, or a number without a sign
unfoldable pub plain_literal : List ℕ → Option Leaf
plain_literal word =
    if bytes_eq word (codes "undefined") then Some Undefined
    else if bytes_eq word (codes "null") then Some Null
    else if bytes_eq word (codes "true") then Some (Boolean true)
    else if bytes_eq word (codes "false") then Some (Boolean false)
    else option_map (λ n. Num (pos n)) (number_of word)

-- a number behind `-`; zero has no such literal
unfoldable pub negative : ℕ → Option Leaf
negative n = if n == 0 then None else Some (Num (neg_ℤ (pos n)))

-- a text as a literal, with spaces at both ends and behind its `-`
unfoldable pub literal_of : List ℕ → Option Leaf
literal_of text =
    let rest = skip_spaces text in
    if starts_with nat_eq rest (codes "-")
    then option_and_then (λ digits. option_and_then negative (number_of digits)) (lone_word (skip_spaces (drop 1 rest)))
    else option_and_then plain_literal (lone_word rest)
