-- What a character can be in a script's text.
-- ECMA-262, White Space; Line Terminators; Names and Keywords; docs/SCRIPTS.md, "Characters".
use Rattle.std.specs.Prelude.{ℕ, Bool, false, ◌||◌, List, [], ◌∷◌, nat_eq, if◌then◌else◌}
use Rattle.std.specs.Int.{is_in_range}
use Rattle.unicode_ident.specs.Ident.{is_xid_start, is_xid_continue}
use Rattle.js_lexer.specs.declared.letters.Begin.{Begin}
use Rattle.js_lexer.specs.declared.letters.Begin.TheVariants.{Line, White, Slash, Word, Digit, Quote, Mark}

-- the characters of a text, in order
abbrev pub Text : Type 0
Text = List ℕ

-- LF, CR, LS and PS
abbrev pub is_line : ℕ → Bool
is_line c = nat_eq c 0x0A || nat_eq c 0x0D || nat_eq c 0x2028 || nat_eq c 0x2029

-- TAB, VT, FF, SP, NBSP, the other space separators of Unicode, and ZWNBSP
abbrev pub is_white : ℕ → Bool
is_white c = nat_eq c 0x09 || nat_eq c 0x0B || nat_eq c 0x0C || nat_eq c 0x20 || nat_eq c 0xA0 || nat_eq c 0x1680
    || is_in_range 0x2000 0x200A c || nat_eq c 0x202F || nat_eq c 0x205F || nat_eq c 0x3000 || nat_eq c 0xFEFF

abbrev pub is_digit : ℕ → Bool
is_digit c = is_in_range 48 57 c

-- the first character of a word: XID_Start, `$` or `_`
abbrev pub starts_word : ℕ → Bool
starts_word c = is_xid_start c || nat_eq c 36 || nat_eq c 95

-- each further one: XID_Continue, `$`, ZWNJ or ZWJ
abbrev pub continues_word : ℕ → Bool
continues_word c = is_xid_continue c || nat_eq c 36 || nat_eq c 0x200C || nat_eq c 0x200D

abbrev pub is_quote : ℕ → Bool
is_quote c = nat_eq c 39 || nat_eq c 34

-- what a character can begin; Mark is all that is left
abbrev pub begin_of : ℕ → Begin
begin_of c = if is_line c then Line else (if is_white c then White else (if nat_eq c 47 then Slash
    else (if starts_word c then Word else (if is_digit c then Digit else (if is_quote c then Quote else Mark)))))

abbrev pub begins_digit : Text → Bool
begins_digit [] = false
begins_digit (c ∷ t) = is_digit c
