-- What stands at the front of a text.
-- ECMA-262, Lexical Grammar: InputElementDiv, the longest at its place; docs/SCRIPTS.md, "Tokens".
use Rattle.std.specs.Prelude.{◌≡◌, ℕ, Bool, true, false, not, ◌||◌, List, [], ◌∷◌, nat_eq, None, Some, ℤ, pos}
use Rattle.ivm_text.specs.Text.{encode_utf16_all}
use Rattle.ivm_text.specs.declared.refusal.RefusalKind.{RefusalKind}
use Rattle.ivm_text.specs.declared.refusal.RefusalKind.TheVariants.{BadCharacter, OpenComment, OpenString, BadEscape, NumberOutOfProfile}
use Rattle.js_lexer.specs.declared.token.TokenKind.{TokenKind}
use Rattle.js_lexer.specs.declared.token.TokenKind.TheVariants as kinds
use Rattle.js_lexer.specs.declared.letters.Begin.{Begin}
use Rattle.js_lexer.specs.declared.letters.Begin.TheVariants as begins
use Rattle.js_lexer.specs.Letters.{Text, begin_of}
use Rattle.js_lexer.specs.Gaps.{to_line, past_star}
use Rattle.js_lexer.specs.Words.{word_of, behind_word}
use Rattle.js_lexer.specs.Numbers.{number}
use Rattle.js_lexer.specs.Strings.{Inside, closed, unclosed, bad}
use Rattle.js_lexer.specs.Punctuators.{punctuators, IsLongest, NoneStands, is_fraction}

pub data Seen : Type 0 where
  -- nothing
  ended : Seen
  -- white space, a line terminator or a comment; whether a line terminator is in it, and the text
  -- behind it
  gap : Bool → Text → Seen
  -- a token: what it is, its text, its number, and the text behind it
  token : TokenKind → List ℕ → ℤ → Text → Seen
  -- what is refused, at the front of this text
  fault : RefusalKind → Text → Seen

-- the text doesn't go on as a comment does behind its first `/`
abbrev pub no_comment : Text → Bool
no_comment [] = true
no_comment (c ∷ t) = not (nat_eq c 47 || nat_eq c 42)

-- c begins no other thing than a punctuator
abbrev pub may_mark : Begin → Text → Bool
may_mark begins.Line t = false
may_mark begins.White t = false
may_mark begins.Slash t = no_comment t
may_mark begins.Word t = false
may_mark begins.Digit t = false
may_mark begins.Quote t = false
may_mark begins.Mark t = true

pub data Front : Text → Seen → Type 0 where
  text_end : Front [] ended
  -- White Space
  white_space : {c : ℕ} {t : Text} → begin_of c ≡ begins.White → Front (c ∷ t) (gap false t)
  -- Line Terminators
  line_terminator : {c : ℕ} {t : Text} → begin_of c ≡ begins.Line → Front (c ∷ t) (gap true t)
  -- Comments
  line_comment : {t : Text} → Front (47 ∷ 47 ∷ t) (gap false (to_line t))
  block_comment : {t u : Text} {l : Bool} → past_star false t ≡ Some (l, u) → Front (47 ∷ 42 ∷ t) (gap l u)
  open_comment : {t : Text} → past_star false t ≡ None → Front (47 ∷ 42 ∷ t) (fault OpenComment (47 ∷ 42 ∷ t))
  -- Names and Keywords
  word : {c : ℕ} {t : Text} → begin_of c ≡ begins.Word
      → Front (c ∷ t) (token kinds.Word (encode_utf16_all (c ∷ word_of t)) (pos 0) (behind_word t))
  -- Numeric Literals
  numeral : {c n : ℕ} {t u : Text} → begin_of c ≡ begins.Digit → number c t ≡ Some (n, u)
      → Front (c ∷ t) (token kinds.Num [] (pos n) u)
  other_numeral : {c : ℕ} {t : Text} → begin_of c ≡ begins.Digit → number c t ≡ None
      → Front (c ∷ t) (fault NumberOutOfProfile (c ∷ t))
  fraction : {c : ℕ} {t p u : Text} → may_mark (begin_of c) t ≡ true → IsLongest punctuators (c ∷ t) p u
      → is_fraction p u ≡ true → Front (c ∷ t) (fault NumberOutOfProfile (c ∷ t))
  -- String Literals
  whole_string : {q : ℕ} {t u : Text} {units : List ℕ} → begin_of q ≡ begins.Quote → Inside q t (closed units u)
      → Front (q ∷ t) (token kinds.Text units (pos 0) u)
  open_string : {q : ℕ} {t : Text} → begin_of q ≡ begins.Quote → Inside q t unclosed
      → Front (q ∷ t) (fault OpenString (q ∷ t))
  bad_escape : {q : ℕ} {t at : Text} → begin_of q ≡ begins.Quote → Inside q t (bad at)
      → Front (q ∷ t) (fault BadEscape at)
  -- Punctuators
  punctuator : {c : ℕ} {t p u : Text} → may_mark (begin_of c) t ≡ true → IsLongest punctuators (c ∷ t) p u
      → is_fraction p u ≡ false → Front (c ∷ t) (token kinds.Punct p (pos 0) u)
  -- and no other character
  bad_character : {c : ℕ} {t : Text} → may_mark (begin_of c) t ≡ true → NoneStands punctuators (c ∷ t)
      → Front (c ∷ t) (fault BadCharacter (c ∷ t))
