-- The tokens of a text, or its first fault.
-- ECMA-262, Lexical Grammar: the text is read from left to right, and the longest element is taken
-- at each place; docs/SCRIPTS.md, "Tokens".
use Rattle.std.specs.Prelude.{◌≡◌, ℕ, ◌-◌, Bool, false, ◌||◌, List, [], ◌∷◌, ◌++◌, length, take, None, Result, Ok, Err, ℤ}
use Rattle.std.specs.Str.{IsUtf8, chars, encode_utf8_all}
use Rattle.ivm_text.specs.Text.{fault_place}
use Rattle.ivm_text.specs.declared.refusal.Refusal.{Refusal}
use Rattle.ivm_text.specs.declared.refusal.RefusalKind.{RefusalKind}
use Rattle.ivm_text.specs.declared.refusal.RefusalKind.TheVariants.{BadUtf8}
use Rattle.js_lexer.specs.declared.token.Token.{Token}
use Rattle.js_lexer.specs.declared.token.TokenKind.{TokenKind}
use Rattle.js_lexer.specs.declared.token.SyntaxFault.{SyntaxFault}
use Rattle.js_lexer.specs.declared.token.SyntaxFault.TheVariants.{Refused, NoMemory}
use Rattle.js_lexer.specs.Letters.{Text}
use Rattle.js_lexer.specs.Front.{Front, ended, gap, token, fault}

-- how many bytes a text takes in UTF-8
abbrev pub byte_len : Text → ℕ
byte_len t = length (encode_utf8_all t)

-- how many bytes stand before t, with which the text `whole` ends
abbrev pub place_of : Text → Text → ℕ
place_of whole t = byte_len (take (length whole - length t) whole)

-- the tokens of a text, or the kind of its first fault and the text at whose front it is
abbrev pub Reading : Type 0
Reading = Result (List Token) (RefusalKind × Text)

-- these tokens, and then those that are still to come
abbrev pub after : List Token → Reading → Reading
after ts (Ok us) = Ok (ts ++ us)
after ts (Err f) = Err f

abbrev pub token_of : TokenKind → List ℕ → ℤ → ℕ → Bool → Token
token_of kind units n place line = record { kind = kind; text = units; number = n; place = place; after_line = line }

-- what t, with which `whole` ends, is read as; `l` says whether a line terminator stands before it,
-- behind the last token
pub data Reads (whole : Text) : Bool → Text → Reading → Type 0 where
  at_end : {l : Bool} {t : Text} → Front t ended → Reads whole l t (Ok [])
  past_gap : {l m : Bool} {t u : Text} {r : Reading} → Front t (gap m u) → Reads whole (l || m) u r → Reads whole l t r
  past_token : {l : Bool} {t u : Text} {kind : TokenKind} {units : List ℕ} {n : ℤ} {r : Reading}
      → Front t (token kind units n u) → Reads whole false u r
      → Reads whole l t (after (token_of kind units n (place_of whole t) l ∷ []) r)
  at_fault : {l : Bool} {t at : Text} {kind : RefusalKind} → Front t (fault kind at) → Reads whole l t (Err (kind, at))

-- the bytes are a text of these tokens
abbrev pub AreTokens : List ℕ → List Token → Type 0
AreTokens bytes tokens = IsUtf8 bytes × Reads (chars bytes) false (chars bytes) (Ok tokens)

abbrev pub refusal : RefusalKind → ℕ → Refusal
refusal kind place = record { kind = kind; place = place; word = None }

-- why the bytes are no text of tokens: they are no text, or else this is the first fault from left
-- to right
pub data IsRefusal : List ℕ → Refusal → Type 0 where
  not_utf8 : {bytes : List ℕ} → ¬ (IsUtf8 bytes) → IsRefusal bytes (refusal BadUtf8 (fault_place bytes))
  first_fault : {bytes : List ℕ} {kind : RefusalKind} {at : Text} → IsUtf8 bytes
      → Reads (chars bytes) false (chars bytes) (Err (kind, at))
      → IsRefusal bytes (refusal kind (place_of (chars bytes) at))

abbrev pub IsFaultOf : List ℕ → SyntaxFault → Type 0
IsFaultOf bytes (Refused r) = IsRefusal bytes r
IsFaultOf bytes NoMemory = Unit {0}

-- a text is read in one way only
pub record HasOneReading (bytes : List ℕ) : Type 0 where
  pub tokens : (ts us : List Token) → AreTokens bytes ts → AreTokens bytes us → ts ≡ us
  pub refusals : (r s : Refusal) → IsRefusal bytes r → IsRefusal bytes s → r ≡ s
  pub either : (ts : List Token) (r : Refusal) → AreTokens bytes ts → IsRefusal bytes r → ⊥
