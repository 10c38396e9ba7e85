-- What a string comes to.
-- ECMA-262, String Literals: DoubleStringCharacters, SingleStringCharacters; docs/SCRIPTS.md,
-- "Strings".
use Rattle.std.specs.Prelude.{◌≡◌, ℕ, ◌||◌, List, [], ◌∷◌, ◌++◌, nat_eq, Option, None, Some, if◌then◌else◌}
use Rattle.std.specs.Char.Escape.{encode_utf16}
use Rattle.js_lexer.specs.Letters.{Text}
use Rattle.js_lexer.specs.Escapes.{escape}

-- what a string comes to behind its first quote
pub data Ending : Type 0 where
  -- it stands for these units, and this is the text behind its last quote
  closed : List ℕ → Text → Ending
  -- the text or the line ends first
  unclosed : Ending
  -- the backslash at the front of this text begins no escape
  bad : Text → Ending

-- these units stand before what is still to come
abbrev pub before : List ℕ → Ending → Ending
before us (closed vs u) = closed (us ++ vs) u
before us unclosed = unclosed
before us (bad at) = bad at

-- what a character is in a string whose quotes are q
pub data Part : Type 0 where
  quote : Part
  line_end : Part
  backslash : Part
  plain : Part

-- LS and PS may stand in strings, so LF and CR alone end a line
abbrev pub part_of : ℕ → ℕ → Part
part_of q c = if nat_eq c q then quote else (if nat_eq c 10 || nat_eq c 13 then line_end
    else (if nat_eq c 92 then backslash else plain))

-- the units of what an escape stands for
abbrev pub units_for : Option ℕ → List ℕ
units_for None = []
units_for (Some code) = encode_utf16 code

-- what the text comes to in a string whose quotes are q
pub data Inside : ℕ → Text → Ending → Type 0 where
  closes : {q c : ℕ} {t : Text} → part_of q c ≡ quote → Inside q (c ∷ t) (closed [] t)
  text_ends : {q : ℕ} → Inside q [] unclosed
  line_ends : {q c : ℕ} {t : Text} → part_of q c ≡ line_end → Inside q (c ∷ t) unclosed
  lone_backslash : {q c : ℕ} → part_of q c ≡ backslash → Inside q (c ∷ []) (bad (c ∷ []))
  bad_escape : {q c d : ℕ} {t : Text} → part_of q c ≡ backslash → escape d t ≡ None
      → Inside q (c ∷ d ∷ t) (bad (c ∷ d ∷ t))
  good_escape : {q c d : ℕ} {t u : Text} {code : Option ℕ} {e : Ending} → part_of q c ≡ backslash
      → escape d t ≡ Some (code, u) → Inside q u e → Inside q (c ∷ d ∷ t) (before (units_for code) e)
  character : {q c : ℕ} {t : Text} {e : Ending} → part_of q c ≡ plain → Inside q t e
      → Inside q (c ∷ t) (before (encode_utf16 c) e)
