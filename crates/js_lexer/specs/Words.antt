-- The further characters of a word.
-- ECMA-262, Names and Keywords, without escapes; docs/SCRIPTS.md, "Words".
use Rattle.std.specs.Prelude.{[], ◌∷◌, if◌then◌else◌}
use Rattle.js_lexer.specs.Letters.{Text, continues_word}

-- the characters at the front that continue a word, as many as there are
abbrev pub word_of : Text → Text
word_of [] = []
word_of (c ∷ t) = if continues_word c then c ∷ word_of t else []

-- the text behind them
abbrev pub behind_word : Text → Text
behind_word [] = []
behind_word (c ∷ t) = if continues_word c then behind_word t else c ∷ t
