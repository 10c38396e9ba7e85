-- The places of a text's characters, and that of its end. No caller needs this.
-- This project's own.
use Rattle.std.specs.Prelude.{ℕ, ◌+◌, List, [], ◌∷◌}
use Rattle.std.specs.Char.{len_utf8}
use Rattle.js_lexer.specs.Letters.{Text}

-- where n bytes stand before them
abbrev pub places_from : ℕ → Text → List ℕ
places_from n [] = n ∷ []
places_from n (c ∷ t) = n ∷ places_from (n + len_utf8 c) t
