-- Where comments end.
-- ECMA-262, Comments; docs/SCRIPTS.md, "Gaps".
use Rattle.std.specs.Prelude.{ℕ, Bool, false, ◌||◌, [], ◌∷◌, nat_eq, Option, None, Some, if◌then◌else◌}
use Rattle.js_lexer.specs.Letters.{Text, is_line}

-- the text from its first line terminator on
abbrev pub to_line : Text → Text
to_line [] = []
to_line (c ∷ t) = if is_line c then c ∷ t else to_line t

-- the text behind this character, where it begins with it
abbrev pub past : ℕ → Text → Option Text
past d [] = None
past d (c ∷ t) = if nat_eq c d then Some t else None

-- whether one of them is a line terminator, and the text behind the first `*/`; `l` where one came
-- before
abbrev pub past_star : Bool → Text → Option (Bool × Text)
past_star l [] = None
past_star l (c ∷ t) = closes l (nat_eq c 42) (past 47 t) (past_star (l || is_line c) t)
  where
    closes : Bool → Bool → Option Text → Option (Bool × Text) → Option (Bool × Text)
    closes l false u further = further
    closes l star None further = further
    closes l star (Some u) further = Some (l, u)
