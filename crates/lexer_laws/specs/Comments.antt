-- Where a block comment ends.
-- ECMA-262, Comments: MultiLineComment; docs/SCRIPTS.md, "Gaps".
use Rattle.std.specs.Prelude.{◌≡◌, ◌≤◌, ◌↔◌, Bool, false, ◌∷◌, ◌++◌, length, None, Some}
use Rattle.std.specs.List.{list_any}
use Rattle.js_lexer.specs.Letters.{Text, is_line}
use Rattle.js_lexer.specs.Gaps.{past_star}

-- the text is the comment's characters, `*/` and the rest
abbrev pub ClosesAt : Text → Text → Text → Type 0
ClosesAt text body rest = text ≡ body ++ (42 ∷ 47 ∷ rest)

-- and no `*/` stands before that one
pub record EndsAt (text body rest : Text) : Type 0 where
  pub closes : ClosesAt text body rest
  pub first : (other more : Text) → ClosesAt text other more → length body ≤ length other

-- what is behind the first `*/`, and whether a line terminator stands before it; nothing where
-- there is no `*/`
pub record CommentEnds (text : Text) : Type 0 where
  pub ended : (line : Bool) (rest : Text)
      → (past_star false text ≡ Some (line, rest)) ↔ ((body : Text) × EndsAt text body rest × (list_any is_line body ≡ line))
  pub unended : (past_star false text ≡ None) ↔ ((body rest : Text) → ¬ (ClosesAt text body rest))
