-- The punctuators, and the longest that a text begins with.
-- ECMA-262, Punctuators; docs/SCRIPTS.md, "Punctuators".
use Rattle.std.specs.Prelude.{◌≡◌, ℕ, ◌≤◌, Bool, true, false, not, ◌&&◌, List, [], ◌∷◌, ◌++◌, length, nat_eq, Option, None, Some, codes, map, ◌⊎◌, if◌then◌else◌}
use Rattle.std.specs.Borrow.{Bor}
use Rattle.js_lexer.specs.Letters.{Text, begins_digit}

-- from the longest on
abbrev pub punctuators : List Text
punctuators =
    codes ">>>=" ∷ codes "..." ∷ codes "===" ∷ codes "!==" ∷ codes ">>>" ∷ codes "**=" ∷ codes "<<=" ∷ codes ">>="
    ∷ codes "&&=" ∷ codes "||=" ∷ codes "??=" ∷ codes "<=" ∷ codes ">=" ∷ codes "==" ∷ codes "!=" ∷ codes "**"
    ∷ codes "++" ∷ codes "--" ∷ codes "<<" ∷ codes ">>" ∷ codes "&&" ∷ codes "||" ∷ codes "??" ∷ codes "?."
    ∷ codes "+=" ∷ codes "-=" ∷ codes "*=" ∷ codes "/=" ∷ codes "%=" ∷ codes "&=" ∷ codes "|=" ∷ codes "^="
    ∷ codes "=>" ∷ codes "{" ∷ codes "}" ∷ codes "(" ∷ codes ")" ∷ codes "[" ∷ codes "]" ∷ codes "." ∷ codes ";"
    ∷ codes "," ∷ codes "<" ∷ codes ">" ∷ codes "+" ∷ codes "-" ∷ codes "*" ∷ codes "/" ∷ codes "%" ∷ codes "&"
    ∷ codes "|" ∷ codes "^" ∷ codes "!" ∷ codes "~" ∷ codes "?" ∷ codes ":" ∷ codes "=" ∷ []

-- this is `?.`, or `.`
abbrev pub is_chain : Text → Bool
is_chain [] = false
is_chain (a ∷ []) = false
is_chain (a ∷ b ∷ []) = nat_eq a 63 && nat_eq b 46
is_chain (a ∷ b ∷ c ∷ t) = false

abbrev pub is_dot : Text → Bool
is_dot [] = false
is_dot (a ∷ []) = nat_eq a 46
is_dot (a ∷ b ∷ t) = false

-- OptionalChainingPunctuator: no digit stands behind `?.`
abbrev pub may_stand : Text → Text → Bool
may_stand p u = not (is_chain p && begins_digit u)

-- a `.` before a digit begins a fraction
abbrev pub is_fraction : Text → Text → Bool
is_fraction p u = is_dot p && begins_digit u

abbrev pub Among : List Text → Text → Type 0
Among [] p = ⊥
Among (q ∷ qs) p = (p ≡ q) ⊎ Among qs p

-- the text is the punctuator p and then u
pub record Stands (table : List Text) (t p u : Text) : Type 0 where
  pub among : Among table p
  pub whole : t ≡ p ++ u
  pub allowed : may_stand p u ≡ true

-- no punctuator that the text begins with is longer
pub record IsLongest (table : List Text) (t p u : Text) : Type 0 where
  pub here : Stands table t p u
  pub longest : (other more : Text) → Stands table t other more → length other ≤ length p

-- no punctuator stands at its front
abbrev pub NoneStands : List Text → Text → Type 0
NoneStands table t = (p u : Text) → Stands table t p u → ⊥

-- ---- the same as a function; no caller needs this

-- the text behind p, where it begins with p
abbrev pub past_all : Text → Text → Option Text
past_all [] t = Some t
past_all (p ∷ ps) [] = None
past_all (p ∷ ps) (c ∷ t) = if nat_eq c p then past_all ps t else None

-- the text behind p, where p stands at the front
abbrev pub where_allowed : Text → Option Text → Option Text
where_allowed p None = None
where_allowed p (Some u) = if may_stand p u then Some u else None

abbrev pub behind : Text → Text → Option Text
behind p t = where_allowed p (past_all p t)

-- p where it stands, or else what else does
abbrev pub or_else : Text → Option Text → Option (Text × Text) → Option (Text × Text)
or_else p None further = further
or_else p (Some u) further = Some (p, u)

-- the first that stands at the front
unfoldable pub first_of : List Text → Text → Option (Text × Text)
first_of [] t = None
first_of (p ∷ ps) t = or_else p (behind p t) (first_of ps t)

-- a table of slices
abbrev pub spellings : List (Bor (List ℕ)) → List Text
spellings table = map (λ (b : Bor (List ℕ)). b.now) table
