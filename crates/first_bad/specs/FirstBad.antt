-- What the first bad token of a text is.
-- This project's own; docs/SCRIPTS.md, "Refusals of the grammar".
use Rattle.std.specs.Prelude.{◌≡◌, ◌⊎◌, ℕ, List, [], ◌∷◌, ◌++◌, codes}
use Rattle.js_lexer.specs.declared.token.Token.{Token}
use Rattle.js_lexer.specs.declared.token.TokenKind.TheVariants.{Word}
use Rattle.parser_rules.specs.declared.class.Class.TheVariants.{Foreign}
use Rattle.parser_rules.specs.declared.form.Why.{Why}
use Rattle.parser_rules.specs.declared.form.Why.TheVariants.{Unexpected, TooDeep}
use Rattle.parser_rules.specs.Classes.{class_of}
use Rattle.parser_rules.specs.Work.{Work, going, stuck}
use Rattle.parser_rules.specs.Rules.{Rule}
use Rattle.parser_rules.specs.Grammar.{reading}
use Rattle.first_bad.specs.Viable.{Reads, Viable, BeginsWithin}

-- the token is the word `new`, and begins no construction before these tokens
abbrev pub IsOtherNew : Token → List Token → Type 0
IsOtherNew t v = (t.kind ≡ Word) × (t.text ≡ codes "new") × (class_of (t ∷ v) ≡ Foreign)

-- ---- the bad token

-- us, a token and those behind it, or nothing at the end, can't stand behind the tokens before
pub record IsUnexpected (whole : Rule) (before us : List Token) : Type 0 where
  -- they are no text, however many levels may be open,
  pub no_text : ¬ (Reads whole (before ++ us))
  -- and no text begins with the tokens up to that one, however it goes on;
  pub no_start : (t : Token) (v : List Token) → us ≡ t ∷ v → ¬ (IsOtherNew t v)
      → ¬ (Viable whole (before ++ t ∷ []))
  -- with a `new` that begins no construction one may begin, but only where it does begin one
  pub no_other : (t : Token) (v more : List Token) → us ≡ t ∷ v → class_of (t ∷ v) ≡ class_of (t ∷ more)
      → ¬ (Reads whole (before ++ t ∷ more))

-- us is a token, and those behind it; texts may begin with it too, but none in which no more than
-- these levels are open at it and before it
pub record OpensTooMany (whole : Rule) (levels : ℕ) (before us : List Token) : Type 0 where
  pub token : Token
  pub behind : List Token
  pub is : us ≡ token ∷ behind
  pub no_new : ¬ (IsOtherNew token behind)
  pub may_go_on : Viable whole (before ++ token ∷ [])
  pub too_deep : ¬ (BeginsWithin whole levels (before ++ token ∷ []))

-- the reason for which us is refused behind the tokens before, where so many levels may be open
abbrev pub IsRefused : Why → Rule → ℕ → List Token → List Token → Type 0
IsRefused Unexpected whole levels before us = IsUnexpected whole before us
IsRefused TooDeep whole levels before us = OpensTooMany whole levels before us

-- ---- the first one

-- some text goes on behind the tokens before with this token, as a `new` that begins no construction
abbrev pub GoesOnWithNew : Rule → List Token → Token → Type 0
GoesOnWithNew whole before t =
    (more : List Token) × IsOtherNew t more × Reads whole (before ++ t ∷ more)

-- the first bad token of ts is the first of us, refused for such a reason; where us is nothing, the
-- text ends too early
pub record IsFirstBad (whole : Rule) (levels : ℕ) (ts : List Token) (why : Why)
    (us : List Token) : Type 0 where
  pub before : List Token
  pub split : ts ≡ before ++ us
  -- a text begins with the tokens before it, within these levels,
  pub may_go_on : BeginsWithin whole levels before
  -- also with each `new` among them that begins no construction, as such a one,
  pub goes_on : (a b : List Token) (t : Token) → before ≡ a ++ t ∷ b → IsOtherNew t (b ++ us)
      → GoesOnWithNew whole a t
  -- and with the bad one none, or none within these levels
  pub refused : IsRefused why whole levels before us

-- wherever reading by this rule stands, it stands at the first bad token
abbrev pub StandsAtFirstBad : Rule → Type 0
StandsAtFirstBad whole =
    (levels : ℕ) (ts : List Token) (why : Why) (us : List Token)
    → reading levels whole ts ≡ stuck why us → IsFirstBad whole levels ts why us

-- however many levels may be open, each list of tokens is read, or has a first bad token; a list
-- that is read has none, and no list has two, or one for two reasons
pub record HasOneRefusal (whole : Rule) : Type 0 where
  pub some : (levels : ℕ) (ts : List Token)
      → ((w : Work) × (reading levels whole ts ≡ going w))
      ⊎ ((why : Why) × (us : List Token) × IsFirstBad whole levels ts why us)
  pub none : (levels : ℕ) (ts : List Token) (w : Work) (why : Why) (us : List Token)
      → reading levels whole ts ≡ going w → ¬ (IsFirstBad whole levels ts why us)
  pub one : (levels : ℕ) (ts : List Token) (why other : Why) (us vs : List Token)
      → IsFirstBad whole levels ts why us → IsFirstBad whole levels ts other vs
      → (why ≡ other) × (us ≡ vs)
