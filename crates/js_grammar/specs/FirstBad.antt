-- The first token with which no text of a grammar begins.
-- This project's own; docs/SCRIPTS.md, "Refusals of the grammar" and "Levels".
use Rattle.std.specs.Prelude.{◌≡◌, ◌≤◌, ◌⊎◌, ℕ, zero, suc, List, [], ◌∷◌, ◌++◌, length}
use Rattle.js_syntax.specs.Tree.{Trees}
use Rattle.js_lexer.specs.declared.token.Token.{Token}
use Rattle.parser_rules.specs.declared.form.Form.{Form}
use Rattle.parser_rules.specs.declared.form.Why.{Why}
use Rattle.parser_rules.specs.declared.form.Why.TheVariants.{Unexpected, TooDeep}
use Rattle.parser_rules.specs.Work.{Part, stuck}
use Rattle.parser_rules.specs.Rules.{Rule}
use Rattle.parser_rules.specs.Grammar.{reading}
use Rattle.first_bad.specs.FirstBad.{IsOtherNew}
use Rattle.js_grammar.specs.Spots.{Reading}
use Rattle.js_grammar.specs.Derives.{FormOf, Reads, Text, DerivesBy}
use Rattle.js_grammar.specs.Exactly.{Begins}

-- ---- the levels of the first tokens alone

-- a form where so many levels may be open; beyond these so many more may be, but only by forms that
-- begin where no more than the last so many tokens are left
unfoldable pub ReadsUpTo : ℕ → ℕ → ℕ → Form → Reading Part
ReadsUpTo zero more last form p x q = (length p.rest ≤ last) × Reads more form p x q
ReadsUpTo (suc n) more last form p x q = FormOf (ReadsUpTo n more last) form p x q

-- some text begins with these tokens, and no more than these levels are open in it at any of them,
-- however many are open at the tokens behind them
abbrev pub BeginsWithin : Text → ℕ → List Token → Type 0
BeginsWithin TextBy levels before =
    (more : ℕ) × (behind : List Token) × (t : Trees)
    × TextBy (ReadsUpTo levels more (length behind)) (before ++ behind) t

-- ---- bad tokens

-- the tokens have no tree, however many levels may be open
abbrev pub NoTree : Text → List Token → Type 0
NoTree TextBy ts = (levels : ℕ) (t : Trees) → ¬ (DerivesBy TextBy levels ts t)

-- What is in view behind these tokens is bad:
pub data IsBad (TextBy : Text) (levels : ℕ) (before : List Token) : Why → List Token → Type 0 where
  -- the text is at its end, and these tokens are none,
  ends_too_early : NoTree TextBy before → IsBad TextBy levels before Unexpected []
  -- or no text begins with the token too,
  begins_nothing : {t : Token} {ts : List Token} → ¬ (Begins (DerivesBy TextBy) (before ++ t ∷ []))
      → IsBad TextBy levels before Unexpected (t ∷ ts)
  -- or it is a `new` that this project leaves out, and no text goes on with one that it leaves out,
  left_out : {t : Token} {ts : List Token}
      → IsOtherNew t ts → ((more : List Token) → IsOtherNew t more → NoTree TextBy (before ++ t ∷ more))
      → IsBad TextBy levels before Unexpected (t ∷ ts)
  -- or it is no such `new`, and texts begin with it too, but none in which no more than these levels
  -- are open up to it.
  too_deep : {t : Token} {ts : List Token} → ¬ (IsOtherNew t ts)
      → Begins (DerivesBy TextBy) (before ++ t ∷ [])
      → ¬ (BeginsWithin TextBy levels (before ++ t ∷ []))
      → IsBad TextBy levels before TooDeep (t ∷ ts)

-- ---- the first one

-- some text goes on behind these tokens with this one, as a `new` that is left out
abbrev pub GoesOnWithNew : Text → List Token → Token → Type 0
GoesOnWithNew TextBy before t =
    (more : List Token) × IsOtherNew t more
    × (levels : ℕ) × (u : Trees) × DerivesBy TextBy levels (before ++ t ∷ more) u

-- the tokens have no tree; some text begins with those before the ones that are left, within these
-- levels, and what is in view there is bad
pub record IsFirstBad (TextBy : Text) (levels : ℕ) (ts : List Token) (why : Why)
    (left : List Token) : Type 0 where
  pub before : List Token
  pub split : ts ≡ before ++ left
  pub none : (t : Trees) → ¬ (DerivesBy TextBy levels ts t)
  pub begins : BeginsWithin TextBy levels before
  -- a `new` among those before that is left out may stand where it does
  pub goes_on : (a b : List Token) (t : Token) → before ≡ a ++ t ∷ b → IsOtherNew t (b ++ left)
      → GoesOnWithNew TextBy a t
  pub bad : IsBad TextBy levels before why left

-- ---- what is proved

-- wherever the rule stands at a token, that is the first bad one
abbrev pub HasFirstBad : Rule → Text → Type 0
HasFirstBad whole TextBy =
    (levels : ℕ) (ts : List Token) (why : Why) (left : List Token)
    → reading levels whole ts ≡ stuck why left → IsFirstBad TextBy levels ts why left

-- however many levels may be open, tokens have a tree or a first bad one; those that have a tree
-- have none, and no tokens have two, or one for two reasons
pub record HasOneRefusal (TextBy : Text) : Type 0 where
  pub some : (levels : ℕ) (ts : List Token)
      → ((t : Trees) × DerivesBy TextBy levels ts t)
      ⊎ ((why : Why) × (left : List Token) × IsFirstBad TextBy levels ts why left)
  pub none : (levels : ℕ) (ts : List Token) (t : Trees) (why : Why) (left : List Token)
      → DerivesBy TextBy levels ts t → ¬ (IsFirstBad TextBy levels ts why left)
  pub one : (levels : ℕ) (ts : List Token) (why other : Why) (left others : List Token)
      → IsFirstBad TextBy levels ts why left → IsFirstBad TextBy levels ts other others
      → (why ≡ other) × (left ≡ others)
