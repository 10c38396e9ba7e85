-- That the grammar by cases and a rule of the table are one grammar.
-- This project's own; docs/SCRIPTS.md, "The grammar by cases".
use Rattle.std.specs.Prelude.{◌≡◌, ◌↔◌, ◌≤◌, ℕ, List, ◌++◌}
use Rattle.ivm_text.specs.declared.refusal.Refusal.{Refusal}
use Rattle.js_syntax.specs.Tree.{Trees}
use Rattle.js_lexer.specs.declared.token.Token.{Token}
use Rattle.parser_rules.specs.Rules.{Rule}
use Rattle.first_bad.specs.Viable.{Viable}
use Rattle.parser_rules.specs.Grammar.{Answer, reading, answer_of, accepted, rejected}

-- which trees the tokens of a text have, where so many levels may be open
abbrev pub Derivation : Type 1
Derivation = ℕ → List Token → Trees → Type 0

-- what the table's rule for the whole of a text answers to a text of so many bytes and with these
-- tokens, where so many levels may be open
abbrev pub answer_at : Rule → ℕ → ℕ → List Token → Answer
answer_at whole levels end ts = answer_of end (reading levels whole ts)

-- some text begins with these tokens, however many levels are open in it
abbrev pub Begins : Derivation → List Token → Type 0
Begins Derived before = (levels : ℕ) × (more : List Token) × (t : Trees) × Derived levels (before ++ more) t

-- the rule accepts exactly the tokens that have a tree, with that tree, and refuses exactly those
-- that have none; where more levels may be open, tokens have the trees that they had; however many
-- may be open, they have at most one; and the rule reads a text that begins with some tokens
-- exactly where one that begins with them has a tree
pub record IsSameGrammar (whole : Rule) (Derived : Derivation) : Type 0 where
  pub accepts : (levels end : ℕ) (ts : List Token) (t : Trees) → (answer_at whole levels end ts ≡ accepted t) ↔ Derived levels ts t
  pub refuses : (levels end : ℕ) (ts : List Token) → ((r : Refusal) × (answer_at whole levels end ts ≡ rejected r)) ↔ ((t : Trees) → ¬ (Derived levels ts t))
  pub keeps : (levels more : ℕ) (ts : List Token) (t : Trees) → levels ≤ more → Derived levels ts t → Derived more ts t
  pub once : (levels others : ℕ) (ts : List Token) (t u : Trees) → Derived levels ts t → Derived others ts u → t ≡ u
  pub begins : (before : List Token) → Viable whole before ↔ Begins Derived before
