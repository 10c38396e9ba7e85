-- Which tokens are a text, and which a text may begin with.
-- This project's own; docs/SCRIPTS.md, "The grammar of scripts".
use Rattle.std.specs.Prelude.{◌≡◌, ℕ, zero, suc, List, ◌++◌, length, nat_le, if◌then◌else◌}
use Rattle.js_lexer.specs.declared.token.Token.{Token}
use Rattle.parser_rules.specs.declared.form.Form.{Form}
use Rattle.parser_rules.specs.Work.{Work, State, going, stuck}
use Rattle.parser_rules.specs.Rules.{Rule, run}
use Rattle.parser_rules.specs.Grammar.{within, beyond, rule_of, reading, at_start}

-- the rule reads these tokens, where some number of levels may be open
abbrev pub Reads : Rule → List Token → Type 0
Reads whole ts = (levels : ℕ) × (w : Work) × (reading levels whole ts ≡ going w)

-- some text begins with these tokens: the rule reads them with some tokens behind them
abbrev pub Viable : Rule → List Token → Type 0
Viable whole before = (more : List Token) × Reads whole (before ++ more)

-- ---- the levels of the first tokens alone

-- a form where no level is left: so many more may be open, but only where no more than the last so
-- many tokens are left
abbrev pub beyond_up_to : ℕ → ℕ → Form → State → State
beyond_up_to more last form (going w) =
    if nat_le (length w.rest) last then within more form (going w) else beyond form (going w)
beyond_up_to more last form (stuck why ts) = stuck why ts

-- a form where so many levels are left; beyond these so many more may be open, but only by forms
-- that begin where no more than the last so many tokens are left
unfoldable pub up_to : ℕ → ℕ → ℕ → Form → State → State
up_to zero more last form s = beyond_up_to more last form s
up_to (suc n) more last form s = run (up_to n more last) (rule_of form) s

-- what reading the tokens of a text comes to so
abbrev pub reading_up_to : ℕ → ℕ → ℕ → Rule → List Token → State
reading_up_to levels more last whole ts = run (up_to levels more last) whole (at_start ts)

-- some text begins with these tokens, and no more than these levels are open in it at any of them,
-- however many are open behind them
abbrev pub BeginsWithin : Rule → ℕ → List Token → Type 0
BeginsWithin whole levels before =
    (more : ℕ) × (behind : List Token) × (w : Work)
    × (reading_up_to levels more (length behind) whole (before ++ behind) ≡ going w)
