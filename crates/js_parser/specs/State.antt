-- Where a reader stands.
-- This project's own; docs/SCRIPTS.md, "How the grammar is written".
use Rattle.std.specs.Prelude.{◌≡◌, ℕ, List, drop, Option, Some, None, Result, IfOk}
use Rattle.ivm_text.specs.declared.fault.NoMemory.{NoMemory}
use Rattle.js_lexer.specs.declared.token.Token.{Token}
use Rattle.parser_rules.specs.declared.form.Why.{Why}
use Rattle.parser_rules.specs.Work.{Work, State, going, stuck}
use Rattle.parser_rules.specs.Rules.{Rule, Test, Action, run, after, take_one}
use Rattle.parser_rules.specs.Grammar.{within}
use Rattle.js_parser.specs.declared.reader.Reader.{Reader}
use Rattle.js_parser.specs.Changes.{work_in}

abbrev pub rest_of : Reader → List Token
rest_of r = drop r.at (r.tokens.now)

abbrev pub state_from : Option Why → Work → State
state_from None w = going w
state_from (Some why) w = stuck why w.rest

unfoldable pub state_of : Reader → State
state_of r = state_from r.refused (work_in (rest_of r) r.builder)

-- save for want of memory, the reader does what the rule says
abbrev pub Runs : ℕ → Rule → Result (Unit {0}) NoMemory → Reader → Reader → Type 0
Runs levels rule result old new = IfOk result (λ _. state_of new ≡ run (within levels) rule (state_of old))

abbrev pub Acts : Action → Result (Unit {0}) NoMemory → Reader → Reader → Type 0
Acts action result old new = IfOk result (λ _. state_of new ≡ after action (state_of old))

abbrev pub Takes : Test → Reader → Reader → Type 0
Takes test old new = state_of new ≡ take_one test (state_of old)
