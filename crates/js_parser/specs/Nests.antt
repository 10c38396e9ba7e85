-- A function value that reads what stands one level further inside.
-- This project's own; docs/SCRIPTS.md, "Levels".
use Rattle.std.specs.Prelude.{◌≡◌, ℕ, Result, IfOk}
use denote.Ref.{MutBor}
use Rattle.ivm_text.specs.declared.fault.NoMemory.{NoMemory}
use Rattle.parser_rules.specs.declared.form.Form.{Form}
use Rattle.parser_rules.specs.Grammar.{within}
use Rattle.js_parser.specs.declared.reader.Reader.{Reader}
use Rattle.js_parser.specs.State.{state_of}

pub record Nests (levels : ℕ) (pre : MutBor Reader → ℕ → Form → Type 0)
    (post : MutBor Reader → ℕ → Form → Result (Unit {0}) NoMemory → MutBor Reader → Type 0) : Type 0 where
  pub callable : (old : MutBor Reader) (form : Form) → pre old levels form
  pub reads : (old new : MutBor Reader) (form : Form) (r : Result (Unit {0}) NoMemory) → post old levels form r new
      → IfOk r (λ _. state_of new.now ≡ within levels form (state_of old.now))
