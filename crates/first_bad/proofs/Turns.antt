-- Loops: a turn, and the loop that goes on; each turn takes a token.
use Rattle.std.proofs.Common.{◌≡◌, ℕ, ◌<◌, Bool, true, false, ◌&&◌}
use Rattle.parser_rules.specs.declared.form.Form.{Form}
use Rattle.parser_rules.specs.Work.{State}
use Rattle.parser_rules.specs.Rules.{Test, Rule, nothing_more, take, act, inside, ◌▸◌, either, many, refuse, passes, left, repeated, run}
use Rattle.parser_rules.specs.Grammar.{within}
use Rattle.parser_rules.proofs.Laws.{takes, Inside, Still, turning, repeated_go, repeated_end}
use Rattle.parser_rules.proofs.Takes.{within_takes, within_still}
use Rattle.first_bad.proofs.Front.{Front, run_front, within_front}

-- what the laws of rules ask of what stands further inside
pub record Below (at : Form → State → State) : Type 0 where
  pub inside : Inside at
  pub front : (form : Form) → Front (at form)
  pub still : (form : Form) → Still (at form)

pub within_below : (n : ℕ) → Below (within n)
within_below n = record { inside = within_takes n; front = within_front n; still = within_still n }

-- a loop
module _ (at : Form → State → State) (b : Below at) (test : Test) (rule : Rule) (e : takes rule ≡ true) where
  abbrev pub turn : State → State
  turn s = run at rule s

  abbrev pub loop : State → State
  loop s = repeated (passes test) (run at rule) s

  pub loop_goes : (s : State) → passes test s ≡ true → loop s ≡ loop (turn s)
  loop_goes s h = repeated_go (passes test) (run at rule) (turning at b.inside test rule e) s h

  pub loop_ends : (s : State) → passes test s ≡ false → loop s ≡ s
  loop_ends s h = repeated_end (passes test) (run at rule) s h

  pub turn_less : (s : State) → passes test s ≡ true → left (turn s) < left s
  turn_less s h = (turning at b.inside test rule e).less s h

  pub loop_front : Front loop
  loop_front = run_front at b.front (many test rule)

  pub turn_front : Front turn
  turn_front = run_front at b.front rule

-- each loop's turn takes a token
abbrev pub looped : Rule → Bool
looped nothing_more = true
looped (take test) = true
looped (act action) = true
looped (inside form) = true
looped (first ▸ second) = looped first && looped second
looped (either test first second) = looped first && looped second
looped (many test rule) = takes rule && looped rule
looped refuse = true
