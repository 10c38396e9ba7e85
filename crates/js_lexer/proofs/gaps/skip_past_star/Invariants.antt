use Rattle.std.proofs.Common.{◌≡◌, ◌≤◌, length, false}
use Rattle.js_lexer.specs.Gaps.{past_star}
use Rattle.js_lexer.proofs.gaps.skip_past_star.Given as goal

abbrev pub invariant-loop-rest : goal.invariant-loop-rest
invariant-loop-rest l = (past_star false l.fn.text ≡ past_star l.line l.rest) × (length l.rest ≤ length l.fn.text)

abbrev pub decreases-loop-rest : goal.decreases-loop-rest
decreases-loop-rest l = length l.rest
