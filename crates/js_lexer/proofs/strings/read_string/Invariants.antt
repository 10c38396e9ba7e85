use Rattle.std.proofs.Common.{◌≤◌, length}
use Rattle.js_lexer.specs.Strings.{Ending, before, Inside}
use Rattle.js_lexer.proofs.strings.read_string.Given as goal

abbrev pub invariant-loop-rest : goal.invariant-loop-rest
invariant-loop-rest l =
    ((e : Ending) → Inside l.quote l.rest e → Inside l.quote l.fn.text (before l.units e))
    × (length l.rest ≤ length l.fn.text)

abbrev pub decreases-loop-rest : goal.decreases-loop-rest
decreases-loop-rest l = length l.rest
