use Rattle.std.proofs.Common.{◌≡◌, ◌≤◌, length}
use Rattle.ivm_text.specs.Text.{max_number}
use Rattle.js_lexer.specs.Numbers.{digits}
use Rattle.js_lexer.proofs.numbers.read_digits.Given as goal

abbrev pub invariant-loop-rest : goal.invariant-loop-rest
invariant-loop-rest l =
    (digits l.base l.fn.first l.fn.text ≡ digits l.base l.n l.rest) × (length l.rest ≤ length l.fn.text) × (l.n ≤ max_number)

abbrev pub decreases-loop-rest : goal.decreases-loop-rest
decreases-loop-rest l = length l.rest
