use Rattle.std.proofs.Common.{◌≡◌, ◌≤◌, length}
use Rattle.js_lexer.specs.Escapes.{to_brace}
use Rattle.js_lexer.proofs.escapes.read_to_brace.Given as goal

abbrev pub invariant-loop-rest : goal.invariant-loop-rest
invariant-loop-rest l =
    (to_brace 0 l.fn.text ≡ to_brace l.code l.rest) × (length l.rest ≤ length l.fn.text) × (l.code ≤ 0x10FFFF)

abbrev pub decreases-loop-rest : goal.decreases-loop-rest
decreases-loop-rest l = length l.rest
