use Rattle.std.proofs.Common.{length, false}
use Rattle.js_lexer.specs.Tokens.{Reading, after, Reads}
use Rattle.js_lexer.proofs.lexer.read_tokens.Given as goal

abbrev pub invariant-elements : goal.invariant-elements
invariant-elements l =
    (r : Reading) → Reads l.text l.after_line l.rest r → Reads l.text false l.text (after l.tokens r)

abbrev pub decreases-elements : goal.decreases-elements
decreases-elements l = length l.rest
