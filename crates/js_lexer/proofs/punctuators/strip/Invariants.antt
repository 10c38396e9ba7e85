use Rattle.std.proofs.Common.{◌≡◌, drop}
use Rattle.js_lexer.specs.Punctuators.{past_all}
use Rattle.js_lexer.proofs.punctuators.strip.Given as goal

abbrev pub invariant-loop-byte : goal.invariant-loop-byte
invariant-loop-byte l = past_all (drop l.byte-index l.spelling) l.rest ≡ past_all l.spelling l.fn.text
