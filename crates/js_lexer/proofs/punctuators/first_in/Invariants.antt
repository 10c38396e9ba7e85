use Rattle.std.proofs.Common.{◌≡◌, drop}
use Rattle.js_lexer.specs.Punctuators.{first_of, spellings}
use Rattle.js_lexer.proofs.punctuators.first_in.Given as goal

abbrev pub invariant-loop-spelling : goal.invariant-loop-spelling
invariant-loop-spelling l =
    first_of (spellings (drop l.spelling-index l.table)) l.text ≡ first_of (spellings l.table) l.text
