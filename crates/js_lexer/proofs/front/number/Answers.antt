use Rattle.std.proofs.Common.{refl}
use Rattle.js_lexer.proofs.FrontLemmas.{numeral_at, other_numeral_at}
use Rattle.js_lexer.proofs.front.number.Goals as goal

pub returns-in-Some-clause-front : goal.returns-in-Some-clause-front
returns-in-Some-clause-front c =
    numeral_at c.args.c c.in-Some.n _ c.args.text.now c.args.tail.now _ _ c.requires.text_is c.requires.begins c.new.ensures
    refl c.in-Some.ensures.value

pub returns-in-None-clause-front : goal.returns-in-None-clause-front
returns-in-None-clause-front c =
    other_numeral_at c.args.c c.args.text.now c.args.tail.now c.requires.text_is c.requires.begins c.in-None.ensures.value
