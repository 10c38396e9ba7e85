use Rattle.js_lexer.proofs.FrontLemmas.{word_at}
use Rattle.js_lexer.proofs.front.word.Goals as goal

pub returns-clause-front : goal.returns-clause-front
returns-clause-front c =
    word_at c.args.c c.args.text.now c.args.tail.now _ _ c.requires.text_is c.requires.begins c.in_ok-units.ensures.word
    c.in_ok-units.ensures.behind
