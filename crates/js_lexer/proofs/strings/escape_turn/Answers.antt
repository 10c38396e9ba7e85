use Rattle.js_lexer.proofs.StringLemmas.{good_at, bad_at}
use Rattle.js_lexer.proofs.strings.escape_turn.Goals as goal

pub returns-in-Some-clause-turns : goal.returns-in-Some-clause-turns
returns-in-Some-clause-turns c =
    good_at c.args.quote c.args.c c.args.d c.args.text.now c.args.behind.now _ _ c.requires.text_is c.requires.escapes c.in-Some.ensures.value

pub returns-in-None-clause-turns : goal.returns-in-None-clause-turns
returns-in-None-clause-turns c =
    bad_at c.args.quote c.args.c c.args.d c.args.text.now c.args.behind.now c.requires.text_is c.requires.escapes c.in-None.ensures.value
