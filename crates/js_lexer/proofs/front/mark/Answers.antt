use Rattle.std.proofs.Common.{sym, ◌∙◌, arith}
use Rattle.js_lexer.proofs.Longest.{behind_shorter}
use Rattle.js_lexer.proofs.FrontLemmas.{fraction_at, punctuator_at, no_token_at, longest_at}
use Rattle.js_lexer.proofs.front.mark.Goals as goal

pub returns-then-fraction-clause-front : goal.returns-then-fraction-clause-front
returns-then-fraction-clause-front c =
    fraction_at c.args.c c.args.text.now c.args.tail.now _ _ c.requires.text_is c.requires.marks c.in-Some.ensures.value
    (sym c.fraction.ensures ∙ c.if-fraction.true)

pub returns-in_ok-units-in-Some-clause-front : goal.returns-in_ok-units-in-Some-clause-front
returns-in_ok-units-in-Some-clause-front c =
    punctuator_at c.args.c c.args.text.now c.args.tail.now _ _ _ c.requires.text_is c.requires.marks c.in-Some.ensures.value
    (sym c.fraction.ensures ∙ c.if-fraction.false) c.in_ok-units-in-Some.ensures

pub returns-in_ok-units-in-Some-clause-within : goal.returns-in_ok-units-in-Some-clause-within
returns-in_ok-units-in-Some-clause-within c =
    (behind_shorter c.args.text.now _ _ (longest_at c.args.text.now _ _ c.in-Some.ensures.value), omega arith)

pub returns-in-None-clause-front : goal.returns-in-None-clause-front
returns-in-None-clause-front c =
    no_token_at c.args.c c.args.text.now c.args.tail.now c.requires.text_is c.requires.marks c.in-None.ensures.value
