use Rattle.std.proofs.Common.{subst}
use Rattle.js_lexer.specs.Strings.{Inside}
use Rattle.js_lexer.specs.Element.{ending_of}
use Rattle.js_lexer.specs.declared.strings.StringEnd.{StringEnd}
use Rattle.js_lexer.proofs.FrontLemmas.{string_at, open_string_at, bad_escape_at}
use Rattle.js_lexer.proofs.front.string.Goals as goal

pub returns-in-Closed-clause-front : goal.returns-in-Closed-clause-front
returns-in-Closed-clause-front c =
    string_at c.args.c c.args.text.now c.args.tail.now _ _ c.requires.text_is c.requires.begins
    (subst (λ (e : StringEnd). Inside c.args.c c.args.tail.now (ending_of e)) c.in-Closed.is c.in_ok-units.ensures.inside)

pub returns-in-Unclosed-clause-front : goal.returns-in-Unclosed-clause-front
returns-in-Unclosed-clause-front c =
    open_string_at c.args.c c.args.text.now c.args.tail.now c.requires.text_is c.requires.begins
    (subst (λ (e : StringEnd). Inside c.args.c c.args.tail.now (ending_of e)) c.in-Unclosed.is c.in_ok-units.ensures.inside)

pub returns-in-Bad-clause-front : goal.returns-in-Bad-clause-front
returns-in-Bad-clause-front c =
    bad_escape_at c.args.c c.args.text.now c.args.tail.now _ c.requires.text_is c.requires.begins
    (subst (λ (e : StringEnd). Inside c.args.c c.args.tail.now (ending_of e)) c.in-Bad.is c.in_ok-units.ensures.inside)
