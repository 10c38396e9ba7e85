use Rattle.std.proofs.Common.{inl, inr, arith}
use Rattle.std.proofs.lemmas.List.{nil_from_length}
use Rattle.js_lexer.proofs.StringLemmas.{closes_at, line_ends_at, lone_at, character_at, part-plain}
use Rattle.js_lexer.proofs.strings.take_turn.Goals as goal

pub returns-then-c-quote-clause-turns : goal.returns-then-c-quote-clause-turns
returns-then-c-quote-clause-turns c = closes_at c.args.quote c.args.c c.args.text.now c.args.tail.now c.requires c.if-c-quote.true

pub returns-then-c-eq10-clause-turns : goal.returns-then-c-eq10-clause-turns
returns-then-c-eq10-clause-turns c =
    line_ends_at c.args.quote c.args.c c.args.text.now c.args.tail.now c.requires c.if-c-quote.false (inl c.if-c-eq10.true)

pub returns-then-c-eq13-clause-turns : goal.returns-then-c-eq13-clause-turns
returns-then-c-eq13-clause-turns c =
    line_ends_at c.args.quote c.args.c c.args.text.now c.args.tail.now c.requires c.if-c-quote.false (inr c.if-c-eq13.true)

pub returns-in-empty-clause-turns : goal.returns-in-empty-clause-turns
returns-in-empty-clause-turns c =
    lone_at c.args.quote c.args.c c.args.text.now c.args.tail.now c.requires (nil_from_length c.args.tail.now (omega arith)) c.if-c-quote.false c.if-c-eq92.true

pub returns-clause-turns : goal.returns-clause-turns
returns-clause-turns c =
    character_at c.args.quote c.args.c c.args.text.now c.args.tail.now c.requires
    (part-plain c.args.quote c.args.c c.if-c-quote.false c.if-c-eq10.false c.if-c-eq13.false c.if-c-eq92.false)
