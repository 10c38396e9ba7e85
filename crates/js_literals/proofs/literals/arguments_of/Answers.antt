use Rattle.js_literals.proofs.Naturals.{fit_at}
use Rattle.js_literals.proofs.Texts.{each_goes, each_ends}
use Rattle.js_literals.proofs.literals.arguments_of.Goals as goal

pub argument-requires-clause-within : goal.argument-requires-clause-within
argument-requires-clause-within c = (c.requires.numbers c.loop-part.part-index 0 c.loop-part-test.true).0

pub argument-requires-clause-naturals : goal.argument-requires-clause-naturals
argument-requires-clause-naturals c = (c.requires.numbers c.loop-part.part-index 0 c.loop-part-test.true).1

pub argument-requires-clause-fit : goal.argument-requires-clause-fit
argument-requires-clause-fit c = fit_at c.args.script.now c.args.parts.now c.loop-part.part-index c.loop-part-test.true c.requires.fit

pub loop-part-preserved : goal.loop-part-preserved
loop-part-preserved c =
    each_goes c.args.script.now c.args.parts.now c.loop-part.part-index 0 c.loop-part.told c.push.new.self c.in_ok-one.one c.loop-part-test.true c.in_ok-one.ensures c.in_ok-push.ensures.ok
    c.loop-part.invariant

pub returns : goal.returns
returns c = each_ends c.args.script.now c.args.parts.now c.loop-part.part-index c.loop-part.told c.loop-part-test.false c.loop-part.invariant
