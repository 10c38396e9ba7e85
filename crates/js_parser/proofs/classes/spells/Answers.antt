use Rattle.std.proofs.Common.{sym, ◌∙◌}
use Rattle.js_parser.proofs.Words.{differs_at, same_at, same_whole}
use Rattle.js_parser.proofs.classes.spells.Goals as goal

pub returns-then-ne : goal.returns-then-ne
returns-then-ne c =
    differs_at c.args.bytes.now c.args.text.now c.loop-place.place c.get.result c.loop-place-test.true c.get.ensures (sym c.ne.ensures ∙ c.if-ne.true)

pub loop-place-preserved : goal.loop-place-preserved
loop-place-preserved c = record {
  long = c.loop-place.invariant.long;
  same = same_at c.args.bytes.now c.args.text.now c.loop-place.place c.get.result c.loop-place-test.true c.loop-place.invariant.long
      c.get.ensures (sym c.ne.ensures ∙ c.if-ne.false) c.loop-place.invariant.same;
}

pub returns : goal.returns
returns c = same_whole c.args.bytes.now c.args.text.now c.loop-place.place c.loop-place.invariant.long c.loop-place-test.false c.loop-place.invariant.same
