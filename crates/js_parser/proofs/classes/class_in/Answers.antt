use Rattle.std.proofs.Common.{sym, ◌∙◌}
use Rattle.js_parser.proofs.TableLemmas.{class_hit, class_miss, class_end}
use Rattle.js_parser.proofs.classes.class_in.Goals as goal

pub returns-then-spells : goal.returns-then-spells
returns-then-spells c =
    sym (class_hit c.args.table.now c.loop-spelling.spelling-index _ c.args.text.now c.args.other c.loop-spelling-test.true (sym c.spells.ensures ∙ c.if-spells.true))
    ∙ c.loop-spelling.invariant

pub loop-spelling-preserved : goal.loop-spelling-preserved
loop-spelling-preserved c =
    class_miss c.args.table.now c.loop-spelling.spelling-index _ c.args.text.now c.args.other c.loop-spelling-test.true (sym c.spells.ensures ∙ c.if-spells.false)
    ∙ c.loop-spelling.invariant

pub returns : goal.returns
returns c = sym (class_end c.args.table.now c.loop-spelling.spelling-index c.args.text.now c.args.other c.loop-spelling-test.false) ∙ c.loop-spelling.invariant
