use Rattle.std.proofs.Common.{ap, ◌∙◌}
use Rattle.js_syntax.specs.Noted.{least}
use Rattle.js_syntax.proofs.NameLemmas.{twice_noted}
use Rattle.js_syntax.proofs.StepLemmas.{twice_step, twice_end, twice_short}
use Rattle.js_syntax.proofs.twice.first_twice.Goals as goal

pub loop-left-preserved : goal.loop-left-preserved
loop-left-preserved c =
    twice_step c.args.shared _ _ _ _ _ c.loop-left.told c.earlier_of-told.result c.fault_of.result c.loop-left.left.now c.it-item.result c.in-len1-up.len_at_least c.loop-left.invariant c.it-item.is c.fault_of.ensures c.earlier_of-told.ensures
    c.in_ok-note.ensures.others c.in_ok-note.ensures.functions

pub returns : goal.returns
returns c = twice_end c.args.shared _ _ _ c.loop-left.told c.loop-left.left.now c.in_default.len_below c.loop-left.invariant ∙ ap least (twice_noted c.args.shared c.args.list.now)

pub returns-then-list-lt2 : goal.returns-then-list-lt2
returns-then-list-lt2 c = twice_short c.args.shared c.args.list.now c.if-list-lt2.true
