use Rattle.js_syntax.proofs.StepLemmas.{parts_step}
use Rattle.js_syntax.proofs.faults.parts_fault.Goals as goal

pub loop-left-preserved : goal.loop-left-preserved
loop-left-preserved c =
    parts_step c.args.noted.now c.args.around _ c.loop-left.told c.earlier_of-told.result c.part_fault.result c.loop-left.left.now c.in-len1-up.len_at_least c.loop-left.invariant c.part_fault.ensures c.earlier_of-told.ensures
