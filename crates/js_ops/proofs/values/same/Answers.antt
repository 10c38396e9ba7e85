use Rattle.js_ops.proofs.SameLemmas.{same_values}
use Rattle.js_ops.proofs.values.same.Goals as goal

pub returns-else-left-right-clause-law : goal.returns-else-left-right-clause-law
returns-else-left-right-clause-law c =
    same_values c.args.heap.now c.args.left c.args.right c.in-Item-Item.left c.in-Item-Item.right c.is_same_text.result c.in-Item-Item.is-0 c.in-Item-Item.is-1
    c.if-left-right.false cc
