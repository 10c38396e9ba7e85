use Rattle.std.proofs.Common.{◌<◌, arith}
use Rattle.js_trees.specs.Tree.{kid_count}
use Rattle.script_meaning.specs.Places.{form_at}
use Rattle.script_steps.specs.After.{with_left}
use Rattle.script_steps.proofs.CallLemmas.{argument_begins}
use Rattle.script_steps.proofs.calls.arguments_from.Goals as goal

pub returns-then-place-kid_count_at-clause-step : goal.returns-then-place-kid_count_at-clause-step
returns-then-place-kid_count_at-clause-step c =
    let within : c.args.place < kid_count (form_at c.args.scripts.now c.args.site.script c.args.node).kids = omega arith in
    λ some at left. argument_begins c.args.scripts.now c.value.result c.args.node c.args.place c.kid_at-part.result
    c.args.function c.args.receiver c.args.values c.args.site within c.kid_at-part.ensures c.value.ensures at (with_left c.args.heap.now left)
