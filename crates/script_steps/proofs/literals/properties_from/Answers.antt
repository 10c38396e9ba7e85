use Rattle.std.proofs.Common.{◌<◌, length, arith}
use Rattle.js_trees.specs.Tree.{kid_count}
use Rattle.script_meaning.specs.Places.{form_at}
use Rattle.script_steps.proofs.CallLemmas.{property_begins}
use Rattle.script_steps.proofs.literals.properties_from.Goals as goal

pub returns-then-place-property_count-clause-step : goal.returns-then-place-property_count-clause-step
returns-then-place-property_count-clause-step c =
    let within : c.args.place < kid_count (form_at c.args.scripts.now c.args.site.script c.args.node).kids = omega arith in
    let named : c.args.place < length (form_at c.args.scripts.now c.args.site.script c.args.node).head.names = omega arith in
    property_begins c.args.scripts.now c.value.result c.args.node c.args.place c.kid_at-part.result c.args.object c.args.site
    within named c.kid_at-part.ensures c.value.ensures
