use Rattle.std.proofs.Common.{arith}
use Rattle.js_trees.specs.Tree.{tree_of}
use Rattle.js_trees.specs.Declarations.{declarations}
use Rattle.js_trees.proofs.DeclarationLemmas.{declarations_from_more, declarations_from_all}
use Rattle.js_trees.proofs.declare.declarations.Goals as goal

pub loop-i-preserved : goal.loop-i-preserved
loop-i-preserved c =
    let kids = (tree_of c.args.script.now c.args.n).kids in
    declarations_from_more c.loop-i.list c.add_declared.new.list (declarations kids) c.loop-i.i kids (tree_of c.args.script.now c.kid.result)
    (omega (arith, c.kid_count-i-end.ensures)) c.kid.ensures.tree c.in_ok-add_declared.ensures c.loop-i.invariant

pub returns : goal.returns
returns c =
    let kids = (tree_of c.args.script.now c.args.n).kids in
    declarations_from_all c.loop-i.list (declarations kids) c.loop-i.i kids (omega (arith, c.kid_count-i-end.ensures)) c.loop-i.invariant
