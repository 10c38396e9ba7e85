use Rattle.std.proofs.Common.{◌≡◌, length, ap, sym, ◌∙◌, arith, subst, List}
use Rattle.js_syntax.specs.declared.node.Node.{Node}
use Rattle.js_syntax.specs.Shape.{AreBelow}
use Rattle.js_parser.specs.Marks.{kept_below}
use Rattle.js_parser.proofs.NodeLemmas.{kept_more, length-kept_below}
use Rattle.js_parser.proofs.prune.kept_nodes.Goals as goal

pub loop-n-init : goal.loop-n-init
unfolding kept_below
loop-n-init c = c.new-script.ensures

pub add-requires-clause-kids : goal.add-requires-clause-kids
add-requires-clause-kids c =
    let count : length c.loop-n.script ≡ c.loop-n.n = ap (λ (nodes : List Node). length nodes) c.loop-n.invariant ∙ length-kept_below c.args.nodes.now c.args.marks.now c.loop-n.n in
    subst (AreBelow c.in_ok-kept_node.field-0.kids) (sym count) c.in_ok-kept_node.ensures.kids

pub loop-n-preserved : goal.loop-n-preserved
loop-n-preserved c =
    kept_more c.args.nodes.now c.args.marks.now c.loop-n.n c.loop-n.script c.add.new.self c.in_ok-kept_node.field-0 c.is_marked.result
    c.loop-n.invariant c.is_marked.ensures c.in_ok-kept_node.ensures.node c.in_ok-add.ensures.ok

pub returns : goal.returns
returns c =
    let all : c.loop-n.n ≡ length c.args.nodes.now = omega arith in
    c.loop-n.invariant ∙ ap (λ n. kept_below c.args.nodes.now c.args.marks.now n) all
