use Rattle.std.proofs.Common.{sym, ap, ◌∙◌}
use Rattle.js_literals.specs.Copies.{is_minus, constant}
use Rattle.js_literals.specs.View.{tree_at}
use Rattle.js_literals.proofs.Nodes.{stands}
use Rattle.js_literals.proofs.Firsts.{is_negative, is_constant}
use Rattle.js_literals.proofs.copies.primitive.Goals as goal

pub returns-then-is_minus : goal.returns-then-is_minus
returns-then-is_minus c =
    let s = stands c.args.script.now c.args.number c.node-node.result.now c.node-node.ensures.node c.node-node.ensures.kids in
    is_negative (tree_at c.args.script.now c.args.number) c.negative.result (ap is_minus s.kind ∙ sym c.is_minus.ensures ∙ c.if-is_minus.true) c.negative.ensures

pub returns-else-is_minus : goal.returns-else-is_minus
returns-else-is_minus c =
    let s = stands c.args.script.now c.args.number c.node-node.result.now c.node-node.ensures.node c.node-node.ensures.kids in
    is_constant (tree_at c.args.script.now c.args.number) c.constant.result (ap is_minus s.kind ∙ sym c.is_minus.ensures ∙ c.if-is_minus.false)
    (c.constant.ensures ∙ ap (λ k. constant k c.node-node.result.now.number) (sym s.kind) ∙ ap (λ z. constant (tree_at c.args.script.now c.args.number).head.kind z) (sym s.number))
