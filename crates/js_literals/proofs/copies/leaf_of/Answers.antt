use Rattle.std.proofs.Common.{sym, ◌∙◌, ap}
use Rattle.js_literals.specs.Copies.{is_node_kind}
use Rattle.js_literals.specs.View.{tree_at}
use Rattle.js_literals.proofs.Nodes.{stands}
use Rattle.js_literals.proofs.Walks.{leaf_node, leaf_plain, mentions_node, mentions_none}
use Rattle.js_literals.proofs.copies.leaf_of.Goals as goal

pub returns-in_ok-push-clause-leaf : goal.returns-in_ok-push-clause-leaf
returns-in_ok-push-clause-leaf c =
    let s = stands c.args.script.now c.args.number c.node.result.now c.node.ensures.node c.node.ensures.kids in
    leaf_node _ _ (tree_at c.args.script.now c.args.number) (ap is_node_kind s.kind ∙ sym c.is_node.ensures ∙ c.if-is_node.true) c.len-node.ensures

pub returns-in_ok-push-clause-mentioned : goal.returns-in_ok-push-clause-mentioned
returns-in_ok-push-clause-mentioned c =
    let s = stands c.args.script.now c.args.number c.node.result.now c.node.ensures.node c.node.ensures.kids in
    mentions_node c.args.script.now c.args.number c.args.mentioned.now c.push.new.self (ap is_node_kind s.kind ∙ sym c.is_node.ensures ∙ c.if-is_node.true) (c.requires.within, c.requires.naturals) c.in_ok-push.ensures.ok

pub returns-else-is_node-clause-leaf : goal.returns-else-is_node-clause-leaf
returns-else-is_node-clause-leaf c =
    let s = stands c.args.script.now c.args.number c.node.result.now c.node.ensures.node c.node.ensures.kids in
    leaf_plain _ (tree_at c.args.script.now c.args.number) c.primitive.result (ap is_node_kind s.kind ∙ sym c.is_node.ensures ∙ c.if-is_node.false) c.primitive.ensures

pub returns-else-is_node-clause-mentioned : goal.returns-else-is_node-clause-mentioned
returns-else-is_node-clause-mentioned c =
    let s = stands c.args.script.now c.args.number c.node.result.now c.node.ensures.node c.node.ensures.kids in
    mentions_none c.args.script.now (tree_at c.args.script.now c.args.number) c.args.mentioned.now (ap is_node_kind s.kind ∙ sym c.is_node.ensures ∙ c.if-is_node.false)
