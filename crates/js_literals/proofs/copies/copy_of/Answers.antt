use Rattle.std.proofs.Common.{sym, ap, ◌∙◌}
use Rattle.js_literals.specs.Copies.{is_node_kind, in_nodes}
use Rattle.js_literals.specs.View.{tree_at}
use Rattle.js_literals.proofs.Nodes.{stands}
use Rattle.js_literals.proofs.KindLemmas.{leaf_copy}
use Rattle.js_literals.proofs.copies.copy_of.Goals as goal

pub returns-in_ok-nodes : goal.returns-in_ok-nodes
returns-in_ok-nodes c =
    let s = stands c.args.script.now c.args.number c.node.result.now c.node.ensures.node c.node.ensures.kids in
    in_nodes (ap is_node_kind s.kind ∙ sym c.is_node.ensures ∙ c.if-is_node.true) c.in_ok-nodes.ensures

pub returns-else-is_node : goal.returns-else-is_node
returns-else-is_node c =
    let s = stands c.args.script.now c.args.number c.node.result.now c.node.ensures.node c.node.ensures.kids in
    leaf_copy (tree_at c.args.script.now c.args.number) _ _ (ap is_node_kind s.kind ∙ sym c.is_node.ensures ∙ c.if-is_node.false) c.new.ensures c.primitive-root.ensures
