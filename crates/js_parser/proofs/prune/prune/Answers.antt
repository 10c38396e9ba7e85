use Rattle.std.proofs.Common.{◌≡◌, ◌∙◌, ap, sym, length, List, Bool}
use Rattle.js_syntax.specs.declared.node.Node.{Node}
use Rattle.js_parser.specs.Marks.{is_marked, kept_below}
use Rattle.js_parser.specs.View.{tree_of}
use Rattle.js_parser.proofs.Pruned.{IsPruned, descending_tree, marked_formed, pruned}
use Rattle.js_parser.proofs.Works.{ok_map}
use Rattle.js_parser.proofs.prune.prune.Goals as goal

pub kept_nodes-requires : goal.kept_nodes-requires
kept_nodes-requires c = λ n marked.
    let nodes = c.args.nodes.now in
    marked_formed nodes (tree_of nodes) (descending_tree nodes c.requires.some c.in_ok-marks.ensures.below) c.requires.formed n
    (ap (λ (marks : List Bool). is_marked marks n) (sym c.in_ok-marks.ensures.marks) ∙ marked)

-- what was kept is pruned
kept : (c : goal.After-drop-marks-inside) (script : List Node) → script ≡ kept_below c.args.nodes.now c.in_ok-marks.marks (length c.args.nodes.now) → IsPruned c.args.nodes.now script
kept c script is =
    let nodes = c.args.nodes.now in
    pruned nodes script c.requires.some c.in_ok-marks.ensures.below (is ∙ ap (λ (marks : List Bool). kept_below nodes marks (length nodes)) c.in_ok-marks.ensures.marks)

pub returns-clause-nodes : goal.returns-clause-nodes
returns-clause-nodes c = ok_map c.kept_nodes.result (λ script is. (kept c script is).are) c.kept_nodes.ensures

pub returns-clause-same : goal.returns-clause-same
returns-clause-same c = ok_map c.kept_nodes.result (λ script is. (kept c script is).same) c.kept_nodes.ensures

pub returns-clause-tree : goal.returns-clause-tree
returns-clause-tree c = ok_map c.kept_nodes.result (λ script is. (kept c script is).its) c.kept_nodes.ensures
