use Rattle.std.proofs.Common.{◌≡◌, [], sym, subst, ◌∙◌}
use Rattle.js_syntax.specs.Tree.{Trees}
use Rattle.grammar_laws.specs.Formed.{AreFormed}
use Rattle.js_parser.specs.Changes.{last_tree}
use Rattle.js_parser.specs.View.{grown, tree_of}
use Rattle.js_parser.proofs.Endings as endings
use Rattle.js_parser.proofs.Pruned as pruned
use Rattle.js_parser.proofs.scripts.finished.Goals as goal

pub unwrap-root-requires : goal.unwrap-root-requires
unwrap-root-requires c = endings.some_last (grown [] c.args.builder.nodes) c.args.builder.top.pieces c.last_piece.result c.last_piece.ensures.last c.requires.root

pub prune-requires-clause-formed : goal.prune-requires-clause-formed
prune-requires-clause-formed c =
    let same : last_tree c.args.builder ≡ tree_of c.up_to-nodes.result =
    endings.last_tree_at c.args.builder.nodes c.up_to-nodes.result c.args.builder.top.pieces c.last_piece.result c.unwrap-root.result c.last_piece.ensures.known c.last_piece.ensures.last c.unwrap-root.ensures c.up_to-nodes.ensures in
    subst (λ (t : Trees). AreFormed t) same c.requires.formed

pub returns-clause-ok : goal.returns-clause-ok
returns-clause-ok c =
    let same : last_tree c.args.builder ≡ tree_of c.up_to-nodes.result =
    endings.last_tree_at c.args.builder.nodes c.up_to-nodes.result c.args.builder.top.pieces c.last_piece.result c.unwrap-root.result c.last_piece.ensures.known c.last_piece.ensures.last c.unwrap-root.ensures c.up_to-nodes.ensures in
    c.in_ok-prune.ensures.same ∙ sym same

pub returns-clause-nodes : goal.returns-clause-nodes
returns-clause-nodes c = pruned.of_their_tree c.up_to-nodes.result c.in_ok-prune.field-0 c.in_ok-prune.ensures.nodes c.in_ok-prune.ensures.same c.in_ok-prune.ensures.tree
