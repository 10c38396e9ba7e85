use Rattle.std.proofs.Common.{sym, ◌∙◌}
use Rattle.js_syntax.specs.Tree as syntax
use Rattle.js_parser.proofs.Works as works
use Rattle.js_parser.proofs.builder.Builder.bare_name.Goals as goal

pub returns-then-is_bare : goal.returns-then-is_bare
returns-then-is_bare c = works.ok_map c.named_at.result
    (λ _ e. e ∙ sym (works.bare_here c.args.self.now.nodes c.args.piece c.node-node.result.now c.node-node.ensures.node
    ∙ works.bare_hit c.args.piece.start (syntax.head_of c.args.piece.node c.node-node.result.now) (sym c.is_bare.ensures ∙ c.if-is_bare.true)))
    c.named_at.ensures

pub returns-else-is_bare : goal.returns-else-is_bare
returns-else-is_bare c = sym (works.bare_here c.args.self.now.nodes c.args.piece c.node-node.result.now c.node-node.ensures.node
    ∙ works.bare_miss c.args.piece.start (syntax.head_of c.args.piece.node c.node-node.result.now) (sym c.is_bare.ensures ∙ c.if-is_bare.false))
