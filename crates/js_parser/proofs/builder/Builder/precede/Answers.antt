use Rattle.std.proofs.Common.{List, [], refl, sym, ap, ◌∙◌}
use Rattle.js_syntax.specs.declared.node.Node.{Node}
use Rattle.parser_rules.specs.Work.{pushed}
use Rattle.js_parser.specs.View.{grown, part_at}
use Rattle.js_parser.specs.Changes.{work_in}
use Rattle.js_parser.proofs.Works as works
use Rattle.js_parser.proofs.builder.Builder.precede.Goals as goal

pub returns-in-None : goal.returns-in-None
returns-in-None c = λ rest.
    works.precede_none c.args.kind (work_in rest c.args.self.now) _ (works.no_parts (grown [] c.args.self.now.nodes) _ c.in-None.ensures.pieces.0)
    (works.same_pieces rest c.args.self.now.nodes c.args.self.now.top c.args.self.now.below _ (c.in-None.ensures.pieces.1 ∙ sym c.in-None.ensures.pieces.0))

pub returns-in_ok-open-in-Some : goal.returns-in_ok-open-in-Some
returns-in_ok-open-in-Some c = works.ok_map c.push.result
    (λ _ e rest. works.precede_some c.args.kind (work_in rest c.args.self.now) _ (work_in rest c.open.new.self) _ (part_at (grown [] c.args.self.now.nodes) c.in-Some.piece) _
    (works.last_part (grown [] c.args.self.now.nodes) _ _ c.in-Some.piece c.in-Some.ensures.pieces) refl (c.in_ok-open-in-Some.ensures.work rest)
    (e rest ∙ ap (λ (nodes : List Node). pushed (part_at (grown [] nodes) c.in-Some.piece) (work_in rest c.open.new.self)) c.in_ok-open-in-Some.ensures.nodes))
    c.push.ensures
