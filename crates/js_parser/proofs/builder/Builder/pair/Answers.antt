use Rattle.std.proofs.Common.{[], refl, sym, ◌∙◌}
use Rattle.js_parser.specs.View.{grown}
use Rattle.js_parser.specs.Changes.{work_in}
use Rattle.js_parser.proofs.Works as works
use Rattle.js_parser.proofs.builder.Builder.pair.Goals as goal

pub returns-in-None : goal.returns-in-None
returns-in-None c = λ rest.
    works.pair_none c.args.kind (work_in rest c.args.self.now) _ (works.no_parts (grown [] c.args.self.now.nodes) _ c.in-None.ensures.pieces.0)
    (works.same_pieces rest c.args.self.now.nodes c.args.self.now.top c.args.self.now.below _ (c.in-None.ensures.pieces.1 ∙ sym c.in-None.ensures.pieces.0))

pub returns-in-Some : goal.returns-in-Some
returns-in-Some c = works.ok_map c.pair_with.result
    (λ _ e rest. e (work_in rest c.args.self.now) rest (works.last_part (grown [] c.args.self.now.nodes) _ _ c.in-Some.second c.in-Some.ensures.pieces) refl)
    c.pair_with.ensures
