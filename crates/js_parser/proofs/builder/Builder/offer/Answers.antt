use Rattle.std.proofs.Common.{[], Some, None, sym, ◌∙◌}
use Rattle.js_parser.specs.View.{grown, part_at}
use Rattle.js_parser.specs.Changes.{work_in}
use Rattle.js_parser.proofs.Works as works
use Rattle.js_parser.proofs.builder.Builder.offer.Goals as goal

pub returns-in-None : goal.returns-in-None
returns-in-None c = λ rest. works.offer_none (work_in rest c.args.self.now) (works.no_parts (grown [] c.args.self.now.nodes) _ c.in-None.ensures.last)

pub returns-in-Some-2 : goal.returns-in-Some-2
returns-in-Some-2 c = works.ok_map c.push_name.result
    (λ _ e rest. works.offer_as (work_in rest c.args.self.now) _ (part_at (grown [] c.args.self.now.nodes) c.in-Some.piece) _ (Some (c.in-Some-2.name, c.in-Some-2.place))
    (works.last_part (grown [] c.args.self.now.nodes) _ (c.in-Some.ensures.last.0) c.in-Some.piece (c.in-Some.ensures.last.1))
    (sym c.in-Some-2.is ∙ c.in_ok-name-in-Some.ensures) (e rest))
    c.push_name.ensures

pub returns-in-None-2 : goal.returns-in-None-2
returns-in-None-2 c = λ rest. works.offer_as (work_in rest c.args.self.now) _ (part_at (grown [] c.args.self.now.nodes) c.in-Some.piece) _ None
    (works.last_part (grown [] c.args.self.now.nodes) _ (c.in-Some.ensures.last.0) c.in-Some.piece (c.in-Some.ensures.last.1))
    (sym c.in-None-2.is ∙ c.in_ok-name-in-Some.ensures) (c.only_expressions.ensures rest)
