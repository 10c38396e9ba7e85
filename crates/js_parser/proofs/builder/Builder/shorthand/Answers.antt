use Rattle.std.proofs.Common.{[], Some, sym, ap, ◌∙◌}
use Rattle.js_parser.specs.declared.draft.Draft.{Draft}
use Rattle.js_parser.specs.View.{grown, frame_of}
use Rattle.js_parser.specs.Changes.{work_in}
use Rattle.js_parser.proofs.Works as works
use Rattle.js_parser.proofs.builder.Builder.shorthand.Goals as goal

pub returns-in-Some : goal.returns-in-Some
returns-in-Some c = works.ok_map c.add.result
    (λ _ e rest. works.shorthand_some (work_in rest c.args.self.now) _ (frame_of (grown [] c.args.self.now.nodes) _) (c.in-Some.name, c.in-Some.place)
    (sym c.in-Some.is ∙ c.in_ok-name.ensures)
    (works.leaf_frame (grown [] c.args.self.now.nodes) _ c.in-Some.name c.in-Some.place
    (ap (λ (d : Draft). record d { name = Some c.in-Some.name; name_place = c.in-Some.place }) c.new-leaf.ensures))
    (e rest))
    c.add.ensures

pub returns-in-None : goal.returns-in-None
returns-in-None c = λ rest. works.shorthand_none (work_in rest c.args.self.now) (sym c.in-None.is ∙ c.in_ok-name.ensures)
