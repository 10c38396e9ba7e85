use Rattle.std.proofs.Common.{List, [], ◌∷◌, sym, ap, ◌∙◌}
use Rattle.parser_rules.specs.Work.{Work, Part, pushed}
use Rattle.js_parser.specs.View.{grown, part_at, parts_then, frame_of, work_of}
use Rattle.js_parser.specs.Changes.{work_in}
use Rattle.js_parser.proofs.Works as works
use Rattle.js_parser.proofs.builder.Builder.pair_with.Goals as goal

pub returns-in-None : goal.returns-in-None
returns-in-None c = works.ok_map c.push.result
    (λ _ e w rest e0 e1. works.pair_one c.args.kind w (work_in rest c.args.self.now) _ (part_at (grown [] c.args.self.now.nodes) c.args.second)
    (e0 ∙ ap (λ (ps : List Part). part_at (grown [] c.args.self.now.nodes) c.args.second ∷ ps) (works.no_parts (grown [] c.args.self.now.nodes) _ c.in-None.ensures.pieces.0))
    (e1 ∙ ap (λ (ps : List Part). record w { top = record (w.top) { parts = ps } }) (works.no_parts (grown [] c.args.self.now.nodes) _ c.in-None.ensures.pieces.0))
    (e rest ∙ ap (λ (v : Work). pushed (part_at (grown [] c.args.self.now.nodes) c.args.second) v)
    (works.same_pieces rest c.args.self.now.nodes c.args.self.now.top c.args.self.now.below _ (c.in-None.ensures.pieces.1 ∙ sym c.in-None.ensures.pieces.0))))
    c.push.ensures

pub returns-in_ok-pair-in-Some : goal.returns-in_ok-pair-in-Some
returns-in_ok-pair-in-Some c = works.ok_map c.add.result
    (λ _ e w rest e0 e1.
    let made = grown [] c.args.self.now.nodes in
    let split = works.last_part made _ _ c.in-Some.first c.in-Some.ensures.pieces in
    works.pair_two c.args.kind w (work_of rest c.args.self.now.nodes (record (c.args.self.now.top) { pieces = c.take_piece.new.pieces }) c.args.self.now.below) _
    (frame_of made c.in_ok-pair-in-Some.pair) (part_at made c.in-Some.first) (part_at made c.args.second) _
    (e0 ∙ ap (λ (ps : List Part). part_at made c.args.second ∷ ps) split)
    (ap (λ (v : Work). record v { top = record (v.top) { parts = parts_then made c.take_piece.new.pieces [] } }) e1)
    (works.pair_frame made c.in_ok-pair-in-Some.pair c.args.kind c.in-Some.first c.args.second c.in_ok-pair-in-Some.ensures)
    (e rest))
    c.add.ensures
