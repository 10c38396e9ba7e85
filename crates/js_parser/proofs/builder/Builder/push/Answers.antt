use Rattle.std.proofs.Common.{List, ap}
use Rattle.js_parser.specs.declared.draft.Piece.{Piece}
use Rattle.js_parser.proofs.Built as built
use Rattle.js_parser.proofs.Works as works
use Rattle.js_parser.proofs.builder.Builder.push.Goals as goal

pub returns : goal.returns
returns c = works.ok_map c.put_piece.result
    (λ _ e rest. built.pushed_work rest c.args.self.now.nodes c.args.self.now.top (record (c.args.self.now.top) { pieces = c.put_piece.new.pieces }) c.args.self.now.below c.args.piece
    (ap (λ (ps : List Piece). record (c.args.self.now.top) { pieces = ps }) e))
    c.put_piece.ensures.ok
