use Rattle.std.proofs.Common.{◌≡◌, map, take}
use Rattle.js_parser.proofs.builder.numbers_of.Given as goal

abbrev pub invariant-loop-piece : goal.invariant-loop-piece
invariant-loop-piece l = l.kids ≡ map (λ p. p.node) (take l.piece-index l.piece-items)
