use Rattle.std.proofs.Common.{◌≡◌, ◌∷◌, length, take, drop}
use Rattle.std.specs.Prelude.{flat_map}
use Rattle.js_literals.specs.Copies.{inner_nodes, nodes_from}
use Rattle.js_literals.specs.View.{tree_at, trees_at, AreNumbers}
use Rattle.js_literals.proofs.Weights.{weights}
use Rattle.js_literals.proofs.copies.nodes_of.Given as goal

abbrev pub invariant-loop-alloc : goal.invariant-loop-alloc
invariant-loop-alloc l = record {
  order : trees_at l.script l.mentioned ≡ tree_at l.script l.root ∷ flat_map inner_nodes (take (length l.nodes) (trees_at l.script l.mentioned));
  told : l.nodes ≡ nodes_from 1 (take (length l.nodes) (trees_at l.script l.mentioned));
  numbers : AreNumbers l.script l.mentioned;
}

abbrev pub decreases-loop-alloc : goal.decreases-loop-alloc
decreases-loop-alloc l = weights (drop (length l.nodes) (trees_at l.script l.mentioned))
