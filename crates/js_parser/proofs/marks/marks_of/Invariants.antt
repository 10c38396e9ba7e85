use Rattle.std.proofs.Common.{◌≡◌, ℕ, ◌<◌, ◌≤◌, length}
use Rattle.js_syntax.specs.Shape.{AreBelow}
use Rattle.js_trees.specs.Tree.{node_at}
use Rattle.js_parser.specs.Marks.{marks_below, marks_of}
use Rattle.js_parser.proofs.marks.marks_of.Given as goal

abbrev pub invariant-loop-left : goal.invariant-loop-left
invariant-loop-left l = record {
  marks : marks_below l.nodes l.left l.marks ≡ marks_of l.nodes;
  places : length l.marks ≡ length l.nodes;
  within : l.left ≤ length l.nodes;
  below : (n : ℕ) → l.left ≤ n → n < length l.nodes → AreBelow ((node_at l.nodes n).kids) n;
}

abbrev pub decreases-loop-left : goal.decreases-loop-left
decreases-loop-left l = l.left
