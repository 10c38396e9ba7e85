use Rattle.std.proofs.Common.{◌≡◌, length}
use Rattle.js_syntax.specs.Shape.{AreBelow}
use Rattle.js_parser.specs.Marks.{with_marks}
use Rattle.js_parser.proofs.marks.mark_all.Given as goal

abbrev pub invariant-loop-left : goal.invariant-loop-left
invariant-loop-left l = AreBelow l.left (length l.marks) × (with_marks l.left l.marks ≡ with_marks l.numbers l.fn.marks)

abbrev pub decreases-loop-left : goal.decreases-loop-left
decreases-loop-left l = length l.left
