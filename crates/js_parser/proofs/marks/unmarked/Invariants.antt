use Rattle.std.proofs.Common.{◌≡◌, false, replicate}
use Rattle.js_parser.proofs.marks.unmarked.Given as goal

abbrev pub invariant-loop-n : goal.invariant-loop-n
invariant-loop-n l = l.marks ≡ replicate l._n false
