use Rattle.std.proofs.Common.{◌≡◌}
use Rattle.js_parser.specs.Marks.{kept_below}
use Rattle.js_parser.proofs.prune.kept_nodes.Given as goal

abbrev pub invariant-loop-n : goal.invariant-loop-n
invariant-loop-n l = l.script ≡ kept_below l.nodes l.marks l.n
