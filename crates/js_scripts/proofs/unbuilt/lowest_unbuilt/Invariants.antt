use Rattle.std.proofs.Common.{◌≡◌}
use Rattle.js_scripts.specs.Lowest.{lowest_below}
use Rattle.js_scripts.proofs.unbuilt.lowest_unbuilt.Given as goal

abbrev pub invariant-loop-n : goal.invariant-loop-n
invariant-loop-n l = l.lowest ≡ lowest_below l.script l.n
