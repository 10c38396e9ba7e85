use Rattle.std.proofs.Common.{◌≡◌, ◌++◌, length}
use Rattle.js_syntax.specs.Names.{named}
use Rattle.js_syntax.proofs.listing.add_names.Given as goal

abbrev pub invariant-loop-names : goal.invariant-loop-names
invariant-loop-names l = l.list.items ++ named l.names l.places ≡ l.fn.list.items ++ named l.fn.names l.fn.places

abbrev pub decreases-loop-names : goal.decreases-loop-names
decreases-loop-names l = length l.names
