use Rattle.std.proofs.Common.{◌≡◌, ◌++◌, length}
use Rattle.js_syntax.specs.Noted.{declared_at}
use Rattle.js_syntax.proofs.listing.add_all_declared.Given as goal

abbrev pub invariant-loop-left : goal.invariant-loop-left
invariant-loop-left l = l.list.items ++ declared_at l.functions l.nodes l.left ≡ l.fn.list.items ++ declared_at l.functions l.nodes l.fn.kids

abbrev pub decreases-loop-left : goal.decreases-loop-left
decreases-loop-left l = length l.left
