use Rattle.std.proofs.Common.{◌≡◌, [], length}
use Rattle.js_syntax.specs.Noted.{twice_keys, earlier_of, least}
use Rattle.js_syntax.proofs.twice.first_twice.Given as goal

abbrev pub invariant-loop-left : goal.invariant-loop-left
invariant-loop-left l =
    least (twice_keys l.shared [] [] l.fn.list) ≡ earlier_of l.told (least (twice_keys l.shared l.earlier.others.keys l.earlier.functions.keys l.left))

abbrev pub decreases-loop-left : goal.decreases-loop-left
decreases-loop-left l = length l.left
