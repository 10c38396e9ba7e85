use Rattle.std.proofs.Common.{◌≡◌, length}
use Rattle.js_syntax.specs.Noted.{parts_fault, earlier_of}
use Rattle.js_syntax.proofs.faults.parts_fault.Given as goal

abbrev pub invariant-loop-left : goal.invariant-loop-left
invariant-loop-left l = parts_fault l.noted l.around l.fn.kids ≡ earlier_of l.told (parts_fault l.noted l.around l.left)

abbrev pub decreases-loop-left : goal.decreases-loop-left
decreases-loop-left l = length l.left
