use Rattle.std.proofs.Common.{take}
use Rattle.js_literals.specs.Told.{AreEach}
use Rattle.js_literals.specs.View.{trees_at}
use Rattle.js_literals.proofs.literals.arguments_of.Given as goal

abbrev pub invariant-loop-part : goal.invariant-loop-part
invariant-loop-part l = AreEach (trees_at l.script (take l.part-index l.parts)) l.told
