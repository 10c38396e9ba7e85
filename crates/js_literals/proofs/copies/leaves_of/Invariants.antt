use Rattle.std.proofs.Common.{◌≡◌, ◌++◌, length, drop}
use Rattle.js_literals.specs.Copies.{leaves_from}
use Rattle.js_literals.specs.View.{trees_at}
use Rattle.js_literals.proofs.Walks.{Walk}
use Rattle.js_literals.proofs.copies.leaves_of.Given as goal

abbrev pub invariant-loop-kid : goal.invariant-loop-kid
invariant-loop-kid l = record {
  leaves : l.leaves ++ leaves_from (length l.mentioned) (trees_at l.script (drop l.kid-index l.kids)) ≡ leaves_from (length l.fn.mentioned) (trees_at l.script l.kids);
  walk : Walk l.script (trees_at l.script (drop l.kid-index l.kids)) (trees_at l.script l.kids) l.fn.mentioned l.mentioned;
}
