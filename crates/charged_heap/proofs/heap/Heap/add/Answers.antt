use Rattle.std.proofs.Common.{arith}
use Rattle.std.proofs.lemmas.Grind.{common_steps}
use Rattle.charged_heap.proofs.ClosedLaws.{closed_more}
use Rattle.charged_heap.proofs.heap.Heap.add.Goals as goal

pub returns-clause-closed : goal.returns-clause-closed
returns-clause-closed c = closed_more c.args.self.now (record { items = c.push.new.self.items; limit = c.self.inside.limit }) c.args.item (grind (arith, common_steps))
