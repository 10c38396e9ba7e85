use Rattle.std.proofs.Common.{arith}
use Rattle.std.proofs.lemmas.Grind.{common_steps}
use Rattle.charged_heap.proofs.ClosedLaws.{closed_all}
use Rattle.charged_heap.proofs.heap.Heap.add_all.Goals as goal

pub returns-clause-closed : goal.returns-clause-closed
returns-clause-closed c =
    closed_all c.args.self.now (record { items = c.append.new.self.items; limit = c.self.inside.limit }) c.args.items.items (grind (arith, common_steps))
