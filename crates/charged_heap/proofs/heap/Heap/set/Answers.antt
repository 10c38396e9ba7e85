use Rattle.std.proofs.Common.{arith}
use Rattle.std.specs.Prelude.{slice_set}
use Rattle.std.proofs.lemmas.Grind.{common_steps}
use Rattle.charged_heap.proofs.ClosedLaws.{closed_property}
use Rattle.charged_heap.proofs.GrowthLaws.{grows_property}
use Rattle.charged_heap.proofs.heap.Heap.set.Goals as goal

pub returns-clause-grown : goal.returns-clause-grown
returns-clause-grown c =
    grows_property c.args.self.now (record { items = slice_set c.self.inside.items.items c.args.n c.set_property.new.self; limit = c.self.inside.limit }) c.args.n c.args.key.now c.args.value
    (grind (arith, common_steps))

pub returns-clause-closed : goal.returns-clause-closed
returns-clause-closed c =
    closed_property c.args.self.now (record { items = slice_set c.self.inside.items.items c.args.n c.set_property.new.self; limit = c.self.inside.limit }) c.args.n c.args.key.now c.args.value
    (grind (arith, common_steps)) c.requires.there
