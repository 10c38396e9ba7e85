use Rattle.std.proofs.Common.{arith}
use Rattle.std.specs.Prelude.{slice_set}
use Rattle.std.proofs.lemmas.Grind.{common_steps}
use Rattle.charged_heap.proofs.ClosedLaws.{closed_pushed}
use Rattle.charged_heap.proofs.heap.Heap.push.Goals as goal

pub returns-clause-closed : goal.returns-clause-closed
returns-clause-closed c =
    closed_pushed c.args.self.now (record { items = slice_set c.self.inside.items.items c.args.n c.push_element.new.self; limit = c.self.inside.limit }) c.args.n c.args.value
    (grind (arith, common_steps)) c.requires.there
