use Rattle.std.proofs.Common.{arith}
use Rattle.std.specs.Prelude.{slice_set}
use Rattle.std.proofs.lemmas.Grind.{common_steps}
use Rattle.charged_heap.proofs.ClosedLaws.{closed_released}
use Rattle.charged_heap.proofs.heap.Heap.release.Goals as goal

pub returns-clause-closed : goal.returns-clause-closed
returns-clause-closed c =
    closed_released c.args.self.now (record { items = slice_set c.self.inside.items.items c.args.n c.release.new.self; limit = c.self.inside.limit }) c.args.n
    (grind (arith, common_steps)) c.requires.there
