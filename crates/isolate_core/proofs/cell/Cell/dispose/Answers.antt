use Rattle.isolate_core.proofs.CellLemmas.{stopped_whole}
use Rattle.isolate_core.proofs.cell.Cell.dispose.Goals as goal

pub invariant_of-self : goal.invariant_of-self
invariant_of-self c =
    stopped_whole c.self.inside.isolate c.self.inside.limit c.self.inside.ledger c.close.new.self c.self.inside.life c.in-Live.contents c.charged-cells.result
    c.self.invariant c.in-Live.is c.charged-cells.ensures.charge c.close.ensures
