use Rattle.std.proofs.Common.{sym, subst}
use Rattle.isolate_meaning.specs.Replay.{MayPerform}
use Rattle.isolate_core.specs.Life.{CarriesOut, IsClosedLife, state_of}
use Rattle.isolate_core.proofs.CellLemmas.{closed_in, only_after, performed_whole}
use Rattle.isolate_core.proofs.cell.Cell.perform.Goals as goal

pub carry_out-requires-clause-closed : goal.carry_out-requires-clause-closed
carry_out-requires-clause-closed c =
    subst (λ life. IsClosedLife (state_of life)) (sym c.replace-life.ensures.value) (closed_in c.self.inside.isolate c.self.inside.limit c.self.inside.ledger c.self.inside.life c.self.invariant)

pub invariant_of-self-2 : goal.invariant_of-self-2
invariant_of-self-2 c =
    performed_whole c.texts_are_read_once.ensures c.args.task c.self.inside.isolate c.self.inside.limit c.self.inside.ledger c.push.new.self c.self.inside.life c.in_ok-life.life c.in_ok-life.entry
    c.self.invariant (subst (λ kept. MayPerform kept c.args.task) (sym c.self.view_is) c.requires) (subst (λ life. CarriesOut c.args.task life c.in_ok-life.life c.in_ok-life.entry) c.replace-life.ensures.value c.in_ok-life.ensures)
    c.in_ok-push.ensures.ok

pub returns-clause-only : goal.returns-clause-only
returns-clause-only c =
    only_after c.texts_are_read_once.ensures c.args.task c.self.inside.isolate c.self.inside.limit c.self.inside.ledger c.push.new.self c.self.inside.life c.in_ok-life.life c.in_ok-life.entry
    c.args.self.now c.self.view_is c.requires (subst (λ life. CarriesOut c.args.task life c.in_ok-life.life c.in_ok-life.entry) c.replace-life.ensures.value c.in_ok-life.ensures) c.in_ok-push.ensures.ok
