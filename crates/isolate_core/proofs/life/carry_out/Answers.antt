use Rattle.isolate_core.specs.Done.{done_of}
use Rattle.isolate_core.proofs.LifeLemmas.{carried_live, carried_ended}
use Rattle.isolate_core.proofs.life.carry_out.Goals as goal

pub returns-in_ok-done-in-Live : goal.returns-in_ok-done-in-Live
returns-in_ok-done-in-Live c =
    carried_live c.args.task c.args.life c.in-Live.contents (done_of c.in_ok-done-in-Live.done) c.told.result c.in-Live.is
    c.in_ok-done-in-Live.ensures.acts c.in_ok-done-in-Live.ensures.closed c.told.ensures.state c.told.ensures.entry

pub returns-in_ok-entry-in-Ended : goal.returns-in_ok-entry-in-Ended
returns-in_ok-entry-in-Ended c = carried_ended c.args.task c.args.life c.in-Ended.by c.in_ok-entry-in-Ended.entry c.in-Ended.is c.in_ok-entry-in-Ended.ensures
