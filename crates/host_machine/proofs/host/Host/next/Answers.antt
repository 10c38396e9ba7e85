use Rattle.std.proofs.Common.{ap}
use Rattle.host_machine.proofs.NextLemmas.{next_within}
use Rattle.host_machine.proofs.host.Host.next.Goals as goal

pub next_of-requires : goal.next_of-requires
next_of-requires c =
    next_within c.args.self.now c.self.inside.script c.len.result c.in-Some.command.now (ap (λ stand. stand.script) c.self.view_is) c.self.invariant.whole c.in-Some.ensures.value
