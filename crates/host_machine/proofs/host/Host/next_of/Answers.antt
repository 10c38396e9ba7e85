use Rattle.std.proofs.Common.{ap, sym}
use Rattle.host_machine.proofs.NextLemmas.{next_refused, next_posted}
use Rattle.host_machine.proofs.host.Host.next_of.Goals as goal

pub returns-then-is_gone-clause-value : goal.returns-then-is_gone-clause-value
returns-then-is_gone-clause-value c =
    next_refused c.args.self.now c.args.what.now c.in-Some.isolate c.len-drawn.result c.self.inside.calls c.self.inside.ledger.events c.if-is_blocked.ensures c.in-Some.ensures (ap (λ stand. stand.calls) c.self.view_is) c.len-drawn.ensures
    c.if-are_used_up.false (ap (λ stand. stand.history) c.self.view_is) c.if-is_gone.ensures

pub returns-in-Some-2-clause-value : goal.returns-in-Some-2-clause-value
returns-in-Some-2-clause-value c =
    next_posted c.args.self.now c.args.what.now c.in-Some.isolate c.len-drawn.result c.in-Some-2.task c.in_ok-task.field-0 c.self.inside.calls c.self.inside.ledger.events c.if-is_blocked.ensures c.in-Some.ensures (ap (λ stand. stand.calls) c.self.view_is) c.len-drawn.ensures
    c.if-are_used_up.false (ap (λ stand. stand.history) c.self.view_is) c.if-is_gone.ensures c.if-is_stop.ensures c.in_ok-task.ensures (sym c.in-Some-2.is)
