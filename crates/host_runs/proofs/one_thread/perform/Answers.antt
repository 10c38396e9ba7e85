use Rattle.std.proofs.Common.{length, subst, sym}
use Rattle.host_laws.specs.Driving.{AreReplies, outs_at}
use Rattle.host_laws.proofs.Driven.{performed_replies}
use Rattle.host_runs.proofs.one_thread.perform.Goals as goal

pub receive_from-requires-clause-replies : goal.receive_from-requires-clause-replies
receive_from-requires-clause-replies c =
    subst (λ journal. AreReplies (outs_at c.perform.new.self.journal (length journal))) (sym c.journal-place.ensures.value)
    (performed_replies c.args.task c.args.cell.now c.perform.new.self c.in_ok-perform.ensures.ok)
