use Rattle.std.proofs.Common.{take, ap, sym, ◌∙◌}
use Rattle.host_meaning.specs.Machine.{received}
use Rattle.host_laws.proofs.Driven.{receive_more, may_receive_next}
use Rattle.host_runs.proofs.one_thread.receive_all.Goals as goal

pub receive-requires : goal.receive-requires
receive-requires c =
    may_receive_next c.args.host.now c.loop-out.host c.args.isolate (take c.loop-out.out-index c.args.outs.now) c.args.outs.now c.out-item.result
    c.requires.replies c.requires.within c.loop-out.invariant (c.loop-out.out-index, c.loop-out-test.true, sym c.out-item.is)

pub loop-out-preserved : goal.loop-out-preserved
loop-out-preserved c =
    receive_more c.args.host.now c.loop-out.host c.receive.new.host c.args.isolate c.args.outs.now c.loop-out.out-index c.out-item.result
    c.loop-out.invariant (c.in_ok-receive.ensures ∙ ap (received c.loop-out.host c.args.isolate) c.out-item.is) c.loop-out-test.true
