use Rattle.std.proofs.Common.{◌≡◌, take}
use Rattle.host_meaning.specs.Machine.{received_all}
use Rattle.host_runs.proofs.one_thread.receive_all.Given as goal

abbrev pub invariant-loop-out : goal.invariant-loop-out
invariant-loop-out l = l.host ≡ received_all l.initial.host l.isolate (take l.out-index l.outs)
