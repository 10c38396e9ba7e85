use Rattle.std.proofs.Common.{◌≡◌, map}
use Rattle.isolate_meaning.specs.Replay.{Kept}
use Rattle.host_runs.proofs.one_thread.journals.Given as goal

abbrev pub invariant-loop-cell : goal.invariant-loop-cell
invariant-loop-cell l = l.journals ≡ map (λ (cell : Kept). cell.journal) l.yielded
