use Rattle.std.proofs.Common.{sym}
use Rattle.script_steps.specs.After.{with_left}
use Rattle.script_steps.proofs.Passing.{abrupt_passes}
use Rattle.script_steps.proofs.resuming.resume_form.Goals as goal

pub returns-in-Err-clause-step : goal.returns-in-Err-clause-step
returns-in-Err-clause-step c = λ some at takes left.
    rw c.in-Err.is (sym (abrupt_passes at c.args.scripts.now c.args.frame c.in-Err.abrupt (with_left c.args.heap.now left) c.requires.passes))
