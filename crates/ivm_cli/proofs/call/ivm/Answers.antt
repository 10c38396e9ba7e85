use Rattle.ivm_cli.proofs.Completeness.{complete, done_at_end}
use Rattle.ivm_cli.proofs.call.ivm.Goals as goal

pub returns-then-ask_for_a_run-clause-complete : goal.returns-then-ask_for_a_run-clause-complete
returns-then-ask_for_a_run-clause-complete g c run script reads writes =
    complete _ _ _ _ _ c.run.result c.run.ensures.ends script (λ e. reads (c.run.ensures.read_fault e)) (λ e. writes (c.run.ensures.write_fault e))

pub returns-then-ask_for_a_run-clause-nothing_left : goal.returns-then-ask_for_a_run-clause-nothing_left
returns-then-ask_for_a_run-clause-nothing_left g c = done_at_end _ _ _ _ _ c.run.result c.run.ensures.ends
