use Rattle.script_steps.proofs.LoopLemmas.{copy_throws_nothing}
use Rattle.script_steps.proofs.loops.copy_scope.Goals as goal

pub returns-clause-thrown : goal.returns-clause-thrown
returns-clause-thrown c = copy_throws_nothing c.args.scope c.args.heap.now c.copy_scope.new.heap c.copy_scope.result c.copy_scope.ensures.gives
