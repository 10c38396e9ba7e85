use Rattle.std.proofs.Common.{codes}
use Rattle.ivm_text.specs.declared.copies.ErrorKind.TheVariants.{RangeError}
use Rattle.js_ops.specs.Outcome.{thrown}
use Rattle.script_eval.proofs.HeapEnds.{ends_so}
use Rattle.script_eval.proofs.enter.too_deep.Goals as goal

pub returns-clause-step : goal.returns-clause-step
returns-clause-step c = ends_so c.args.scripts.now c.of_heap.result c.refuse_depth.result c.args.heap.now c.refuse_depth.new.heap (λ s. thrown RangeError (codes "nesting too deep") s) c.of_heap.ensures.step c.refuse_depth.ensures.gives
