use Rattle.std.proofs.Common.{◌≡◌, drop}
use Rattle.charged_heap.specs.Closed.{IsClosed}
use Rattle.charged_heap.specs.Growth.{Grows}
use Rattle.js_scopes.specs.Lists.{with_arguments}
use Rattle.js_scopes.proofs.form_scopes.give_arguments.Given as goal

abbrev pub invariant-loop-place : goal.invariant-loop-place
invariant-loop-place l = record {
  same : with_arguments l.scope (drop l.place l.parameters) (drop l.place l.arguments) l.heap ≡ with_arguments l.scope l.parameters l.arguments l.initial.heap;
  grown : Grows l.initial.heap l.heap;
  closed : IsClosed l.initial.heap → IsClosed l.heap;
}
