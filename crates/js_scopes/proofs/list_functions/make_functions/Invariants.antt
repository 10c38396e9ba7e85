use Rattle.std.proofs.Common.{◌≡◌, drop}
use Rattle.charged_heap.specs.Closed.{IsClosed}
use Rattle.charged_heap.specs.Growth.{Grows}
use Rattle.js_scopes.specs.Lists.{functions_made}
use Rattle.js_scopes.proofs.list_functions.make_functions.Given as goal

abbrev pub invariant-loop-declaration : goal.invariant-loop-declaration
invariant-loop-declaration l = record {
  same : functions_made l.script l.global l.scope (drop l.declaration-index l.declared) l.heap ≡ functions_made l.script l.global l.scope l.declared l.initial.heap;
  grown : Grows l.initial.heap l.heap;
  closed : IsClosed l.initial.heap → IsClosed l.heap;
}
