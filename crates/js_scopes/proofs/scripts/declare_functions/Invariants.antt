use Rattle.std.proofs.Common.{◌≡◌, drop}
use Rattle.charged_heap.specs.Closed.{IsClosed}
use Rattle.charged_heap.specs.Growth.{Grows}
use Rattle.js_scopes.specs.Scripts.{functions_declared}
use Rattle.js_scopes.proofs.scripts.declare_functions.Given as goal

abbrev pub invariant-loop-declaration : goal.invariant-loop-declaration
invariant-loop-declaration l = record {
  same : functions_declared l.script l.names l.global (drop l.declaration-index l.declared) l.heap ≡ functions_declared l.script l.names l.global l.declared l.initial.heap;
  grown : Grows l.initial.heap l.heap;
  closed : IsClosed l.initial.heap → IsClosed l.heap;
}
