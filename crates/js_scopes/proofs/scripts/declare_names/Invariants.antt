use Rattle.std.proofs.Common.{◌≡◌, drop}
use Rattle.charged_heap.specs.Closed.{IsClosed}
use Rattle.charged_heap.specs.Growth.{Grows}
use Rattle.js_scopes.specs.Scripts.{names_declared}
use Rattle.js_scopes.proofs.scripts.declare_names.Given as goal

abbrev pub invariant-loop-declaration : goal.invariant-loop-declaration
invariant-loop-declaration l = record {
  same : names_declared l.names (drop l.declaration-index l.declared) l.heap ≡ names_declared l.names l.declared l.initial.heap;
  grown : Grows l.initial.heap l.heap;
  closed : IsClosed l.initial.heap → IsClosed l.heap;
}
