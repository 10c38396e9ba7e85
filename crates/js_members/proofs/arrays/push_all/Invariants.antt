use Rattle.std.proofs.Common.{◌≡◌, drop}
use Rattle.charged_heap.specs.Closed.{IsClosed}
use Rattle.charged_heap.specs.Growth.{Grows}
use Rattle.js_members.specs.Arrays.{pushed}
use Rattle.js_members.proofs.arrays.push_all.Given as goal

abbrev pub invariant-loop-value : goal.invariant-loop-value
invariant-loop-value l = record {
  same : pushed l.n (drop l.value-index l.values) l.heap ≡ pushed l.n l.values l.initial.heap;
  grown : Grows l.initial.heap l.heap;
  closed : IsClosed l.initial.heap → IsClosed l.heap;
}
