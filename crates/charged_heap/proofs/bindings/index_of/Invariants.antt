use Rattle.std.proofs.Common.{take}
use Rattle.charged_heap.specs.Index.{IsIndex}
use Rattle.charged_heap.proofs.bindings.index_of.Given as goal

abbrev pub invariant-loop-place : goal.invariant-loop-place
invariant-loop-place l = IsIndex l.places.value.entries (take l.place l.listed)
