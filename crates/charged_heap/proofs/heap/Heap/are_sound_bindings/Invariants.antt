use Rattle.std.proofs.Common.{ℕ, ◌<◌}
use Rattle.std.specs.Prelude.{slice_index_or}
use Rattle.charged_heap.specs.declared.values.Binding.{Binding}
use Rattle.charged_heap.specs.Closed.{IsSoundBinding}
use Rattle.charged_heap.proofs.heap.Heap.are_sound_bindings.Given as goal

abbrev pub invariant-loop-binding : goal.invariant-loop-binding
invariant-loop-binding l = (k : ℕ) (d : Binding) → k < l.binding-index → IsSoundBinding l.self (slice_index_or l.binding-items k d)
