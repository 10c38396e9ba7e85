use Rattle.std.proofs.Common.{ℕ, ◌<◌, List}
use Rattle.std.specs.Prelude.{slice_index_or}
use Rattle.charged_heap.specs.declared.values.Value.{Value}
use Rattle.charged_heap.specs.Closed.{IsSoundValue}
use Rattle.charged_heap.proofs.heap.Heap.are_sound_props.Given as goal

abbrev pub invariant-loop-place : goal.invariant-loop-place
invariant-loop-place l = (k : ℕ) (d : List ℕ × Value) → k < l.place → IsSoundValue l.self (slice_index_or l.props k d).1
