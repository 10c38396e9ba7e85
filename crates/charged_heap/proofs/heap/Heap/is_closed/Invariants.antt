use Rattle.std.proofs.Common.{ℕ, ◌<◌}
use Rattle.charged_heap.specs.Store.{item_at}
use Rattle.charged_heap.specs.Closed.{IsSound}
use Rattle.charged_heap.proofs.heap.Heap.is_closed.Given as goal

abbrev pub invariant-loop-n : goal.invariant-loop-n
invariant-loop-n l = (k : ℕ) → k < l.n → IsSound l.self k (item_at l.self k)
