use Rattle.std.proofs.Common.{◌≡◌, ◌-◌, ◌^◌, min, take}
use Rattle.charged_heap.specs.Price.{charge_of}
use Rattle.charged_heap.proofs.heap.Heap.add_all.Given as goal

abbrev pub invariant-loop-item : goal.invariant-loop-item
invariant-loop-item l = l.asked ≡ min (charge_of (take l.item-index l.item-items)) (2 ^ 64 - 1)
