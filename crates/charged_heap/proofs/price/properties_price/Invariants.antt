use Rattle.std.proofs.Common.{◌≡◌, ◌-◌, ◌^◌, min, take}
use Rattle.charged_heap.specs.Price.{properties_price}
use Rattle.charged_heap.proofs.price.properties_price.Given as goal

abbrev pub invariant-loop-place : goal.invariant-loop-place
invariant-loop-place l = l.total ≡ min (properties_price (take l.place l.props)) (2 ^ 64 - 1)
