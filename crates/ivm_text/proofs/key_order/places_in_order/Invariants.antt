use Rattle.std.proofs.Common.{◌≡◌, ℕ, ◌<◌, length, get_or}
use Rattle.ivm_text.proofs.key_order.places_in_order.Given as goal

abbrev pub invariant-loop-place : goal.invariant-loop-place
invariant-loop-place g l = (length l.places.items ≡ l.place) × ((k : ℕ) → k < l.place → get_or l.places.items k 0 ≡ k)
