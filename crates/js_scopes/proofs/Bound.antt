-- A binding that is there has a place that can be given a value.
use Rattle.std.proofs.Common.{ℕ, ◌<◌, length, arith}
use Rattle.charged_heap.specs.Store.{Store, item_at, place_count}
use Rattle.charged_heap.specs.declared.item.Item.{Item}
use Rattle.charged_heap.specs.declared.item.Item.TheVariants as item
use Rattle.js_scopes.specs.Bindings.{bindings_of}

within_item : (one : Item) (place : ℕ) → place < length (bindings_of one) → place < place_count one
within_item (item.Scope parent bindings functions) place within = within
within_item (item.Array values) place within = absurd (omega (arith, within))
within_item _ place within = within

pub place_within : (s : Store) (n place : ℕ) → place < length (bindings_of (item_at s n)) → place < place_count (item_at s n)
place_within s n place within = within_item (item_at s n) place within
