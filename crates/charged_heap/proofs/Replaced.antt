-- An item that is replaced by itself.
use Rattle.std.proofs.Common.{◌≡◌, ℕ}
use Rattle.std.specs.Prelude.{slice_set}
use Rattle.std.proofs.lemmas.List.{set-get_or}
use Rattle.charged_heap.specs.Store.{Store, item_at}
use Rattle.charged_heap.specs.declared.item.Item.TheVariants.{Script}

pub replaced_by_itself : (s : Store) (n : ℕ) → slice_set s.items n (item_at s n) ≡ s.items
replaced_by_itself s n = set-get_or s.items n (Script 0)
