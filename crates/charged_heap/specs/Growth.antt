-- What stays of a store, whatever is done to it and however that ends.
-- This project's own; docs/PRICES.md, "Cells". No statement about ECMA-262.
use Rattle.std.specs.Prelude.{◌≡◌, ℕ, ◌<◌, ◌≤◌, length}
use Rattle.charged_heap.specs.Store.{Store, item_at, kind_of}

-- the limit stays, no item goes, and none changes its kind
pub record Grows (old new : Store) : Type 0 where
  pub limit : new.limit ≡ old.limit
  pub items_stay : length old.items ≤ length new.items
  pub kinds_stay : (n : ℕ) → n < length old.items → kind_of (item_at new n) ≡ kind_of (item_at old n)
