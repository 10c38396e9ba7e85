use Rattle.std.proofs.Common.{◌≡◌, ◌++◌, length, drop}
use Rattle.std.specs.Map.{keys_of, values_of}
use Rattle.ivm_text.specs.KeyOrder.{key_order}
use Rattle.js_literals.specs.Copies.{pairs_from}
use Rattle.js_literals.specs.View.{pairs_at}
use Rattle.js_literals.proofs.Walks.{Walk}
use Rattle.js_literals.proofs.copies.leaves_by_key.Given as goal

abbrev pub invariant-loop-place : goal.invariant-loop-place
invariant-loop-place l = record {
  pairs : l.pairs ++ pairs_from (length l.mentioned) (pairs_at l.script (drop l.place-index (key_order l.entries.entries)))
      ≡ pairs_from (length l.fn.mentioned) (pairs_at l.script (key_order l.entries.entries));
  walk : Walk l.script (values_of (pairs_at l.script (drop l.place-index (key_order l.entries.entries)))) (values_of (pairs_at l.script (key_order l.entries.entries))) l.fn.mentioned l.mentioned;
  keys : keys_of l.pairs ++ keys_of (drop l.place-index (key_order l.entries.entries)) ≡ keys_of (key_order l.entries.entries);
}
