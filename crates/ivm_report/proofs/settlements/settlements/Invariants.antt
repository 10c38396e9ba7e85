use Rattle.std.proofs.Common.{◌≡◌, ℕ, ◌<◌, length, None, take, slice_index_or}
use Rattle.host_meaning.specs.Settlement.{settlement_of}
use Rattle.ivm_report.proofs.settlements.settlements.Given as goal

abbrev pub invariant-loop-event : goal.invariant-loop-event
invariant-loop-event l = record {
  long : length l.table.items ≡ l.count;
  told : (n : ℕ) → n < l.count → slice_index_or l.table.items n None ≡ settlement_of n (take l.event-index l.history);
}
