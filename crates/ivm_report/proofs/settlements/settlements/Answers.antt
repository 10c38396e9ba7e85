use Rattle.std.proofs.Common.{◌∙◌, None, ap, sym, subst, length, ◌<◌, take, slice_index_or}
use Rattle.std.specs.Option.{option_or}
use Rattle.host_meaning.specs.Settlement.{settlement_in}
use Rattle.ivm_report.proofs.SettlementLemmas.{settlement_next}
use Rattle.ivm_report.proofs.settlements.settlements.Goals as goal

pub loop-event-preserved : goal.loop-event-preserved
loop-event-preserved c = record {
  long = c.note.ensures.long ∙ c.loop-event.invariant.long;
  told = λ n l.
      c.note.ensures.noted n (subst (λ k. n < k) (sym c.loop-event.invariant.long) l)
      ∙ ap (λ found. option_or found (settlement_in n c.event-item.result)) (c.loop-event.invariant.told n l)
      ∙ sym (settlement_next n c.loop-event.event-index c.args.history.now c.event-item.result c.loop-event-test.true c.event-item.is);
}
