use Rattle.std.proofs.Common.{◌≡◌, ◌<◌, false, arith, ap, sym, subst, ◌∙◌}
use Rattle.host_meaning.specs.Machine.{has_answered, have_answered}
use Rattle.host_machine.proofs.LedgerLemmas.{not_all}
use Rattle.host_machine.proofs.ledger.Ledger.have_answered.Goals as goal

pub returns-then-not-has_answered : goal.returns-then-not-has_answered
returns-then-not-has_answered c =
    not_all c.args.self.now.events c.args.self.now.isolates c.loop-isolate.isolate c.tally.result c.has_answered.result (omega (arith, ap (λ ledger. ledger.isolates) c.self.view_is, c.len-isolate-end.ensures)) c.tally.ensures c.has_answered.ensures c.if-not-has_answered.true
