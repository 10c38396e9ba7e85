use Rattle.std.proofs.Common.{◌≡◌, true}
use Rattle.host_meaning.specs.Machine.{have_answered}
use Rattle.host_machine.proofs.ledger.Ledger.have_answered.Given as goal

abbrev pub invariant-loop-isolate : goal.invariant-loop-isolate
invariant-loop-isolate l = have_answered l.self.events l.isolate ≡ true
