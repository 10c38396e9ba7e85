use Rattle.std.proofs.Common.{◌≡◌, map, take}
use Rattle.ivm_report.specs.Report.{first_disposal}
use Rattle.ivm_report.proofs.settlements.first_disposals.Given as goal

abbrev pub invariant-loop-journal : goal.invariant-loop-journal
invariant-loop-journal l = l.firsts.items ≡ map first_disposal (take l.journal-index l.journals)
