use Rattle.std.proofs.Common.{◌≡◌, ◌≤◌, ◌++◌, drop}
use Rattle.ivm_report.specs.Report.{lines_of}
use Rattle.ivm_report.proofs.lines.all_lines.Given as goal

abbrev pub invariant-loop-command : goal.invariant-loop-command
invariant-loop-command l = record {
  told : l.text.items ++ lines_of l.ledger.kept.now l.calls (drop l.command-index l.commands) ≡ lines_of l.ledger.kept.now 0 l.commands;
  few : l.calls ≤ l.command-index;
}
