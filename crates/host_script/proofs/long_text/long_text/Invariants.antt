use Rattle.std.proofs.Common.{◌≡◌, ◌+◌, ◌≤◌, length}
use Rattle.host_script.specs.Steps.{HasRead}
use Rattle.host_script.proofs.long_text.long_text.Given as goal

abbrev pub invariant-loop-line : goal.invariant-loop-line
invariant-loop-line l = record {
  read : HasRead l.command l.word l.fn.lines.rest.now l.lines.number l.lines.rest.now l.text.items l.bad;
  began : l.command ≡ l.fn.lines.number;
  within : l.lines.number + length l.lines.rest.now ≤ 4194304;
}

abbrev pub decreases-loop-line : goal.decreases-loop-line
decreases-loop-line l = length l.lines.rest.now
