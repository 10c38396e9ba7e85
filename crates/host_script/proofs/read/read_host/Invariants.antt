use Rattle.std.proofs.Common.{◌≡◌, ◌+◌, ◌≤◌, length}
use Rattle.host_script.specs.Words.{lines_of}
use Rattle.host_script.specs.Commands.{no_lines}
use Rattle.host_script.specs.HostText.{with_lines}
use Rattle.host_script.proofs.read.read_host.Given as goal

abbrev pub invariant-loop-line : goal.invariant-loop-line
invariant-loop-line l = record {
  whole : with_lines (l.lines.number + 1) 0 l.draft (lines_of l.lines.rest.now) ≡ with_lines 1 0 no_lines (lines_of l.bytes);
  within : l.lines.number + length l.lines.rest.now ≤ 4194304;
}

abbrev pub decreases-loop-line : goal.decreases-loop-line
decreases-loop-line l = length l.lines.rest.now
