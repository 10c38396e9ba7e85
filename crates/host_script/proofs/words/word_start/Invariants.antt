use Rattle.std.proofs.Common.{◌≡◌, ◌+◌, ◌≤◌, not, length, take}
use Rattle.std.specs.List.{suffix_len}
use Rattle.host_script.specs.Words.{is_blank}
use Rattle.host_script.proofs.words.word_start.Given as goal

abbrev pub invariant-loop-start : goal.invariant-loop-start
invariant-loop-start l = record {
  within : l.start ≤ length l.line;
  passed : suffix_len (λ byte. not (is_blank byte)) l.line + l.start ≡ length l.line + suffix_len (λ byte. not (is_blank byte)) (take l.start l.line);
}

abbrev pub decreases-loop-start : goal.decreases-loop-start
decreases-loop-start l = l.start
