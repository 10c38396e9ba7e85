use Rattle.std.proofs.Common.{◌≡◌, ℕ, length, get_or}
use Rattle.host_machine.specs.Tally.{no_tally}
use Rattle.host_machine.proofs.ledger.Ledger.new.Given as goal

abbrev pub invariant-loop-isolate : goal.invariant-loop-isolate
invariant-loop-isolate l = record { count : length l.tallies ≡ l._isolate; idle : (k : ℕ) → get_or l.tallies k no_tally ≡ no_tally }
