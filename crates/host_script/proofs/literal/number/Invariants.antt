use Rattle.std.proofs.Common.{◌≡◌, ◌≤◌, drop}
use Rattle.host_script.specs.Literals.{most_number, read_on}
use Rattle.host_script.proofs.literal.number.Given as goal

abbrev pub invariant-loop-digit : goal.invariant-loop-digit
invariant-loop-digit l = record {
  within : l.n ≤ most_number;
  rest : read_on l.n (drop l.digit-index l.digits) ≡ read_on 0 l.digits;
}
